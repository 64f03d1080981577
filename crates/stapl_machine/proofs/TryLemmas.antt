-- On the rest of a turn after instructions that were tried.
use Rattle.std.proofs.Common.{◌≡◌, ◌<◌, ℕ, ◌+◌, List, [], length, drop, get_or, sym, ap, ◌∙◌, arith}
use Rattle.stapl_meaning.specs.declared.values.Value.{Value}
use Rattle.stapl_meaning.specs.Deeds.{Chain}
use Rattle.stapl_meaning.specs.States.{State, Leads, Led, happened_in_piece}
use Rattle.stapl_code.specs.declared.instr.Instr.{Instr}
use Rattle.stapl_code.specs.declared.raw.CodeLists.{CodeLists}
use Rattle.stapl_code.specs.Machine.{Step, Falls, Stops, stretch, continues}
use Rattle.stapl_code.specs.Ticks.{ticks, tick_of, counted_after}
use Rattle.stapl_code.specs.Safe.{entries_of, constants_of}
use Rattle.machine_memory.specs.declared.memory.Workspace.{Workspace}
use Rattle.machine_memory.specs.Acts.{state_of, operands_of, step_of}
use Rattle.stapl_machine.specs.Turns.{rest_of, ticks_from}
use Rattle.stapl_machine.proofs.TurnLemmas.{after, ticks_after, one_more, one_tick}

counted : (a s k t u : ℕ) → s ≡ a + k → u ≡ k + t → s + t ≡ a + u
counted a s k t u e f = omega arith

-- instruction i of a turn was tried
module _ (code : CodeLists) (i : ℕ) (chosen : List ℕ) (work new : Workspace) where
  module _ (x : Instr) (inside : i < length code.instrs) (is : x ≡ get_or code.instrs i x) where
    -- it is done, and the next one follows
    pub on_goes : new.piece ≡ work.piece → step_of code i x chosen work ≡ Falls (operands_of new) (state_of chosen new) →
        (k : Chain) → rest_of code i chosen work k ≡ rest_of code (i + 1) chosen new k
    on_goes piece e k =
        one_more code i chosen work x inside is k
        ∙ ap (λ (st : Step). happened_in_piece work.piece (continues k st (after code i))) e
        ∙ ap (λ (p : ℕ). happened_in_piece p (after code i (operands_of new) (state_of chosen new) k)) (sym piece)

    pub on_counts : (before now : ℕ) → now ≡ before + tick_of x → step_of code i x chosen work ≡ Falls (operands_of new) (state_of chosen new) →
        (k : Chain) → now + ticks_from code (i + 1) chosen new k ≡ before + ticks_from code i chosen work k
    on_counts before now n e k =
        counted before now (tick_of x) _ _ n
        (one_tick code i chosen work x inside is k ∙ ap (λ (st : Step). tick_of x + counted_after k st (ticks_after code i)) e)

    -- it is done, and led to the turn at a place
    pub to_goes : (place : ℕ) → step_of code i x chosen work ≡ Stops [] (Leads [] place (state_of chosen new)) →
        (k : Chain) → rest_of code i chosen work k ≡ Led [] place (state_of chosen new) k
    to_goes place e k =
        one_more code i chosen work x inside is k ∙ ap (λ (st : Step). happened_in_piece work.piece (continues k st (after code i))) e

    pub to_counts : (place before now : ℕ) → now ≡ before + tick_of x → step_of code i x chosen work ≡ Stops [] (Leads [] place (state_of chosen new)) →
        (k : Chain) → now + 0 ≡ before + ticks_from code i chosen work k
    to_counts place before now n e k =
        counted before now (tick_of x) 0 _ n
        (one_tick code i chosen work x inside is k ∙ ap (λ (st : Step). tick_of x + counted_after k st (ticks_after code i)) e)

  -- it is not done
  pub not_goes : new.piece ≡ work.piece → operands_of new ≡ operands_of work → state_of chosen new ≡ state_of chosen work →
      (k : Chain) → rest_of code i chosen work k ≡ rest_of code i chosen new k
  not_goes piece ops e k =
      let rest = λ (l : List Value) (s : State). stretch (entries_of code.procedures) (constants_of code) (length code.instrs) (drop i code.instrs) l s k in
      sym (ap (λ (p : ℕ). happened_in_piece p (rest (operands_of new) (state_of chosen new))) piece
      ∙ ap (λ (l : List Value). happened_in_piece work.piece (rest l (state_of chosen new))) ops
      ∙ ap (λ (s : State). happened_in_piece work.piece (rest (operands_of work) s)) e)

  pub not_counts : (before : ℕ) → operands_of new ≡ operands_of work → state_of chosen new ≡ state_of chosen work →
      (k : Chain) → before + ticks_from code i chosen new k ≡ before + ticks_from code i chosen work k
  not_counts before ops e k =
      let rest = λ (l : List Value) (s : State). before + ticks (entries_of code.procedures) (constants_of code) (length code.instrs) (drop i code.instrs) l s k in
      ap (λ (l : List Value). rest l (state_of chosen new)) ops ∙ ap (λ (s : State). rest (operands_of work) s) e
