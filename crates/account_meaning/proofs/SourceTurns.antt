-- The turns of a code, as those of its program.
use Rattle.std.proofs.Common.{◌≡◌, ◌≤◌, ◌<◌, ◌^◌, ◌+◌, ◌⊎◌, inl, inr, ℕ, zero, suc, List, [], ◌∷◌, ◌++◌, length, refl, sym, ap, ap₂, subst, ◌∙◌, arith, Some, Option, false}
use Rattle.std.specs.Option.{option_map_or}
use Rattle.std.specs.Prelude.{slice_get}
use Rattle.std.proofs.lemmas.List.{append-nil, append_cancel_left}
use Rattle.tap_states.specs.declared.Tap.{Tap}
use Rattle.dev_card.specs.Padding.{BaseLengths}
use Rattle.dev_card.specs.FarEnds.{FarEnd}
use Rattle.stapl_meaning.specs.declared.events.Event.{Event}
use Rattle.stapl_meaning.specs.Deeds.{Chain}
use Rattle.stapl_meaning.specs.States.{State, Happened, Led, Finished, Broke, Lacks, happens}
use Rattle.stapl_meaning.specs.Scopes.{Played, zeros_of}
use Rattle.stapl_meaning.specs.Turns.{turn}
use Rattle.stapl_meaning.specs.Plays.{Run, Going, after, goes_on, run, procedures_run, beginning, start, chain_reset}
use Rattle.stapl_code.specs.declared.instr.Instr.{Instr}
use Rattle.stapl_code.specs.declared.raw.CodeLists.{CodeLists}
use Rattle.stapl_codegen.specs.Emit.{start_of, program_code}
use Rattle.stapl_codegen.specs.Correct.{placed_run}
use Rattle.stapl_codegen.specs.Generated.{IsCodeOf}
use Rattle.stapl_machine.specs.Machines.{play_of}
use Rattle.stapl_machine.specs.Turns.{piece_of}
use Rattle.stapl_machine.proofs.RunLemmas.{after_twice}
use Rattle.quiet_runs.proofs.FirstZeros.{same_zeros}
use Rattle.quiet_runs.proofs.PieceAt.{start_piece}
use Rattle.scan_accounts.specs.MadeTurns.{MadeTurn, scans_at, happened_events, made_turn, turns_after, made_turns, made_play}
use Rattle.account_lines.specs.declared.lines.TurnPlace.{TurnPlace}
use Rattle.account_plays.specs.AccountedRuns.{said_in, IsNextCodeTurn, AreNextCodeTurns, HasStopped}
use Rattle.account_meaning.specs.Tables.{TellsScans}

-- a run of one turn of a program has the events of that turn
one_source_turn : (program : Played) (h : Happened) (s : State) (k : Chain) → (goes_on h s k (run program 0)).events ≡ happened_events h
one_source_turn program (Led events place u l) s k = append-nil events
one_source_turn program (Finished events ending u l) s k = refl
one_source_turn program (Broke events f u l) s k = refl
one_source_turn program (Lacks events) s k = refl

module _ (program : Played) (code : CodeLists) (table : List TurnPlace) (is : IsCodeOf program code) (short : length code.instrs < 2 ^ 32)
    (scans : TellsScans program table) where
  abbrev placed : Run → Run
  placed r = placed_run (start_of program) r

  instrs : code.instrs ≡ program_code program
  instrs = ap (λ (c : CodeLists). c.instrs) is.lists

  -- the piece of the Turn at which the code of a piece begins
  piece_is : (i at piece : ℕ) → at ≡ start_of program i → piece_of (slice_get code.instrs at) ≡ Some (piece + 1) → piece ≡ i
  piece_is i at piece e there =
      let found : piece + 1 ≡ i + 1 =
      start_piece program (subst (λ (l : List Instr). length l < 2 ^ 32) instrs short) i (piece + 1)
      (ap (λ p. piece_of (slice_get (program_code program) p)) (sym e) ∙ ap (λ (l : List Instr). piece_of (slice_get l at)) (sym instrs) ∙ there) in
      omega (arith, found)

  -- the first of the turns
  first_is : (i : ℕ) (s : State) (k : Chain) (seen : List Event) (runs : ℕ → Run) (t : MadeTurn) → ((m : ℕ) → runs m ≡ placed (after seen (run program m i s k))) →
      IsNextCodeTurn code table (runs 0) (runs 1) t → t ≡ made_turn program i s k
  first_is i s k seen runs t e next =
      let h : Happened = happens k (turn program i s) in
      let goes : Going next.at ≡ Going (start_of program i) = sym next.goes ∙ ap (λ (r : Run). r.outcome) (e 0) in
      let at : next.at ≡ start_of program i = cc in
      let place : t.place ≡ i = piece_is i next.at t.place at next.piece in
      let told : said_in table t.place ≡ next.said =
      ap (λ (o : Option TurnPlace). option_map_or (λ said. said) o (record { piece = t.place; line = 0; scans = false })) next.in_table in
      let scan : t.scans ≡ scans_at program i = next.scans ∙ ap (λ (x : TurnPlace). x.scans) (sym told) ∙ scans t.place ∙ ap (scans_at program) place in
      let from : t.from ≡ k.tap = sym next.from ∙ ap (λ (r : Run). r.chain.tap) (e 0) in
      let events : t.events ≡ happened_events h =
      append_cancel_left seen t.events (happened_events h)
      (ap (λ (es : List Event). es ++ t.events) (sym (append-nil seen)) ∙ ap (λ (es : List Event). es ++ t.events) (sym (ap (λ (r : Run). r.events) (e 0)))
      ∙ sym next.events ∙ ap (λ (r : Run). r.events) (e 1) ∙ ap (λ (es : List Event). seen ++ es) (one_source_turn program h s k)) in
      ap₂ (λ (p : ℕ) (es : List Event). let x : MadeTurn = record { place = p; scans = t.scans; from = t.from; events = es } in x) place events
      ∙ ap₂ (λ b (f : Tap). let x : MadeTurn = record { place = i; scans = b; from = f; events = happened_events h } in x) scan from

  -- no turn follows what does not go on
  none_follows : (runs : ℕ → Run) (ts : List MadeTurn) → AreNextCodeTurns code table runs ts → HasStopped (runs 0) → ts ≡ []
  none_follows runs [] are stops = refl
  none_follows runs (t ∷ ts) are stops = absurd (stops are.0.at are.0.goes)

  -- what follows the first turn, if what follows a turn that leads on is known
  module _ (n i : ℕ) (s : State) (k : Chain) (seen : List Event) (runs : ℕ → Run) (ts : List MadeTurn)
      (e : (m : ℕ) → runs m ≡ placed (after seen (run program m i s k))) (are : AreNextCodeTurns code table (λ m. runs (suc m)) ts)
      (again : (p : ℕ) (u : State) (l : Chain) (more : List Event) → ((m : ℕ) → runs (suc m) ≡ placed (after more (run program m p u l))) →
      ts ≡ made_turns program n p u l) where
    next : (h : Happened) → happens k (turn program i s) ≡ h → (m : ℕ) → runs (suc m) ≡ placed (after seen (goes_on h s k (run program m)))
    next h is m = e (suc m) ∙ ap (λ (x : Happened). placed (after seen (goes_on x s k (run program m)))) is

    rest_is : (h : Happened) → happens k (turn program i s) ≡ h → ts ≡ turns_after h (made_turns program n)
    rest_is (Led events p u l) is =
        again p u l (seen ++ events) (λ m. next (Led events p u l) is m ∙ ap placed (after_twice seen events (run program m p u l)))
    rest_is (Finished events ending u l) is =
        none_follows (λ m. runs (suc m)) ts are (subst HasStopped (sym (next (Finished events ending u l) is 0)) (λ at e. absurd cc))
    rest_is (Broke events f u l) is =
        none_follows (λ m. runs (suc m)) ts are (subst HasStopped (sym (next (Broke events f u l) is 0)) (λ at e. absurd cc))
    rest_is (Lacks events) is =
        none_follows (λ m. runs (suc m)) ts are (subst HasStopped (sym (next (Lacks events) is 0)) (λ at e. absurd cc))

  whole_rest : (n : ℕ) (runs : ℕ → Run) (t : MadeTurn) (ts : List MadeTurn) → (length (t ∷ ts) ≡ suc n) ⊎ HasStopped (runs (length (t ∷ ts))) →
      (length ts ≡ n) ⊎ HasStopped (runs (suc (length ts)))
  whole_rest n runs t ts (inl same) = inl (omega (arith, same))
  whole_rest n runs t ts (inr stops) = inr stops

  turns_are : (n i : ℕ) (s : State) (k : Chain) (seen : List Event) (runs : ℕ → Run) (ts : List MadeTurn) →
      ((m : ℕ) → runs m ≡ placed (after seen (run program m i s k))) → AreNextCodeTurns code table runs ts → length ts ≤ n →
      (length ts ≡ n) ⊎ HasStopped (runs (length ts)) → ts ≡ made_turns program n i s k
  turns_are zero i s k seen runs [] e are few whole = refl
  turns_are zero i s k seen runs (t ∷ ts) e are few whole = absurd (omega (arith, few))
  turns_are (suc n) i s k seen runs [] e are few (inl same) = absurd (omega (arith, same))
  turns_are (suc n) i s k seen runs [] e are few (inr stops) = absurd (stops (start_of program i) (ap (λ (r : Run). r.outcome) (e 0)))
  turns_are (suc n) i s k seen runs (t ∷ ts) e are few whole =
      ap₂ (λ x xs. x ∷ xs) (first_is i s k seen runs t e are.0)
      (rest_is n i s k seen runs ts e are.1
      (λ p u l more next. turns_are n p u l more (λ m. runs (suc m)) ts next are.1 (omega (arith, few)) (whole_rest n runs t ts whole))
      (happens k (turn program i s)) refl)

  -- from the beginning of a play on
  pub source_turns : (chosen : List ℕ) (n : ℕ) (base : BaseLengths) (far : FarEnd) (ts : List MadeTurn) →
      AreNextCodeTurns code table (λ m. play_of code chosen m (chain_reset base far)) ts → length ts ≤ n →
      (length ts ≡ n) ⊎ HasStopped (play_of code chosen (length ts) (chain_reset base far)) → ts ≡ (made_play program chosen n base far).turns
  source_turns chosen n base far ts are few whole = by (happens k (beginning program s0)) refl
    where
      k : Chain
      k = chain_reset base far

      s0 : State
      s0 = start chosen (zeros_of program)

      runs : ℕ → Run
      runs m = play_of code chosen m k

      same : (m : ℕ) → runs m ≡ placed (procedures_run program chosen m k)
      same m = rw (same_zeros program code is) (is.stands chosen m k)

      from : (h : Happened) → happens k (beginning program s0) ≡ h → (m : ℕ) → runs m ≡ placed (goes_on h s0 k (run program m))
      from h e m = same m ∙ ap (λ (x : Happened). placed (goes_on x s0 k (run program m))) e

      by : (h : Happened) → happens k (beginning program s0) ≡ h → ts ≡ turns_after h (made_turns program n)
      by (Led events p u l) e = turns_are n p u l events runs ts (from (Led events p u l) e) are few whole
      by (Finished events ending u l) e = none_follows runs ts are (subst HasStopped (sym (from (Finished events ending u l) e 0)) (λ at e. absurd cc))
      by (Broke events f u l) e = none_follows runs ts are (subst HasStopped (sym (from (Broke events f u l) e 0)) (λ at e. absurd cc))
      by (Lacks events) e = none_follows runs ts are (subst HasStopped (sym (from (Lacks events) e 0)) (λ at e. absurd cc))
