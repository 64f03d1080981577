-- The five turns of the procedure that sets the paddings.
use Rattle.std.proofs.Common.{◌≡◌, ℕ, suc, ◌+◌, ◌≤◌, ◌&&◌, true, List, [], ◌∷◌, ◌++◌, length, map, replicate, Some, None, slice_get, refl, ap, ◌∙◌, arith}
use Rattle.std.proofs.lemmas.Bool.{and_from, le-leb}
use Rattle.std.specs.Prelude.{pos, int_le, nat_le}
use Rattle.stapl_lexer.specs.declared.terminal.Padding.{Padding}
use Rattle.stapl_lexer.specs.declared.terminal.Padding.TheVariants as paddings
use Rattle.stapl_syntax.specs.Trees.{end_procedure, StmtTree}
use Rattle.dev_card.specs.Padding.{BaseLengths}
use Rattle.stapl_meaning.specs.declared.events.RunFault.TheVariants.{BadLength}
use Rattle.stapl_meaning.specs.Values.{Known, then_get, passed}
use Rattle.stapl_meaning.specs.Deeds.{Chain}
use Rattle.stapl_meaning.specs.States.{State, Leads, with_got, turn_of_piece, next_chosen, led, Falls, happens}
use Rattle.stapl_meaning.specs.Effects.{with_records, returned_from}
use Rattle.stapl_meaning.specs.Scans.{padding_limit, with_padding}
use Rattle.stapl_meaning.specs.Scopes.{Played, scope_at, entry_from}
use Rattle.stapl_meaning.specs.Turns.{turn, turn_of}
use Rattle.stapl_meaning.specs.Plays.{goes_on, run}
use Rattle.canonical_text.specs.Examples.{bare_statement}
use Rattle.carried_plays.specs.CarriedPrograms.{ones_padding, padding_procedure, with_item}
use Rattle.carried_plays.specs.CarriedRuns.{ones, padded_state}
use Rattle.carried_plays.proofs.CarriedPieces.{after_front}

within : (n : ℕ) → n ≤ 65536 → (int_le (pos 0) (pos n) && int_le (pos n) (pos padding_limit)) ≡ true
within n h = and_from (nat_le 0 n) (nat_le n 65536) (le-leb 0 n (omega arith)) (le-leb n 65536 h)

module _ (program : Played) (i : ℕ) (s : State) where
  pub pad_turn : (which : Padding) (n : ℕ) → n ≤ 65536 → slice_get program.pieces i ≡ Some (ones_padding which n)
      → turn program i s ≡ Leads [] (i + 1) (with_padding which (ones n) s)
  pad_turn which n h at =
      ap (turn_of (scope_at program i) (i + 1) s) at
      ∙ ap (λ b. turn_of_piece (i + 1)
      (with_got (then_get (then_get (passed b BadLength n) (λ n. Known (replicate n true))) (λ bits. Known (Falls [] (with_padding which bits s)))) s
      (λ did. led (scope_at program i).entry None did (λ t. Leads [] (i + 1) t)))) (within n h)

  pub end_turn : s.records ≡ [] → slice_get program.pieces i ≡ Some (bare_statement end_procedure)
      → turn program i s ≡ turn_of_piece (i + 1) (next_chosen (entry_from program.pieces) (with_records s []) s.chosen)
  end_turn none at =
      ap (turn_of (scope_at program i) (i + 1) s) at
      ∙ ap (λ rs. turn_of_piece (i + 1) (with_got (Known (returned_from rs s)) s (λ did. led (entry_from program.pieces) None did (λ t. Leads [] (i + 1) t)))) none

-- a turn that only leads on
leads_on : (program : Played) (n i j : ℕ) (s t : State) (k : Chain) → turn program i s ≡ Leads [] j t → run program (suc n) i s k ≡ run program n j t k
leads_on program n i j s t k e = ap (λ u. goes_on (happens k u) s k (run program n)) e

chosen_of_piece : (piece : ℕ) (e : ℕ → ℕ) (s : State) (ps : List ℕ) → turn_of_piece piece (next_chosen e s ps) ≡ next_chosen e s ps
chosen_of_piece piece e s [] = refl
chosen_of_piece piece e s (p ∷ ps) = refl

module _ (name : List ℕ) (base : BaseLengths) (program : Played) (front tail : List StmtTree)
    (is : program.pieces ≡ map (with_item name) front ++ (padding_procedure name base ++ tail))
    (a : base.ir_pre ≤ 65536) (b : base.ir_post ≤ 65536) (c : base.dr_pre ≤ 65536) (d : base.dr_post ≤ 65536) where
  at_place : (i j : ℕ) (st : StmtTree) → i ≡ length front + j → slice_get (padding_procedure name base ++ tail) j ≡ Some st → slice_get program.pieces i ≡ Some st
  at_place i j st e f = ap (λ (ps : List StmtTree). slice_get ps i) is ∙ after_front name front (padding_procedure name base ++ tail) i j e ∙ f

  -- from the new procedure's first piece, in a state without records
  pub five_turns : (n i : ℕ) (s : State) (k : Chain) → i ≡ length front + 1 → s.records ≡ []
      → run program (suc (suc (suc (suc (suc n))))) i s k
      ≡ goes_on (happens k (next_chosen (entry_from program.pieces) (with_records (padded_state base s) []) s.chosen)) (padded_state base s) k (run program n)
  five_turns n i s k e none =
      let s1 : State = with_padding paddings.PreInstruction (ones base.ir_pre) s in
      let s2 : State = with_padding paddings.PostInstruction (ones base.ir_post) s1 in
      let s3 : State = with_padding paddings.PreData (ones base.dr_pre) s2 in
      let s4 : State = with_padding paddings.PostData (ones base.dr_post) s3 in
      let i1 : ℕ = i + 1 in
      let i2 : ℕ = i1 + 1 in
      let i3 : ℕ = i2 + 1 in
      let i4 : ℕ = i3 + 1 in
      leads_on program (suc (suc (suc (suc n)))) i i1 s s1 k (pad_turn program i s paddings.PreInstruction base.ir_pre a (at_place i 1 (ones_padding paddings.PreInstruction base.ir_pre) e refl))
      ∙ leads_on program (suc (suc (suc n))) i1 i2 s1 s2 k
      (pad_turn program i1 s1 paddings.PostInstruction base.ir_post b (at_place i1 2 (ones_padding paddings.PostInstruction base.ir_post) (omega arith) refl))
      ∙ leads_on program (suc (suc n)) i2 i3 s2 s3 k (pad_turn program i2 s2 paddings.PreData base.dr_pre c (at_place i2 3 (ones_padding paddings.PreData base.dr_pre) (omega arith) refl))
      ∙ leads_on program (suc n) i3 i4 s3 s4 k (pad_turn program i3 s3 paddings.PostData base.dr_post d (at_place i3 4 (ones_padding paddings.PostData base.dr_post) (omega arith) refl))
      ∙ ap (λ u. goes_on (happens k u) s4 k (run program n))
      (end_turn program i4 s4 none (at_place i4 5 (bare_statement end_procedure) (omega arith) refl) ∙ chosen_of_piece (i4 + 1) (entry_from program.pieces) (with_records s4 []) s.chosen)
