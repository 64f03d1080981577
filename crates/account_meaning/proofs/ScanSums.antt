-- The scans of the turns of a code, as those of its program.
use Rattle.std.proofs.Common.{◌≡◌, ◌+◌, ℕ, suc, Bool, true, false, List, [], ◌∷◌, ◌++◌, map, Option, Some, refl, sym, ap, ap₂, ◌∙◌}
use Rattle.std.specs.Prelude.{cond, count_by, flat_map, slice_get, ◌&&◌}
use Rattle.std.specs.Bool.{beq}
use Rattle.std.specs.Option.{option_map_or}
use Rattle.std.proofs.lemmas.List.Sums.{sum_by-append, sum_by-cons}
use Rattle.dev_card.specs.Padding.{BaseLengths}
use Rattle.stapl_meaning.specs.Plays.{Run}
use Rattle.stapl_code.specs.declared.raw.CodeLists.{CodeLists}
use Rattle.scan_accounts.specs.ShiftRuns.{ShiftRun, shift_runs}
use Rattle.scan_accounts.specs.MadeTurns.{MadeTurn, clocks_among}
use Rattle.scan_accounts.specs.Accounts.{Passage, passages_of, said_run, scans_among}
use Rattle.account_lines.specs.declared.lines.TurnPlace.{TurnPlace}
use Rattle.account_plays.specs.AccountedTurns.{turn_scans, scans_if}
use Rattle.account_plays.specs.AccountedRuns.{said_in, turns_scans, AreNextCodeTurns}

module _ (table : List TurnPlace) (base : BaseLengths) (ir : Bool) where
  abbrev counts : Passage → ℕ
  counts p = cond (p.scan && beq p.run.ir ir) 1 0

  abbrev of_register : ShiftRun → ℕ
  of_register run = cond (beq run.ir ir) 1 0

  abbrev passage_of : ℕ → Bool → ShiftRun → Passage
  passage_of place b run = record { place = place; scan = b; run = said_run base b run }

  -- the scans among what is said of runs
  scans_said : (place : ℕ) (b : Bool) (runs : List ShiftRun) → scans_if b (count_by (λ (r : ShiftRun). beq r.ir ir) runs) ≡ scans_among ir (map (passage_of place b) runs)
  scans_said place true [] = refl
  scans_said place false [] = refl
  scans_said place true (run ∷ runs) =
      sum_by-cons of_register run runs ∙ ap (λ n. of_register run + n) (scans_said place true runs)
      ∙ sym (sum_by-cons counts (passage_of place true run) (map (passage_of place true) runs))
  scans_said place false (run ∷ runs) = scans_said place false runs

  scans_of_turn : (t : MadeTurn) (said : TurnPlace) → slice_get table t.place ≡ Some said → t.scans ≡ said.scans →
      turn_scans (said_in table t.place) ir t.from t.events ≡ scans_among ir (passages_of base t)
  scans_of_turn t said there scans =
      let runs : List ShiftRun = shift_runs t.from (clocks_among t.events) in
      ap (λ (o : Option TurnPlace). turn_scans (option_map_or (λ x. x) o (record { piece = t.place; line = 0; scans = false })) ir t.from t.events) there
      ∙ ap (λ (b : Bool). scans_if b (count_by (λ (r : ShiftRun). beq r.ir ir) runs)) (sym scans) ∙ scans_said t.place t.scans runs

  pub scans_are : (code : CodeLists) (runs : ℕ → Run) (ts : List MadeTurn) → AreNextCodeTurns code table runs ts →
      turns_scans table ir ts ≡ scans_among ir (flat_map (passages_of base) ts)
  scans_are code runs [] are = refl
  scans_are code runs (t ∷ ts) are =
      sum_by-cons (λ (t : MadeTurn). turn_scans (said_in table t.place) ir t.from t.events) t ts
      ∙ ap₂ (λ n m. n + m) (scans_of_turn t are.0.said are.0.in_table are.0.scans) (scans_are code (λ m. runs (suc m)) ts are.1)
      ∙ sym (sum_by-append counts (passages_of base t) (flat_map (passages_of base) ts))
