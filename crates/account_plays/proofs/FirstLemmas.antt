-- On the first clocks of a play over a cable that keeps the runs of its clocks.
use Rattle.std.proofs.Common.{◌≡◌, ◌+◌, ℕ, Bool, true, false, List, [], ◌∷◌, length, map, refl, sym, ap, subst, ◌∙◌, arith}
use Rattle.std.specs.Prelude.{is_some}
use Rattle.std.proofs.lemmas.List.{length-map}
use Rattle.tap_states.specs.declared.Tap.TheVariants.{Reset}
use Rattle.tap_states.specs.Tap.{next_of}
use Rattle.dev_card.specs.Board.{Clock, Input, AllIn}
use Rattle.scan_paths.specs.declared.cable.Cable.{Ghosts as CableOf}
use Rattle.scan_paths.specs.Cables.{input_of, whole, pulsed, WhereTold}
use Rattle.scan_paths.proofs.Signals.{clocks_in_pulsed}
use Rattle.written_cable.specs.Resets.{IsReset}
use Rattle.stapl_machine.specs.Machines.{Resets}
use Rattle.scan_accounts.specs.ShiftRuns.{shifting, runs_with, shift_runs}
use Rattle.scan_accounts.specs.Rooms.{bits_of, FitIn}
use Rattle.scan_accounts.specs.AccountTexts.{counted}
use Rattle.run_cable.specs.declared.run_cable.RunCable.{RunCable}
use Rattle.run_cable.specs.HeardRuns.{Heard, all_runs, heard_all, heard_clock}
use Rattle.run_cable.specs.KeptRuns.{Kept, Hears, HearsIfRoom, begun}
use Rattle.run_cable.specs.RunCables.{runs_of, cable_of, LeadsRuns}
use Rattle.run_cable.proofs.HeardLemmas.{runs_are, scans_stay, usec_stays}
use Rattle.account_plays.specs.AccountTurns.{begun_at}
use Rattle.account_plays.specs.AccountedTurns.{SumsGoOn}
use Rattle.account_plays.proofs.HeardTurns.{counted_none, counted_next}

-- the clocks and the microseconds that were heard of clocks
clocks_heard : (ks : List Clock) (h : Heard) → counted (heard_all h (pulsed ks)).clocks ≡ counted (h.clocks + length ks)
clocks_heard [] h = counted_none h.clocks
clocks_heard (k ∷ ks) h = clocks_heard ks (heard_clock h k) ∙ counted_next h.clocks (length ks)

usec_heard : (ks : List Clock) (h : Heard) → (heard_all h (pulsed ks)).usec ≡ h.usec
usec_heard [] h = refl
usec_heard (k ∷ ks) h = usec_heard ks (heard_clock h k) ∙ usec_stays h k

-- clocks with TMS 1 in the reset state have no run
abbrev AreOnes : List Input → Type 0
AreOnes [] = Unit {0}
AreOnes (i ∷ is) = (i.tms ≡ true) × AreOnes is

none_shift : (ks : List Clock) → AreOnes (map input_of ks) → shift_runs Reset ks ≡ []
none_shift [] ones = refl
none_shift (k ∷ ks) ones =
    subst (λ (tms : Bool). runs_with (shifting Reset) (is_some (shifting (next_of Reset tms))) k (shift_runs (next_of Reset tms) ks) ≡ []) (sym ones.0)
    (none_shift ks ones.1)

none_fit : (bits runs : ℕ) → FitIn bits runs []
none_fit bits runs = let e : bits_of [] ≡ 0 = refl in record { together = omega (arith, e); few = omega arith }

module _ {C : Type 0} (cable : CableOf C) (a b : RunCable C) (digits : List ℕ)
    (r : IsReset (λ (c : RunCable C). cable.board (cable_of c)) (LeadsRuns cable.made cable.breakage) a b digits) (is_whole : cable.breakage (cable_of b) ≡ whole) where
  pub resets : (old new : C) → cable_of a ≡ old → new ≡ cable_of b → WhereTold (cable.board (cable_of b)) (AllIn Reset) → Resets cable old new digits
  resets old new old_is new_is told =
      subst (λ (d : C). Resets cable old d digits) (sym new_is)
      (subst (λ (d : C). Resets cable d (cable_of b) digits) old_is (record {
        reset = record {
          made = record {
            clocks = r.made.clocks;
            made = record { made = r.made.made.made.made; went_in = r.made.made.went_in; seen = r.made.made.seen; cards = r.made.made.cards };
          };
          digits_are = r.digits_are;
        };
        open_now = record { whole_cable = is_whole; in_reset = told };
      }))

  -- what was heard of them
  pub first_sums : (runs new_runs : Kept) → runs_of a ≡ begun_at Reset runs → new_runs ≡ runs_of b → runs.lost ≡ false → SumsGoOn runs 5 0 0 0 new_runs
  first_sums runs new_runs begun_is runs_is none_lost =
      let ks : List Clock = r.made.clocks in let first : Heard = begun Reset runs.heard in let leads = r.made.made.made in
      let hears : Hears (begun_at Reset runs) (pulsed ks) new_runs =
      subst (λ (k : Kept). Hears k (pulsed ks) new_runs) begun_is (subst (λ (k : Kept). Hears (runs_of a) (pulsed ks) k) (sym runs_is) leads.heard) in
      let fits : HearsIfRoom (begun_at Reset runs) (pulsed ks) new_runs =
      subst (λ (k : Kept). HearsIfRoom k (pulsed ks) new_runs) begun_is (subst (λ (k : Kept). HearsIfRoom (runs_of a) (pulsed ks) k) (sym runs_is) (leads.fits is_whole)) in
      let ones : AreOnes (map input_of ks) = subst AreOnes (sym r.made.made.went_in) (refl, (refl, (refl, (refl, (refl, tt))))) in
      let none : all_runs (heard_all first (pulsed ks)) ≡ [] =
      runs_are (pulsed ks) first refl refl ∙ ap (shift_runs Reset) (clocks_in_pulsed ks) ∙ none_shift ks ones in
      let kept : new_runs.lost ≡ false =
      fits none_lost (subst (λ rs. FitIn runs.room.bits runs.room.runs rs) (sym none) (none_fit runs.room.bits runs.room.runs)) in
      let heard : new_runs.heard ≡ heard_all first (pulsed ks) = (hears.known kept).heard in
      let five : length ks ≡ 5 = sym (length-map ks input_of) ∙ ap (λ (is : List Input). length is) r.made.made.went_in in
      record {
        none_lost = kept;
        same_room = hears.room;
        more_clocks = ap (λ (h : Heard). counted h.clocks) heard ∙ clocks_heard ks first ∙ ap (λ n. counted (runs.heard.clocks + n)) five;
        more_usec = ap (λ (h : Heard). counted h.usec) heard ∙ ap counted (usec_heard ks first) ∙ counted_none runs.heard.usec;
        more_ir = ap (λ (h : Heard). counted h.ir_scans) heard ∙ ap counted (scans_stay (pulsed ks) first).0 ∙ counted_none runs.heard.ir_scans;
        more_dr = ap (λ (h : Heard). counted h.dr_scans) heard ∙ ap counted (scans_stay (pulsed ks) first).1 ∙ counted_none runs.heard.dr_scans;
      }
