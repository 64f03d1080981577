-- The runs that are found clock by clock are the longest parts of the clocks at which registers shift.
use Rattle.std.proofs.Common.{◌≡◌, ◌<◌, Bool, true, false, List, [], ◌∷◌, ◌++◌, length, map, Option, Some, None, refl, sym, ap, ◌∙◌, arith}
use Rattle.std.specs.Prelude.{is_some}
use Rattle.std.proofs.lemmas.Bool.{false≢true}
use Rattle.std.proofs.lemmas.Option.{same_Some}
use Rattle.tap_states.specs.declared.Tap.{Tap}
use Rattle.tap_states.specs.declared.Tap.TheVariants.{DrShift, IrShift}
use Rattle.tap_states.specs.Tap.{next_of}
use Rattle.dev_card.specs.Board.{Clock}
use Rattle.scan_accounts.specs.ShiftRuns.{shifting, ShiftRun, one_clock, with_clock, runs_with, shift_runs}
use Rattle.scan_accounts.specs.LongestRuns.{state_after, NoneShifts, AllShiftIn, AreLongestRuns}
use Rattle.scan_accounts.proofs.JoinedRuns.{shifts}

-- from a shift state a clock leads to no other one
same_registers : (at : Tap) (m a b : Bool) → shifting at ≡ Some a → shifting (next_of at m) ≡ Some b → a ≡ b
same_registers DrShift false a b e g = same_Some a b (sym e ∙ g)
same_registers DrShift true a b e g = absurd cc
same_registers IrShift false a b e g = same_Some a b (sym e ∙ g)
same_registers IrShift true a b e g = absurd cc
same_registers _ m a b e g = absurd cc

module _ (at : Tap) (k : Clock) (ks : List Clock) where
  abbrev next : Tap
  next = next_of at k.tms

  -- a clock at which no register shifts, in front of the runs of those after it
  none_in_front : (runs : List ShiftRun) → shifting at ≡ None → AreLongestRuns runs next ks → AreLongestRuns runs at (k ∷ ks)
  none_in_front [] e h = (e, h)
  none_in_front (run ∷ runs) e h = record {
    front = k ∷ h.front;
    own = h.own;
    back = h.back;
    whole = ap (λ t. k ∷ t) h.whole;
    none_before = (e, h.none_before);
    some = h.some;
    shifts = h.shifts;
    ends = h.ends;
    bits_in = h.bits_in;
    bits_out = h.bits_out;
    rest = h.rest;
  }

  module _ (ir : Bool) (e : shifting at ≡ Some ir) where
    -- a run of this one clock
    alone : (runs : List ShiftRun) → (0 < length ks → shifting next ≡ Some ir → ⊥) → AreLongestRuns runs next ks → AreLongestRuns (one_clock ir k ∷ runs) at (k ∷ ks)
    alone runs out h = record {
      front = [];
      own = k ∷ [];
      back = ks;
      whole = refl;
      none_before = tt;
      some = omega arith;
      shifts = (e, tt);
      ends = out;
      bits_in = refl;
      bits_out = refl;
      rest = h;
    }

    -- the clock makes the first run longer
    longer : (run : ShiftRun) (runs : List ShiftRun) (front own back : List Clock) → ks ≡ front ++ (own ++ back) → shifts next ≡ true → NoneShifts next front → 0 < length own
        → AllShiftIn run.ir (state_after next front) own → (0 < length back → shifting (state_after (state_after next front) own) ≡ Some run.ir → ⊥)
        → run.bits_in ≡ map (λ (j : Clock). j.tdi) own → run.bits_out ≡ map (λ (j : Clock). j.tdo) own
        → AreLongestRuns runs (state_after (state_after next front) own) back → AreLongestRuns (with_clock k run ∷ runs) at (k ∷ ks)
    longer run runs (f ∷ front) own back whole on none some own_shifts ends ins outs rest = absurd (false≢true (sym (ap is_some none.0) ∙ on))
    longer run runs [] [] back whole on none some own_shifts ends ins outs rest = absurd (omega (arith, some))
    longer run runs [] (o ∷ own) back whole on none some own_shifts ends ins outs rest = record {
      front = [];
      own = k ∷ o ∷ own;
      back = back;
      whole = ap (λ t. k ∷ t) whole;
      none_before = tt;
      some = omega arith;
      shifts = (e ∙ ap Some (same_registers at k.tms ir run.ir e own_shifts.0), own_shifts);
      ends = ends;
      bits_in = ap (λ t. k.tdi ∷ t) ins;
      bits_out = ap (λ t. k.tdo ∷ t) outs;
      rest = rest;
    }

    -- no clock follows, if none of those that follow shifts
    then_none : (ks : List Clock) → shifts next ≡ true → NoneShifts next ks → 0 < length ks → ⊥
    then_none [] on h some = omega (arith, some)
    then_none (j ∷ js) on h some = false≢true (sym (ap is_some h.0) ∙ on)

    shift_in_front : (goes_on : Bool) → shifts next ≡ goes_on → (runs : List ShiftRun) → AreLongestRuns runs next ks
        → AreLongestRuns (runs_with (Some ir) goes_on k runs) at (k ∷ ks)
    shift_in_front false off runs h = alone runs (λ more g. false≢true (sym off ∙ ap is_some g)) h
    shift_in_front true on [] h = alone [] (λ more g. then_none ks on h more) h
    shift_in_front true on (run ∷ runs) h =
        longer run runs h.front h.own h.back h.whole on h.none_before h.some h.shifts h.ends h.bits_in h.bits_out h.rest

  in_front : (o : Option Bool) → shifting at ≡ o → (runs : List ShiftRun) → AreLongestRuns runs next ks → AreLongestRuns (runs_with o (shifts next) k runs) at (k ∷ ks)
  in_front None e runs h = none_in_front runs e h
  in_front (Some ir) e runs h = shift_in_front ir e (shifts next) refl runs h

pub are_longest : (ks : List Clock) (at : Tap) → AreLongestRuns (shift_runs at ks) at ks
are_longest [] at = tt
are_longest (k ∷ ks) at = in_front at k ks (shifting at) refl (shift_runs (next_of at k.tms) ks) (are_longest ks (next_of at k.tms))
