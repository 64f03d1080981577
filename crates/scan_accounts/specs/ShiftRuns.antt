-- Runs of clocks at which a register shifts, by the clocks alone: before each clock of a run the controllers stand in
-- the same shift state, and before the clock in front of it and the one after it they stand elsewhere (IEEE 1149.1,
-- controller states Shift-IR and Shift-DR).
use Rattle.std.specs.Prelude.{Bool, true, false, List, [], ◌∷◌, Option, Some, None, is_some}
use Rattle.tap_states.specs.declared.Tap.{Tap}
use Rattle.tap_states.specs.declared.Tap.TheVariants.{DrShift, IrShift}
use Rattle.tap_states.specs.Tap.{next_of}
use Rattle.dev_card.specs.Board.{Clock}

-- the registers that shift at a clock before which the controllers stand in this state, true for the instruction
-- registers; none in any other state than the two
abbrev pub shifting : Tap → Option Bool
shifting IrShift = Some true
shifting DrShift = Some false
shifting _ = None

-- a run: true for the instruction registers, and its TDI and TDO bits, those of its first clock first
pub record ShiftRun : Type 0 where
  pub ir : Bool
  pub bits_in : List Bool
  pub bits_out : List Bool

-- the run of one clock, and a run with one more clock in front of it
abbrev pub one_clock : Bool → Clock → ShiftRun
one_clock ir k = record { ir = ir; bits_in = k.tdi ∷ []; bits_out = k.tdo ∷ [] }

abbrev pub with_clock : Clock → ShiftRun → ShiftRun
with_clock k run = record { ir = run.ir; bits_in = k.tdi ∷ run.bits_in; bits_out = k.tdo ∷ run.bits_out }

-- A clock at which these registers shift, or none, in front of the runs of the clocks after it. It is told whether
-- registers shift in the state after the clock: then the next clock is of the same run, if there is one.
abbrev pub runs_with : Option Bool → Bool → Clock → List ShiftRun → List ShiftRun
runs_with None goes_on k runs = runs
runs_with (Some ir) false k runs = one_clock ir k ∷ runs
runs_with (Some ir) true k [] = one_clock ir k ∷ []
runs_with (Some ir) true k (run ∷ runs) = with_clock k run ∷ runs

-- the runs of clocks, in order, from this state of the controllers on
abbrev pub shift_runs : Tap → List Clock → List ShiftRun
shift_runs at [] = []
shift_runs at (k ∷ ks) =
    runs_with (shifting at) (is_some (shifting (next_of at k.tms))) k (shift_runs (next_of at k.tms) ks)
