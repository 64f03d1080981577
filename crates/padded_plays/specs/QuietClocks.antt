-- Clocks that leave the devices around a run of neighbours as they are, in BYPASS (IEEE 1149.1, clause 10, bypass
-- register). Which clocks are quiet is this profile's.
use Rattle.std.specs.Prelude.{◌≡◌, ◌||◌, Bool, true, false, List, [], ◌∷◌, length}
use Rattle.tap_states.specs.declared.Tap.{Tap}
use Rattle.tap_states.specs.declared.Tap.TheVariants.{Reset, DrShift, IrCapture, IrShift}
use Rattle.tap_states.specs.Tap.{next_of}
use Rattle.tap_states.specs.Path.{path_of}
use Rattle.dev_card.specs.Card.{Card}
use Rattle.dev_card.specs.Line.{pause_state}
use Rattle.dev_card.specs.Padding.{program_bits}
use Rattle.dev_card.specs.Clocks.{at_shift}
use Rattle.dev_card.specs.Scans.{BoardScan}
use Rattle.dev_card.specs.Sound.{register_lengths}

-- The states into which only the clocks of a scan may lead: the shift states, and Capture-IR, from which each way leads
-- through an update of the instruction.
abbrev pub is_scan_state : Tap → Bool
is_scan_state DrShift = true
is_scan_state IrCapture = true
is_scan_state IrShift = true
is_scan_state _ = false

-- no clock of a walk with these TMS values leads into one of them
abbrev pub IsQuietWalk : Tap → List Bool → Type 0
IsQuietWalk at [] = Unit {0}
IsQuietWalk at (tms ∷ rest) = (is_scan_state (next_of at tms) ≡ false) × IsQuietWalk (next_of at tms) rest

-- Whether an instruction was loaded: a scan of the instruction registers has followed the last clock that led into
-- Test-Logic-Reset. This is kept for a clock that led to a state, and for a walk.
abbrev pub loaded_at : Tap → Bool → Bool
loaded_at Reset loaded = false
loaded_at _ loaded = loaded

abbrev pub loaded_after : Tap → List Bool → Bool → Bool
loaded_after at [] loaded = loaded
loaded_after at (tms ∷ rest) loaded = loaded_after (next_of at tms) rest (loaded_at (next_of at tms) loaded)

-- A quiet scan of a run of neighbours that stands alone. With the paddings of the program it has as many bits as the
-- registers between TDI and TDO at its first shift clock: the instruction registers, or the data registers that were
-- captured. A scan of the data registers asks that an instruction was loaded. The move to its stop state is quiet.
pub record IsQuietScan (loaded : Bool) (at : Tap) (alone : List Card) (s : BoardScan) : Type 0 where
  pub as_long : length (program_bits s.paddings s.bits) ≡ register_lengths s.ir (at_shift at s.ir alone)
  pub loaded_before : s.ir ≡ false → loaded ≡ true
  pub quiet_stop : IsQuietWalk (pause_state s.ir) (path_of (pause_state s.ir) s.stop)

-- whether an instruction was loaded, after a scan and the move to its stop state
abbrev pub loaded_by_scan : Bool → BoardScan → Bool
loaded_by_scan loaded s = loaded_after (pause_state s.ir) (path_of (pause_state s.ir) s.stop) (s.ir || loaded)
