-- What it is that an instruction was loaded, in the deeds of a play: a scan of the instruction registers was made, and
-- no clock since then has led into Test-Logic-Reset. So quietness is told without a flag.
use Rattle.std.specs.Prelude.{◌≡◌, ◌≢◌, ◌<◌, true, false, List, [], ◌∷◌, ◌++◌, length, replicate}
use Rattle.tap_states.specs.declared.Tap.{Tap}
use Rattle.tap_states.specs.declared.Tap.TheVariants.{Reset}
use Rattle.tap_states.specs.Tap.{next_of, is_stable_state}
use Rattle.dev_card.specs.Board.{Input}
use Rattle.tap_states.specs.Path.{path_of}
use Rattle.dev_card.specs.Line.{exit_state, pause_state}
use Rattle.dev_card.specs.Padding.{program_bits}
use Rattle.dev_card.specs.Sound.{register_lengths}
use Rattle.dev_card.specs.Clocks.{at_shift, rest_tms, move_inputs, stay_inputs, pause_inputs, stop_inputs}
use Rattle.dev_card.specs.Scans.{BoardScan, inputs_of_scan}
use Rattle.padded_plays.specs.QuietClocks.{IsQuietWalk}
use Rattle.stapl_meaning.specs.Deeds.{Deed, Says, Goes, Stays, Scans, Chain, based, deed_chain, deeds_chain}
use Rattle.padded_plays.specs.QuietPlays.{told_cards}

-- what goes in at the clocks of a deed
abbrev pub deed_inputs : Chain → Deed → List Input
deed_inputs k (Says event) = []
deed_inputs k (Goes to) = move_inputs k.tap to
deed_inputs k (Stays n) = stay_inputs k.tap n
deed_inputs k (Scans scan) = inputs_of_scan k.tap (based k.base scan)

-- no clock under these inputs leads into Test-Logic-Reset, and none of these deeds
abbrev pub StaysOutOfReset : Tap → List Input → Type 0
StaysOutOfReset at [] = Unit {0}
StaysOutOfReset at (i ∷ is) = (next_of at i.tms ≢ Reset) × StaysOutOfReset (next_of at i.tms) is

abbrev pub StayOutOfReset : Chain → List Deed → Type 0
StayOutOfReset k [] = Unit {0}
StayOutOfReset k (d ∷ ds) = StaysOutOfReset k.tap (deed_inputs k d) × StayOutOfReset (deed_chain k d) ds

-- each scan begins in a stable state and has a bit of data, as the scans of a program do
abbrev pub IsWholeScan : Chain → Deed → Type 0
IsWholeScan k (Scans scan) = (is_stable_state k.tap ≡ true) × (0 < length scan.bits)
IsWholeScan k _ = Unit {0}

abbrev pub AreWholeScans : Chain → List Deed → Type 0
AreWholeScans k [] = Unit {0}
AreWholeScans k (d ∷ ds) = IsWholeScan k d × AreWholeScans (deed_chain k d) ds

-- One of these deeds is a scan of the instruction registers. No clock after its last shift clock, and none of the deeds
-- after it, leads into Test-Logic-Reset.
pub record WasLoaded (k : Chain) (deeds : List Deed) : Type 0 where
  pub front : List Deed
  pub scan : BoardScan
  pub back : List Deed
  pub whole : deeds ≡ front ++ (Scans scan ∷ back)
  pub instruction : scan.ir ≡ true
  pub rest : StaysOutOfReset (exit_state scan.ir) (pause_inputs ++ stop_inputs scan.ir scan.stop)
  pub since : StayOutOfReset (deed_chain (deeds_chain k front) (Scans scan)) back

-- a scan is quiet after these deeds, on the chain of a run that stands alone
pub record IsQuietScanAfter (k : Chain) (front : List Deed) (s : BoardScan) : Type 0 where
  pub as_long : length (program_bits s.paddings s.bits)
      ≡ register_lengths s.ir (at_shift (deeds_chain k front).tap s.ir (told_cards (deeds_chain k front).far))
  pub loaded_before : s.ir ≡ false → WasLoaded k front
  pub quiet_stop : IsQuietWalk (pause_state s.ir) (path_of (pause_state s.ir) s.stop)

-- so is a deed
abbrev pub IsQuietAfter : Chain → List Deed → Deed → Type 0
IsQuietAfter k front (Says event) = Unit {0}
IsQuietAfter k front (Goes to) = IsQuietWalk (deeds_chain k front).tap (path_of (deeds_chain k front).tap to)
IsQuietAfter k front (Stays n) =
    IsQuietWalk (deeds_chain k front).tap (replicate n (rest_tms (deeds_chain k front).tap))
IsQuietAfter k front (Scans scan) = IsQuietScanAfter k front scan

-- each of these deeds is quiet after those before it
abbrev pub EachIsQuiet : Chain → List Deed → Type 0
EachIsQuiet k deeds =
    (front : List Deed) (d : Deed) (back : List Deed) → deeds ≡ front ++ (d ∷ back) → IsQuietAfter k front d
