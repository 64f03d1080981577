-- What calls on a cable do, by their results. All ghost members of the cable are one argument, `C.Cable`.
use Rattle.std.specs.Prelude.{ℕ, Bool, List, Result, Ok, Err}
use Rattle.tap_states.specs.declared.Tap.{Tap}
use Rattle.dev_card.specs.Board.{Input}
use Rattle.dev_card.specs.Scans.{BoardScan}
use Rattle.scan_paths.specs.declared.cable.Cable.{Ghosts as CableOf}
use Rattle.scan_paths.specs.Cables.{IsCableKept, HasMade, HasMadeFront}
use Rattle.scan_paths.specs.Scans.{HasSeen, HasScanned, HasScannedFront}

-- What a call keeps: the cable is whole after it, or broken if the call failed, and the counts of the line and of the
-- pins are kept, each with its cause.
abbrev pub KeepsCable : {C T E : Type 0} → CableOf C → C → C → Result T E → Type 0
KeepsCable cable old new result =
    IsCableKept cable.line_faults cable.is_line_last cable.pin_faults cable.is_pin_last cable.breakage old new result

-- Clocks were made with exactly these inputs, or with a front of them if the call failed.
abbrev pub MakesClocks : {C T E : Type 0} → CableOf C → C → List Input → C → Result T E → Type 0
MakesClocks cable old inputs new (Ok x) = HasMade cable.board cable.made old new inputs
MakesClocks cable old inputs new (Err e) = HasMadeFront cable.board cable.made old new inputs

-- The same, and these TDO bits were seen from this place on, if the call did not fail.
abbrev pub SeesClocks : {C T E : Type 0} → CableOf C → C → List Input → ℕ → List Bool → C → Result T E → Type 0
SeesClocks cable old inputs place captured new (Ok x) = HasSeen cable.board cable.made old new inputs place captured
SeesClocks cable old inputs place captured new (Err e) = HasMadeFront cable.board cable.made old new inputs

-- The clocks of a scan were made, and these bits were captured from them, or a front of them was made if the call
-- failed.
abbrev pub MakesScan : {C T E : Type 0} → CableOf C → C → Tap → BoardScan → List Bool → C → Result T E → Type 0
MakesScan cable old at s captured new (Ok x) = HasScanned cable.board cable.made old new at s captured
MakesScan cable old at s captured new (Err e) = HasScannedFront cable.board cable.made old new at s
