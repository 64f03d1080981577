-- What a cable that keeps the runs of its clocks stands over, and what calls do to it.
use Rattle.std.specs.Prelude.{◌≡◌, ℕ, List, Option}
use Rattle.std.specs.Borrow.{MutBor}
use Rattle.dev_card.specs.Card.{Card}
use Rattle.scan_paths.specs.Cables.{Signal, Breakage, whole}
use Rattle.run_cable.specs.declared.run_cable.RunCable.{RunCable}
use Rattle.run_cable.specs.KeptRuns.{Kept, Hears, HearsIfRoom}

abbrev pub cable_of : {C : Type 0} → RunCable C → C
cable_of c = c.cable.now

abbrev pub runs_of : {C : Type 0} → RunCable C → Kept
runs_of c = c.runs.now

-- it stands over the cable, and keeps the runs, that references point to
abbrev pub IsOverCable : {C R : Type 0} → RunCable C → MutBor R → Type 0
IsOverCable c cable = c.cable.ghost_name ≡ cable.ghost_name

abbrev pub KeepsIn : {C R : Type 0} → RunCable C → MutBor R → Type 0
KeepsIn c runs = c.runs.ghost_name ≡ runs.ghost_name

-- a new one over a cable and runs
pub record IsNewRunCable {C R : Type 0} (over_cable : MutBor C) (kept : MutBor R) (c : RunCable C) : Type 0 where
  pub same_cable : IsOverCable c over_cable
  pub same_runs : KeepsIn c kept
  pub cable : cable_of c ≡ over_cable.now

-- Signals were made on the cable, and heard. Where the cable is whole then, it was before, and nothing was lost for want
-- of anything but room.
pub record LeadsRuns {C : Type 0} (makes : C → List Signal → C → Type 0) (breakage : C → Breakage) (old : RunCable C)
    (signals : List Signal) (new : RunCable C) : Type 0 where
  pub same_cable : new.cable.ghost_name ≡ old.cable.ghost_name
  pub same_runs : new.runs.ghost_name ≡ old.runs.ghost_name
  pub made : makes (cable_of old) signals (cable_of new)
  pub heard : Hears (runs_of old) signals (runs_of new)
  pub was_whole : breakage (cable_of new) ≡ whole → breakage (cable_of old) ≡ whole
  pub fits : breakage (cable_of new) ≡ whole → HearsIfRoom (runs_of old) signals (runs_of new)
