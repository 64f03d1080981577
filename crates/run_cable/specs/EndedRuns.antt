-- Runs that are over, as they are handed out.
use Rattle.std.specs.Prelude.{◌≡◌, List, length, map, All}
use Rattle.scan_accounts.specs.ShiftRuns.{ShiftRun}
use Rattle.run_cable.specs.declared.runs.EndedRuns.{EndedRuns}
use Rattle.run_cable.specs.declared.run_place.RunPlace.{RunPlace}
use Rattle.run_cable.specs.KeptRuns.{run_at, LiesBelow}

abbrev pub runs_in : EndedRuns → List ShiftRun
runs_in runs = map (run_at runs.bits_in.now runs.bits_out.now) runs.places.now

-- Their bits stand in both lists, which have as many.
pub record AreInside (runs : EndedRuns) : Type 0 where
  pub below : All (LiesBelow (length runs.bits_in.now)) runs.places.now
  pub as_many : length runs.bits_out.now ≡ length runs.bits_in.now
