use Rattle.stapl_meaning.specs.Scopes.{as_played}
use Rattle.scan_accounts.proofs.FittingRuns.{said_runs_fit, whole_runs_fit, runs_have_as_many}
use Rattle.scan_accounts.proofs.laws.runs_fit_the_room.Goals as goal

pub returns : goal.returns
returns c = record {
  said = λ text program chosen n base far is.
      said_runs_fit (as_played program) (c.programs_are_typed.ensures text program is) chosen n base far;
  whole = λ text program chosen n base far is.
      whole_runs_fit (as_played program) (c.programs_are_typed.ensures text program is) chosen n base far;
  out = λ at clocks. runs_have_as_many clocks at;
}
