use Rattle.effect_laws.proofs.Assignments.{ends_with}
use Rattle.effect_laws.proofs.laws.assignments.exit_ends_the_run_with_its_code.Goals as goal

pub returns : goal.returns
returns c = ends_with
