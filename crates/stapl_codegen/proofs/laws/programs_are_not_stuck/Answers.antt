use Rattle.stapl_codegen.proofs.Unstuck.{programs_not_stuck}
use Rattle.stapl_codegen.proofs.laws.programs_are_not_stuck.Goals as goal

pub returns : goal.returns
returns c = programs_not_stuck c.never_stuck.ensures
