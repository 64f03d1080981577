use Rattle.stapl_shapes.proofs.ShapeLemmas.{program_shaped}
use Rattle.stapl_shapes.proofs.laws.programs_are_shaped.Goals as goal

pub returns : goal.returns
returns c = program_shaped
