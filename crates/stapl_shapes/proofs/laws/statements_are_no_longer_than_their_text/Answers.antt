use Rattle.stapl_shapes.proofs.SizeLemmas.{program_fits}
use Rattle.stapl_shapes.proofs.laws.statements_are_no_longer_than_their_text.Goals as goal

pub returns : goal.returns
returns c = program_fits
