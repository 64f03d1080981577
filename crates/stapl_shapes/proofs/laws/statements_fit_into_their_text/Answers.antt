use Rattle.stapl_shapes.proofs.TextLemmas.{program_fits}
use Rattle.stapl_shapes.proofs.laws.statements_fit_into_their_text.Goals as goal

pub returns : goal.returns
returns c = program_fits
