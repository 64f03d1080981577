use Rattle.stapl_lexer.proofs.Existence.{cut_exists}
use Rattle.stapl_lexer.proofs.laws.every_text_has_pieces.Goals as goal

pub returns : goal.returns
returns c = cut_exists
