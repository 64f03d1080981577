use Rattle.stapl_lexer.proofs.Dividing.{divided}
use Rattle.stapl_lexer.proofs.laws.every_text_is_divided.Goals as goal

pub returns : goal.returns
returns c = divided
