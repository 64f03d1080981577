use Rattle.stapl_lexer.proofs.Existence.{lexemes_exist}
use Rattle.stapl_lexer.proofs.laws.all_bytes_have_tokens.Goals as goal

pub returns : goal.returns
returns c = lexemes_exist
