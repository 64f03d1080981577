use Rattle.stapl_lexer.proofs.Answered.{answered}
use Rattle.stapl_lexer.proofs.laws.each_piece_has_tokens_or_a_reason.Goals as goal

pub returns : goal.returns
returns c = answered
