use Rattle.stapl_grammar.proofs.Answered.{answered}
use Rattle.stapl_grammar.proofs.laws.each_piece_is_a_statement_or_has_a_reason.Goals as goal

pub returns : goal.returns
returns c = answered
