use Rattle.stapl_grammar.proofs.LawLemmas.{one_piece_statement}
use Rattle.stapl_grammar.proofs.laws.a_piece_is_one_statement.Goals as goal

pub returns : goal.returns
returns c = one_piece_statement
