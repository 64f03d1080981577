use Rattle.stapl_lexer.proofs.PieceLemmas.{cut_one_way}
use Rattle.stapl_lexer.proofs.laws.cut_in_one_way.Goals as goal

pub returns : goal.returns
returns c = cut_one_way
