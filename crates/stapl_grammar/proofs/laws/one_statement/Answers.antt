use Rattle.stapl_grammar.proofs.LawLemmas.{one_meaning}
use Rattle.stapl_grammar.proofs.laws.one_statement.Goals as goal

pub returns : goal.returns
returns c = one_meaning
