use Rattle.stapl_grammar.proofs.LawLemmas.{no_reason}
use Rattle.stapl_grammar.proofs.laws.a_statement_has_no_reason.Goals as goal

pub returns : goal.returns
returns c = λ text piece st reason is holds. no_reason st is holds
