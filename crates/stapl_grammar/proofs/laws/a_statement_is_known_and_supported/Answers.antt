use Rattle.stapl_grammar.proofs.BodyClean.{labelled_clean}
use Rattle.stapl_grammar.proofs.laws.a_statement_is_known_and_supported.Goals as goal

pub returns : goal.returns
returns c = record {
  known = λ s statement m. (labelled_clean s statement.label statement.body m).0;
  supported = λ s statement m. (labelled_clean s statement.label statement.body m).1;
}
