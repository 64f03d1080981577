use Rattle.meaning_laws.proofs.SideLemmas.{between, before}
use Rattle.meaning_laws.proofs.laws.values.an_expression_has_the_value_of_its_operator.Goals as goal

pub returns-clause-between : goal.returns-clause-between
returns-clause-between c = between

pub returns-clause-before : goal.returns-clause-before
returns-clause-before c = before
