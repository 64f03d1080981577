use Rattle.syntax_laws.proofs.Limited.{operators_limited, conditions_limited, nesting_limited}
use Rattle.syntax_laws.proofs.laws.a_statement_keeps_the_limits.Goals as goal

pub returns : goal.returns
returns c = record { operators = operators_limited; conditions = conditions_limited; nesting = nesting_limited }
