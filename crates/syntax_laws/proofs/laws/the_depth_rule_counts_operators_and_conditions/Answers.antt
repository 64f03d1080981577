use Rattle.syntax_laws.proofs.Limited.{operators_counted, conditions_counted}
use Rattle.syntax_laws.proofs.laws.the_depth_rule_counts_operators_and_conditions.Goals as goal

pub returns : goal.returns
returns c = record { operators = operators_counted; conditions = conditions_counted }
