use Rattle.syntax_laws.proofs.FewestInStatements.{fewest_in_statement}
use Rattle.syntax_laws.proofs.laws.printed_statements_have_the_fewest_brackets.Goals as goal

pub returns : goal.returns
returns c = fewest_in_statement
