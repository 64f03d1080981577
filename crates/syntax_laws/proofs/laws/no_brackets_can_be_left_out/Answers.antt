use Rattle.syntax_laws.proofs.Fewest.{none_left_out, none_left_out_of_array}
use Rattle.syntax_laws.proofs.FewestInStatements.{none_left_out_of_statement}
use Rattle.syntax_laws.proofs.laws.no_brackets_can_be_left_out.Goals as goal

pub returns : goal.returns
returns c = record {
  expression = none_left_out;
  array = none_left_out_of_array;
  statement = none_left_out_of_statement;
}
