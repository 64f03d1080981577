use Rattle.syntax_laws.proofs.Fewest.{fewest_brackets, no_others_as_few, fewest_of_array, no_others_of_array}
use Rattle.syntax_laws.proofs.laws.printed_expressions_have_the_fewest_brackets.Goals as goal

pub returns : goal.returns
returns c = record { fewest = fewest_brackets; only = no_others_as_few; array_fewest = fewest_of_array; array_only = no_others_of_array }
