use Rattle.carried_plays.proofs.ExampleRows.{scanning_text, named_lines, named_number, padding_inside}
use Rattle.carried_plays.proofs.laws.examples_of_carried_programs.Goals as goal

pub returns : goal.returns
returns c = record { text = scanning_text; lines = named_lines; number = named_number; padding = padding_inside }
