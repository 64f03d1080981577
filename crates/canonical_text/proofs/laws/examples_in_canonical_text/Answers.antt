use Rattle.canonical_text.proofs.Rows.{first_row, second_row, third_row}
use Rattle.canonical_text.proofs.laws.examples_in_canonical_text.Goals as goal

pub returns : goal.returns
returns c = record { first = first_row; second = second_row; third = third_row }
