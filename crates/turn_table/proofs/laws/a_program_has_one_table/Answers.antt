use Rattle.turn_table.proofs.OneTable.{some_table, one_table}
use Rattle.turn_table.proofs.laws.a_program_has_one_table.Goals as goal

pub returns : goal.returns
returns c = record { some = some_table; one = one_table }
