use Rattle.meaning_laws.proofs.NamedFaults.{expr_table}
use Rattle.meaning_laws.proofs.laws.faults.expressions_break_by_the_table.Goals as goal

pub returns : goal.returns
returns c = expr_table
