use Rattle.meaning_laws.proofs.TurnLemmas.{turn_breaks, turn_only}
use Rattle.meaning_laws.proofs.laws.faults.turns_break_by_the_table.Goals as goal

pub returns-clause-breaks : goal.returns-clause-breaks
returns-clause-breaks c = turn_breaks

pub returns-clause-only : goal.returns-clause-only
returns-clause-only c = turn_only
