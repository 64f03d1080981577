use Rattle.meaning_laws.proofs.TurnLemmas.{one_fault}
use Rattle.meaning_laws.proofs.laws.faults.a_turn_has_one_fault.Goals as goal

pub returns : goal.returns
returns c = one_fault
