use Rattle.effect_laws.proofs.Ways.{returns_after, next_begins, last_ends}
use Rattle.effect_laws.proofs.laws.ways.a_procedure_returns_after_its_call.Goals as goal

pub returns : goal.returns
returns c = record { call = returns_after; next = next_begins; last = last_ends }
