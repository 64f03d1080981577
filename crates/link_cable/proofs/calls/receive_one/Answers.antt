use Rattle.link_cable.proofs.WireLemmas.{given}
use Rattle.link_cable.proofs.calls.receive_one.Goals as goal

pub returns-clause-given : goal.returns-clause-given
returns-clause-given g c = given _ _ c.in_ok-n.n c.receive.new.into c.in_ok-n.ensures.received c.receive.ensures.length c.if-n-eq0.false
