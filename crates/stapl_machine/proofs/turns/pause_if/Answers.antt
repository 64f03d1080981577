use Rattle.written_cable.proofs.DeedLemmas.{does_nothing}
use Rattle.stapl_machine.proofs.turns.pause_if.Goals as goal

pub returns-in-None : goal.returns-in-None
returns-in-None g c =
    rw c.in-None.is (does_nothing g.C.Cable g.O.Paper c.args.port.now (g.met.C.Cable.none_made c.args.port.now.cable.now) c.requires)
