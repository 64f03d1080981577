use Rattle.std.proofs.Common.{arith}
use Rattle.chain_sim.proofs.Clocking.{card_read}
use Rattle.chain_sim.proofs.rack.tdo_at.Goals as goal

pub tdo-requires : goal.tdo-requires
tdo-requires g c =
    rw (card_read g.D.Device.fitted c.args.rack.now.items c.args.place c.index.result.now (omega arith) c.index.ensures) at c.requires.fitted

pub returns : goal.returns
returns g c =
    rw (card_read g.D.Device.fitted c.args.rack.now.items c.args.place c.index.result.now (omega arith) c.index.ensures) c.tdo.ensures
