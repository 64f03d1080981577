use Rattle.machine_memory.proofs.RoomLemmas.{agree_seen, count_of_room}
use Rattle.machine_memory.proofs.scan_bits.ScanBits.agrees_under.Goals as goal

pub returns : goal.returns
returns c =
    let a = c.args in
    let own = c.self.inside in
    agree_seen c.masked_equal.result own.count c.as_bits-2.result.now own.room c.as_bits.result.now a.mask.now a.self.now a.other.now
    c.self.view_is c.as_bits.ensures.own c.as_bits-2.ensures.own (count_of_room own.count own.room a.self.now c.self.view_is c.self.invariant)
    c.requires.other c.requires.mask c.masked_equal.ensures
