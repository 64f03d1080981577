use Rattle.std.proofs.Common.{◌-◌, arith}
use Rattle.dev_kinds.proofs.RingBlocks.{ring_given}
use Rattle.dev_kinds.proofs.ring.give_ring.Goals as goal

pub returns : goal.returns
returns c =
    ring_given c.args.len c.args.head
    (c.args.len - c.args.head) c.args.ring.now c.args.bits.now c.copy_range.new.self c.copy_range-2.new.self
    (omega (arith, c.requires.inside))
    c.requires.within c.requires.room c.copy_range.ensures.copied c.copy_range-2.ensures.copied
