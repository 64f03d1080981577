use Rattle.std.proofs.Common.{arith}
use Rattle.dev_kinds.proofs.RingBlocks.{exchanged, part_below}
use Rattle.dev_kinds.proofs.ring.exchange.Goals as goal

pub returns-clause-bits : goal.returns-clause-bits
returns-clause-bits c =
    exchanged c.args.len c.args.head c.args.n c.word-out.result c.args.number c.args.ring.now c.set_word.new.self c.requires.inside c.requires.within
    c.word-out.ensures.bits c.set_word.ensures.bits

pub returns-clause-below : goal.returns-clause-below
returns-clause-below c = rw c.word-out.ensures.value (part_below c.args.head c.args.n c.args.ring.now (omega (arith, c.requires.inside, c.requires.within)))
