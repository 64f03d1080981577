use Rattle.std.proofs.Common.{◌+◌, None, arith}
use Rattle.code_kinds.proofs.TakenIntegers.{off_more, off_none}
use Rattle.code_kinds.proofs.kinds.take_integers.Goals as goal

pub returns-then-not-take : goal.returns-then-not-take
returns-then-not-take c = λ variables.
    let done = c.loop.counter in
    let none = off_more variables c.args.kinds.now done c.loop.kinds None (c.loop.invariant variables) c.if-not-take.ensures in
    off_none variables c.args.kinds.now (done + 1) c.args.count (omega (arith, c.loop-test.true)) none
