use Rattle.std.proofs.Common.{arith}
use Rattle.valid_codes.proofs.DepthSteps.{grown, rest_is}
use Rattle.valid_codes.proofs.depth.deepest.Goals as goal

pub loop-i-preserved : goal.loop-i-preserved
loop-i-preserved c =
    let after = c.in_ok-follow.ensures in
    let most = c.max-most.ensures in
    let count = c.len.ensures in
    let before = c.loop-i.invariant.rest in
    let small = grown c.args.variables.now c.args.instrs.now c.loop-i.i c.index-instrs-i.result c.loop-i-test.true c.index-instrs-i.is c.loop-i.kinds c.follow.new.kinds
    c.in_ok-follow.field-0 after c.if-not-branch.false in
    let rest = rest_is c.args.variables.now c.args.instrs.now c.loop-i.i c.index-instrs-i.result c.loop-i-test.true c.index-instrs-i.is c.loop-i.kinds c.follow.new.kinds
    c.in_ok-follow.field-0 after c.if-not-branch.false in
    record {
      small = omega (arith, small, c.loop-i.invariant.small);
      few = omega (arith, most, count, c.loop-i.invariant.small, c.loop-i.invariant.few);
      rest = omega (arith, most, count, before, rest);
    }
