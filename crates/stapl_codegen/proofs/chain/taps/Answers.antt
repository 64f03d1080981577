use Rattle.stapl_codegen.proofs.Taps.{taps_more}
use Rattle.stapl_codegen.proofs.chain.taps.Goals as goal

pub loop-number-preserved : goal.loop-number-preserved
loop-number-preserved c =
    taps_more c.args.numbers.now c.loop-number.number-index c.loop-number.list.items c.push.new.self.items c.tap.result c.loop-number-test.true
    c.loop-number.invariant c.in_ok-push.ensures.items c.tap.ensures
