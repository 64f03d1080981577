use Rattle.stapl_names.proofs.Uses.{place_more}
use Rattle.stapl_names.proofs.blocks.put_uses.Goals as goal

pub loop-place-preserved : goal.loop-place-preserved
loop-place-preserved c =
    let at = c.index-uses-place in
    place_more c.args.own.now c.args.uses.now c.loop-place.place at.result _ _ _ c.loop-place-test.true at.is c.loop-place.invariant c.in_ok-put.ensures
