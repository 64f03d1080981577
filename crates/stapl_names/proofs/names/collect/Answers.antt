use Rattle.std.proofs.Common.{arith}
use Rattle.stapl_names.proofs.UnderWay.{under_way_more, names_done}
use Rattle.stapl_names.proofs.Finished.{tables_finished}
use Rattle.stapl_names.proofs.names.collect.Goals as goal

pub loop-i-preserved : goal.loop-i-preserved
loop-i-preserved c =
    let at = c.index-stmts-i in
    under_way_more c.args.pieces.now c.args.stmts.now c.loop-i.i _ at.result _ _ _ _ _ c.requires.alike c.loop-i-test.true at.is
    c.inside_next-inside.ensures c.loop-i.invariant c.in-Ok.ensures

pub invariant_of-result : goal.invariant_of-result
invariant_of-result c =
    let are = names_done c.args.pieces.now c.args.stmts.now c.loop-i.i c.loop-i.tables c.loop-i.inside _ c.requires.alike c.loop-i-test.false c.loop-i.invariant in
    tables_finished c.loop-i.tables c.args.pieces.now c.args.stmts.now c.loop-i.invariant.used c.loop-i.invariant.spelled are (omega arith)
