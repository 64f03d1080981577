use Rattle.std.proofs.Common.{◌+◌, drop, map, subst}
use Rattle.stapl_syntax.specs.Trees.{part_tree}
use Rattle.stapl_codegen.proofs.Heads.{mapped_more}
use Rattle.stapl_codegen.proofs.Emits.{AreWritten, part_more}
use Rattle.stapl_codegen.proofs.emit.Emitter.parts.Goals as goal

pub loop-part-preserved : goal.loop-part-preserved
loop-part-preserved c =
    let all = map part_tree c.args.parts.now in
    let i = c.loop-part.part-index in
    let part = c.part-item.result in
    let is = mapped_more part_tree i c.args.parts.now part c.loop-part-test.true c.part-item.is in
    let so_far = subst (AreWritten c.args.self.now all c.loop-part.self c.loop-part.list.items) is c.loop-part.invariant in
    let ensures = c.in_ok-part.ensures in
    part_more (part_tree part) (drop (i + 1) all) c.args.self.now c.loop-part.self c.part.new.self all c.loop-part.list.items c.push.new.self.items c.in_ok-part.field-0 so_far
    ensures.drafted ensures.printed c.in_ok-push.ensures.items
