use Rattle.std.proofs.Common.{◌<◌, List, Bool, false, ap, ◌∙◌, length, replicate, set, arith}
use Rattle.std.proofs.lemmas.List.Edits.{map_over_more}
use Rattle.dev_kinds.proofs.registers.HeldList.clear.Goals as goal

pub loop-i-preserved : goal.loop-i-preserved
loop-i-preserved c =
    let now = c.loop-i.self-inside.list.items in
    let i = c.loop-i.i in
    let inside : i < length c.args.self.now = omega (arith, ap length c.self.view_is) in
    ap (set now i) c.fill_bits.ensures
    ∙ map_over_more (λ (bits : List Bool). replicate (length bits) false) c.args.self.now now i c.index_mut.result.now inside c.loop-i.invariant c.index_mut.ensures.value
