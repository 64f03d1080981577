use Rattle.std.proofs.Common.{◌+◌, ◌++◌, ◌≤◌, ℕ, Bool, true, false, suc, ap, ◌∙◌, arith, drop, if◌then◌else◌}
use Rattle.stapl_codegen.specs.Numbers.{numbers_from}
use Rattle.stapl_codegen.proofs.Numbers.{numbers_more}
use Rattle.stapl_codegen.proofs.definitions.procedure_numbers.Goals as goal

one_more : (b : Bool) (next : ℕ) → (if b then next else suc next) ≤ next + 1
one_more true next = omega arith
one_more false next = omega arith

pub loop-block-preserved : goal.loop-block-preserved
loop-block-preserved c =
    let block = c.block_at.result.now in
    let next = c.loop-block.next in
    let few = c.loop-block.invariant.few in
    record {
      few = omega (arith, c.number_after-next.ensures, one_more block.is_data next, few);
      numbers = ap (λ n. c.push.new.self.items ++ numbers_from n (drop (c.loop-block.block + 1) c.args.names.now.blocks)) c.number_after-next.ensures
          ∙ numbers_more c.args.names.now.blocks c.loop-block.block next (block.name, block) c.loop-block.numbers.items c.push.new.self.items _
          c.loop-block.invariant.numbers c.block_at.ensures.entry c.in_ok-push.ensures.items;
    }
