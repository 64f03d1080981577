use Rattle.std.proofs.Common.{rules, ◌≡◌, ◌-◌, get_or, arith}
use Rattle.stapl_meaning.specs.declared.records.Record.TheVariants.{Looped}
use Rattle.machine_loops.proofs.LoopLemmas.{loop_found}
use Rattle.machine_loops.proofs.loops.find_loop.Goals as goal

pub returns-then-for_loop-n : goal.returns-then-for_loop-n
returns-then-for_loop-n c =
    let is : Looped c.in-Looped.for_loop ≡ get_or c.args.records.now (c.down.at - 1) (Looped c.in-Looped.for_loop) = search rules in
    loop_found c.args.records.now c.args.n c.down.at c.in-Looped.for_loop (omega arith) c.down.invariant.inside is c.if-for_loop-n.true c.down.invariant.same
