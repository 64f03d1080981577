use Rattle.std.proofs.Common.{arith, ap, length}
use Rattle.stapl_checker.proofs.ReadingLemmas.{few_statements}
use Rattle.stapl_checker.proofs.checking.judge.Goals as goal

pub collect-requires-clause-few : goal.collect-requires-clause-few
collect-requires-clause-few c =
    let fewer = few_statements c.args.text.now c.in_ok-pieces.pieces.items c.in_ok-reading.reading (rw c.deref.ensures.value at c.in_ok-reading.ensures) in
    let few = c.in_ok-pieces.ensures.few in
    let short = c.requires in
    let same = ap length c.deref-3.ensures.value in
    omega (arith, fewer, few, short, same)

pub judge_read-verdict-requires-clause-few : goal.judge_read-verdict-requires-clause-few
judge_read-verdict-requires-clause-few c =
    let fewer = few_statements c.args.text.now c.in_ok-pieces.pieces.items c.in_ok-reading.reading (rw c.deref.ensures.value at c.in_ok-reading.ensures) in
    let few = c.in_ok-pieces.ensures.few in
    let short = c.requires in
    omega (arith, fewer, few, short)
