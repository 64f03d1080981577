use Rattle.std.proofs.Common.{◌≢◌, ◌<◌, refl, subst}
use Rattle.std.specs.Prelude.{AllPairs}
use Rattle.std.proofs.lemmas.List.{take_all}
use Rattle.stapl_code.specs.declared.raw.ProcDef.{ProcDef}
use Rattle.code_ranges.proofs.Pairs.{pairs_more, pairs_before}
use Rattle.code_ranges.proofs.ranges.are_in_order.Goals as goal

abbrev AreInOrder : ProcDef → ProcDef → Type 0
AreInOrder a b = (a.name ≢ b.name) × (a.entry < b.entry)

pub returns-then-not-is_after : goal.returns-then-not-is_after
returns-then-not-is_after c =
    let m = c.if-not-is_after.ensures in
    (λ f. absurd cc, λ pairs. m.1 (pairs_before AreInOrder c.args.procedures.now c.loop-i.i c.index-procedures-i.result c.loop-i-test.true c.index-procedures-i.is pairs))

pub loop-i-preserved : goal.loop-i-preserved
loop-i-preserved c =
    let m = c.if-not-is_after.ensures in
    pairs_more AreInOrder c.args.procedures.now c.loop-i.i c.index-procedures-i.result c.loop-i-test.true c.index-procedures-i.is c.loop-i.invariant (m.0 refl)

pub returns : goal.returns
returns c = (λ t. subst (AllPairs AreInOrder) (take_all c.loop-i.i c.args.procedures.now c.loop-i-test.false) c.loop-i.invariant, λ pairs. refl)
