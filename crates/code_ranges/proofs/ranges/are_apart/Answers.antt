use Rattle.std.proofs.Common.{◌≢◌, refl, subst}
use Rattle.std.specs.Prelude.{AllPairs}
use Rattle.std.proofs.lemmas.List.{take_all}
use Rattle.stapl_code.specs.declared.raw.ActionDef.{ActionDef}
use Rattle.code_ranges.proofs.Pairs.{pairs_more, pairs_before}
use Rattle.code_ranges.proofs.ranges.are_apart.Goals as goal

abbrev AreApart : ActionDef → ActionDef → Type 0
AreApart a b = a.name ≢ b.name

pub returns-then-not-is_apart : goal.returns-then-not-is_apart
returns-then-not-is_apart c =
    let m = c.if-not-is_apart.ensures in
    (λ f. absurd cc, λ pairs. m.1 (pairs_before AreApart c.args.actions.now c.loop-i.i c.index-actions-i.result c.loop-i-test.true c.index-actions-i.is pairs))

pub loop-i-preserved : goal.loop-i-preserved
loop-i-preserved c =
    let m = c.if-not-is_apart.ensures in
    pairs_more AreApart c.args.actions.now c.loop-i.i c.index-actions-i.result c.loop-i-test.true c.index-actions-i.is c.loop-i.invariant (m.0 refl)

pub returns : goal.returns
returns c = (λ t. subst (AllPairs AreApart) (take_all c.loop-i.i c.args.actions.now c.loop-i-test.false) c.loop-i.invariant, λ pairs. refl)
