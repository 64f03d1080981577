use Rattle.std.proofs.Common.{◌∙◌, refl, sym, arith, below_more}
use Rattle.std.proofs.lemmas.List.{length-map}
use Rattle.stapl_syntax.specs.Trees.{stmt_tree, trees}
use Rattle.chain_rewrite.proofs.PieceLemmas.{sets_at, none_set, first_set}
use Rattle.chain_rewrite.proofs.own_paddings.first_padding.Goals as goal

pub returns-then-sets_padding-clause-first : goal.returns-then-sets_padding-clause-first
returns-then-sets_padding-clause-first c =
    first_set (trees c.args.statements.now) c.loop-i.i _ refl
    (sets_at c.args.statements.now c.loop-i.i c.index-statements-i.result c.loop-i-test.true c.index-statements-i.is ∙ sym c.sets_padding.ensures ∙ c.if-sets_padding.true)
    c.loop-i.invariant

pub loop-i-preserved : goal.loop-i-preserved
loop-i-preserved c =
    below_more _ _ c.loop-i.invariant
    (sets_at c.args.statements.now c.loop-i.i c.index-statements-i.result c.loop-i-test.true c.index-statements-i.is ∙ sym c.sets_padding.ensures ∙ c.if-sets_padding.false)

pub returns-clause-none : goal.returns-clause-none
returns-clause-none c =
    none_set (trees c.args.statements.now) c.loop-i.i (omega (arith, c.loop-i-test.false, length-map c.args.statements.now stmt_tree)) c.loop-i.invariant
