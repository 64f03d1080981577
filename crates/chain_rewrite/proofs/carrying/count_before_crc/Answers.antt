use Rattle.std.proofs.Common.{◌∙◌, length, sym, arith, below_more}
use Rattle.std.proofs.lemmas.List.{length-map}
use Rattle.stapl_syntax.specs.Trees.{stmt_tree, trees}
use Rattle.chain_rewrite.proofs.PieceLemmas.{is_crc_at, before_there, from_there}
use Rattle.chain_rewrite.proofs.carrying.count_before_crc.Goals as goal

pub returns-then-is_check-clause-before : goal.returns-then-is_check-clause-before
returns-then-is_check-clause-before c =
    before_there (trees c.args.statements.now) c.loop-i.i c.loop-i.invariant
    (λ lt. is_crc_at c.args.statements.now c.loop-i.i c.index-statements-i.result c.loop-i-test.true c.index-statements-i.is ∙ sym c.is_check.ensures ∙ c.if-is_check.true)

pub returns-then-is_check-clause-from : goal.returns-then-is_check-clause-from
returns-then-is_check-clause-from c =
    from_there (trees c.args.statements.now) c.loop-i.i c.loop-i.invariant
    (λ lt. is_crc_at c.args.statements.now c.loop-i.i c.index-statements-i.result c.loop-i-test.true c.index-statements-i.is ∙ sym c.is_check.ensures ∙ c.if-is_check.true)

pub loop-i-preserved : goal.loop-i-preserved
loop-i-preserved c =
    below_more _ _ c.loop-i.invariant
    (is_crc_at c.args.statements.now c.loop-i.i c.index-statements-i.result c.loop-i-test.true c.index-statements-i.is ∙ sym c.is_check.ensures ∙ c.if-is_check.false)

pub returns-clause-before : goal.returns-clause-before
returns-clause-before c =
    before_there (trees c.args.statements.now) (length c.args.statements.now) (λ k lt. c.loop-i.invariant k (omega (arith, lt, c.loop-i-test.false)))
    (λ lt. absurd (omega (arith, lt, length-map c.args.statements.now stmt_tree)))

pub returns-clause-from : goal.returns-clause-from
returns-clause-from c =
    from_there (trees c.args.statements.now) (length c.args.statements.now) (λ k lt. c.loop-i.invariant k (omega (arith, lt, c.loop-i-test.false)))
    (λ lt. absurd (omega (arith, lt, length-map c.args.statements.now stmt_tree)))
