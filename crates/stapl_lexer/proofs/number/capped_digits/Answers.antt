use Rattle.std.proofs.Common.{◌∙◌, ◌+◌, ◌*◌, min, ap, ℕ}
use Rattle.stapl_lexer.proofs.NumberLemmas.{digits_more}
use Rattle.stapl_lexer.proofs.number.capped_digits.Goals as goal

pub loop-digit-preserved : goal.loop-digit-preserved
loop-digit-preserved c =
    c.min-value.ensures ∙ ap (λ (d : ℕ). min (c.loop-digit.value * 10 + d) c.args.limit) c.from.ensures
    ∙ digits_more c.args.digits.now c.loop-digit.digit-index c.loop-digit.value c.args.limit c.requires.digits c.loop-digit-test.true c.loop-digit.invariant
