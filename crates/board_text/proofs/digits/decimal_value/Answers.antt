use Rattle.std.proofs.Common.{◌∙◌, ◌+◌, ◌*◌, min, ap, ℕ}
use Rattle.board_text.specs.Reading.{cap}
use Rattle.board_text.proofs.NumberWords.{decimal_more}
use Rattle.board_text.proofs.digits.decimal_value.Goals as goal

pub loop-digit-preserved : goal.loop-digit-preserved
loop-digit-preserved c =
    c.min-value.ensures ∙ ap (λ (d : ℕ). min (c.loop-digit.value * 10 + d) cap) c.from.ensures
    ∙ decimal_more cap c.args.digits.now c.loop-digit.digit-index c.loop-digit.value c.requires c.loop-digit-test.true c.loop-digit.invariant
