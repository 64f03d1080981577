use Rattle.std.proofs.Common.{◌∙◌, sym}
use Rattle.board_text.proofs.ShapeLemmas.{more_or_fewer, place_passed, place_failed}
use Rattle.board_text.proofs.shapes.fits.Goals as goal

pub returns-then-places-words : goal.returns-then-places-words
returns-then-places-words c = more_or_fewer c.args.places.now c.args.words.now c.if-places-words.true

pub returns-then-not-is_spelled : goal.returns-then-not-is_spelled
returns-then-not-is_spelled c =
    sym (sym c.loop-i.invariant ∙ place_failed c.args.places.now c.args.words.now c.loop-i.i _ _ c.loop-i-test.true c.if-places-words.false (sym c.is_spelled.ensures ∙ c.if-not-is_spelled.true))

pub loop-i-preserved : goal.loop-i-preserved
loop-i-preserved c =
    sym (place_passed c.args.places.now c.args.words.now c.loop-i.i _ _ c.loop-i-test.true c.if-places-words.false (sym c.is_spelled.ensures ∙ c.if-not-is_spelled.false)) ∙ c.loop-i.invariant
