use Rattle.std.proofs.Common.{◌≡◌, ℕ, List, OnOk, subst, arith}
use Rattle.canonical_text.specs.Spacing.{leans_on, leans_back, is_function, is_left_round}
use Rattle.canonical_writer.specs.declared.writer.Shape.TheVariants as shapes
use Rattle.canonical_writer.specs.Written.{put_as}
use Rattle.canonical_writer.proofs.DigitLemmas.{check_digits}
use Rattle.canonical_writer.proofs.writer.Writer.put_check_word.Goals as goal

pub returns : goal.returns
unfolding leans_on leans_back is_function is_left_round
returns c =
    subst (λ (l : List ℕ). OnOk c.put.result (c.put.new.self ≡ put_as c.args.self.now l shapes.Usual))
    (check_digits c.word_digits-digits.result c.args.word c.from.result (omega arith) c.word_digits-digits.ensures c.from.ensures (omega (arith, c.ranges.word.fits)))
    c.put.ensures
