use Rattle.std.proofs.lemmas.List.{take_rest}
use Rattle.stapl_lexer.proofs.FrontLemmas.{check_missing}
use Rattle.stapl_lexer.proofs.front.check_front.Goals as goal

pub returns-then-not-are_four_digits : goal.returns-then-not-are_four_digits
returns-then-not-are_four_digits c =
    check_missing c.args.bytes.now c.spaced_digits-end.result.0 c.spaced_digits-end.result.1 c.requires.some c.spaced_digits-end.ensures
    (rw take_rest at (c.are_four_digits.ensures.no c.if-not-are_four_digits.true))
