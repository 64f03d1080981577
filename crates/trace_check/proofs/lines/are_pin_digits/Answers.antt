use Rattle.trace_check.proofs.LineLemmas.{digits_are}
use Rattle.trace_check.proofs.lines.are_pin_digits.Goals as goal

pub returns-then-bytes-le-MOST_DIGITS : goal.returns-then-bytes-le-MOST_DIGITS
returns-then-bytes-le-MOST_DIGITS c = digits_are c.args.bytes.now c.all_are_digits.result c.if-bytes-le-MOST_DIGITS.true.0 c.if-bytes-le-MOST_DIGITS.true.1 c.all_are_digits.ensures
