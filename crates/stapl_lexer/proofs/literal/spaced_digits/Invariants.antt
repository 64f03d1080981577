use Rattle.std.proofs.Common.{◌-◌, length}
use Rattle.stapl_lexer.specs.TokenReading.{IsSpacedUpTo}
use Rattle.stapl_lexer.proofs.literal.spaced_digits.Given as goal

abbrev pub invariant-digits : goal.invariant-digits
invariant-digits l = IsSpacedUpTo l.kind l.bytes l.end l.count

abbrev pub decreases-digits : goal.decreases-digits
decreases-digits l = length l.bytes - l.end
