use Rattle.std.proofs.Common.{◌≡◌, ◌++◌, false, drop}
use Rattle.stapl_lexer.specs.PieceTokens.{digits_in}
use Rattle.stapl_lexer.proofs.literal.literal_digits.Given as goal

abbrev pub invariant-loop-byte : goal.invariant-loop-byte
invariant-loop-byte l = l.digits.items ++ digits_in l.kind l.in_comment (drop l.byte-index l.own) ≡ digits_in l.kind false l.own
