use Rattle.std.proofs.Common.{◌≤◌, ◌-◌, length, drop}
use Rattle.stapl_lexer.specs.PieceTokens.{AreBlanks}
use Rattle.stapl_lexer.proofs.run.blank_len.Given as goal

abbrev pub invariant-blanks : goal.invariant-blanks
invariant-blanks l = record {
  within : l.at ≤ length l.bytes;
  blank : AreBlanks l.bytes (drop l.at l.bytes);
}

abbrev pub decreases-blanks : goal.decreases-blanks
decreases-blanks l = length l.bytes - l.at
