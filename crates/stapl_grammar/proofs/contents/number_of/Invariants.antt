use Rattle.std.proofs.Common.{◌≡◌, ◌%◌, ◌<◌, take}
use Rattle.std.specs.Str.Parse.{digits_value}
use Rattle.stapl_grammar.proofs.contents.number_of.Given as goal

abbrev pub invariant-loop-digit : goal.invariant-loop-digit
invariant-loop-digit l = record {
  number : l.number ≡ digits_value 16 (take l.digit-index l.digits) % 65536;
  below : l.number < 65536;
}
