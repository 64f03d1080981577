use Rattle.std.proofs.Common.{◌≡◌, ◌-◌, ◌≤◌, ◌++◌, take, length}
use Rattle.std.specs.Prelude.{replicate}
use Rattle.std.specs.Str.{str_to_ascii_uppercase}
use Rattle.stapl_lexer.proofs.name.Name.read.Given as goal

abbrev pub invariant-loop-i : goal.invariant-loop-i
invariant-loop-i l = record {
  within : l.i ≤ length l.bytes;
  so_far : l.upper ≡ take l.i (str_to_ascii_uppercase l.bytes) ++ replicate (32 - l.i) 0;
}
