use Rattle.std.proofs.Common.{◌≡◌, take, true}
use Rattle.std.specs.List.{list_all}
use Rattle.stapl_lexer.specs.Names.{is_name_byte}
use Rattle.stapl_lexer.proofs.run.name_len.Given as goal

abbrev pub invariant-loop-i : goal.invariant-loop-i
invariant-loop-i l = list_all is_name_byte (take l.i l.bytes) ≡ true
