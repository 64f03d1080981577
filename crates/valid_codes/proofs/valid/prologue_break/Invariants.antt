use Rattle.std.proofs.Common.{◌≡◌, [], drop}
use Rattle.stapl_code.specs.Valid.{prologue_break}
use Rattle.valid_codes.proofs.valid.prologue_break.Given as goal

abbrev pub invariant-loop-i : goal.invariant-loop-i
invariant-loop-i l = prologue_break l.variables l.i l.kinds (drop l.i l.prologue) ≡ prologue_break l.variables 0 [] l.prologue
