use Rattle.std.proofs.Common.{◌≡◌, drop}
use Rattle.stapl_code.specs.Valid.{procedures_break}
use Rattle.valid_codes.proofs.valid.procedures_break.Given as goal

abbrev pub invariant-loop-p : goal.invariant-loop-p
invariant-loop-p l = procedures_break l.variables l.instrs (drop l.p l.procedures) ≡ procedures_break l.variables l.instrs l.procedures
