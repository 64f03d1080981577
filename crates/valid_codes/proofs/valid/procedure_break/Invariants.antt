use Rattle.std.proofs.Common.{◌≡◌, ◌+◌, drop}
use Rattle.stapl_code.specs.Valid.{rest_break, procedure_break}
use Rattle.valid_codes.proofs.valid.procedure_break.Given as goal

abbrev pub invariant-loop-i : goal.invariant-loop-i
invariant-loop-i l =
    rest_break l.variables l.entry l.procedure (l.entry + l.i) l.must_turn l.kinds (drop l.i l.procedure)
    ≡ procedure_break l.variables l.entry l.procedure
