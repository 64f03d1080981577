use Rattle.std.proofs.Common.{◌≡◌, drop}
use Rattle.std.specs.Prelude.{max}
use Rattle.stapl_code.specs.Depth.{procedures_depth}
use Rattle.valid_codes.proofs.depth.procedures_depth.Given as goal

abbrev pub invariant-loop-p : goal.invariant-loop-p
invariant-loop-p l =
    max l.most (procedures_depth l.variables l.instrs (drop l.p l.procedures)) ≡ procedures_depth l.variables l.instrs l.procedures
