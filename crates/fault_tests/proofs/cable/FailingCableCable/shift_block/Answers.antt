use Rattle.std.proofs.Common.{refl}
use Rattle.scan_paths.proofs.Parts.{block_failed}
use Rattle.scan_paths.proofs.Untold.{untold_failure}
use Rattle.fault_tests.proofs.cable.FailingCableCable.shift_block.Goals as goal

pub returns-in_err-count-clause-shifted : goal.returns-in_err-count-clause-shifted
returns-in_err-count-clause-shifted g c =
    block_failed c.from_residual.result c.from_residual.ensures.0 (untold_failure _ _ c.args.self.now _ refl refl (λ signals. tt) _)
