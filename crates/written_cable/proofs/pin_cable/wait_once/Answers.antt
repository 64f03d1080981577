use Rattle.scan_paths.proofs.Parts.{cable_failed, signal_failed}
use Rattle.written_cable.proofs.pin_cable.wait_once.Goals as goal

pub returns-in_err-usec-clause-signalled : goal.returns-in_err-usec-clause-signalled
returns-in_err-usec-clause-signalled g c = signal_failed c.from_residual.result c.from_residual.ensures.0 c.in_err-usec.ensures.signalled

pub returns-in_err-usec-clause-kept : goal.returns-in_err-usec-clause-kept
returns-in_err-usec-clause-kept g c = cable_failed c.from_residual.result c.from_residual.ensures.0 c.in_err-usec.ensures.kept
