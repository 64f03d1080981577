use Rattle.scan_paths.proofs.Parts.{cable_failed, signal_failed}
use Rattle.written_cable.proofs.pin_cable.set_frequency.Goals as goal

pub returns-in_err-hertz-clause-signalled : goal.returns-in_err-hertz-clause-signalled
returns-in_err-hertz-clause-signalled g c = signal_failed c.from_residual.result c.from_residual.ensures.0 c.in_err-hertz.ensures.signalled

pub returns-in_err-hertz-clause-kept : goal.returns-in_err-hertz-clause-kept
returns-in_err-hertz-clause-kept g c = cable_failed c.from_residual.result c.from_residual.ensures.0 c.in_err-hertz.ensures.kept
