use Rattle.scan_paths.proofs.Parts.{cable_failed, block_failed}
use Rattle.quiet_watch.proofs.watch.WatchCable.shift_block.Goals as goal

pub returns-in_err-tdo-clause-shifted : goal.returns-in_err-tdo-clause-shifted
returns-in_err-tdo-clause-shifted g c = block_failed c.from_residual.result c.from_residual.ensures.0 c.in_err-tdo.ensures.shifted

pub returns-in_err-tdo-clause-kept : goal.returns-in_err-tdo-clause-kept
returns-in_err-tdo-clause-kept g c = cable_failed c.from_residual.result c.from_residual.ensures.0 c.in_err-tdo.ensures.kept
