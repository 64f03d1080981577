use Rattle.std.proofs.Common.{refl}
use Rattle.scan_paths.proofs.Arriving.{told_moved}
use Rattle.scan_paths.proofs.Parts.{cable_done, cable_failed, made_failed}
use Rattle.scan_paths.proofs.moves.move_to.Goals as goal

pub returns-clause-arrived : goal.returns-clause-arrived
returns-clause-arrived g c =
    let m = rw c.path-path.ensures.is at c.in_ok-send.ensures.made in
    (refl, told_moved _ _ c.args.at c.args.to m.made.cards c.requires.at)

pub returns-clause-made : goal.returns-clause-made
returns-clause-made g c = rw c.path-path.ensures.is at c.in_ok-send.ensures.made

pub returns-clause-kept : goal.returns-clause-kept
returns-clause-kept g c = cable_done c.in_ok-send.ensures.kept

pub returns-in_err-send-clause-made : goal.returns-in_err-send-clause-made
returns-in_err-send-clause-made g c =
    made_failed g.C.Cable c.from_residual.result c.from_residual.ensures.0 (rw c.path-path.ensures.is at c.in_err-send.ensures.made)

pub returns-in_err-send-clause-kept : goal.returns-in_err-send-clause-kept
returns-in_err-send-clause-kept g c = cable_failed c.from_residual.result c.from_residual.ensures.0 c.in_err-send.ensures.kept
