use Rattle.std.proofs.Common.{refl}
use Rattle.scan_paths.proofs.Arriving.{told_reset}
use Rattle.scan_paths.proofs.Parts.{cable_failed, made_failed}
use Rattle.scan_paths.proofs.moves.reset_chain.Goals as goal

pub returns-clause-made : goal.returns-clause-made
returns-clause-made g c = rw (c.path-ones.ensures.path.to_reset refl) at c.in_ok-send.ensures.made

pub returns-clause-reset : goal.returns-clause-reset
returns-clause-reset g c =
    let m = rw (c.path-ones.ensures.path.to_reset refl) at c.in_ok-send.ensures.made in
    told_reset _ _ m.made.cards

pub returns-in_err-send-clause-made : goal.returns-in_err-send-clause-made
returns-in_err-send-clause-made g c =
    made_failed g.C.Cable c.from_residual.result c.from_residual.ensures.0 (rw (c.path-ones.ensures.path.to_reset refl) at c.in_err-send.ensures.made)

pub returns-in_err-send-clause-kept : goal.returns-in_err-send-clause-kept
returns-in_err-send-clause-kept g c = cable_failed c.from_residual.result c.from_residual.ensures.0 c.in_err-send.ensures.kept
