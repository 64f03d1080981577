use Rattle.std.proofs.Common.{refl}
use Rattle.scan_paths.proofs.Parts.{block_failed}
use Rattle.dev_card.specs.Blocks.{block_inputs}
use Rattle.drive_cable.proofs.BlockLemmas.{few_inputs}
use Rattle.drive_cable.proofs.CableLemmas.{shifted, not_shifted}
use Rattle.drive_cable.proofs.drive_cable.DriveCableCable.shift_block.Goals as goal

pub returns-in_err-tdo-clause-shifted : goal.returns-in_err-tdo-clause-shifted
returns-in_err-tdo-clause-shifted g c =
    block_failed c.from_residual.result c.from_residual.ensures.0
    (not_shifted g.P.Peer _ _ (record { before = c.requires.whole; same_peer = refl; same_sleeps = refl })
    (block_inputs c.args.tdi c.args.n c.args.last) (few_inputs c.args.tdi c.args.n c.args.last c.requires.most) refl
    c.in_err-tdo.ensures.shifted)

pub returns-clause-shifted : goal.returns-clause-shifted
returns-clause-shifted g c =
    shifted g.P.Peer _ _ (record { before = c.requires.whole; same_peer = refl; same_sleeps = refl })
    (block_inputs c.args.tdi c.args.n c.args.last) c.in_ok-tdo.tdo c.in_ok-tdo.ensures.shifted
