use Rattle.std.proofs.Common.{refl}
use Rattle.scan_paths.proofs.Parts.{block_failed}
use Rattle.base.specs.Bits.{low_bits}
use Rattle.dev_card.specs.Clocks.{with_zero}
use Rattle.drive_cable.proofs.BlockLemmas.{few_moves}
use Rattle.drive_cable.proofs.CableLemmas.{shifted, not_shifted}
use Rattle.drive_cable.proofs.drive_cable.DriveCableCable.move_block.Goals as goal

pub returns-in_err-tdo-clause-moved : goal.returns-in_err-tdo-clause-moved
returns-in_err-tdo-clause-moved g c =
    block_failed c.from_residual.result c.from_residual.ensures.0
    (not_shifted g.P.Peer _ _ (record { before = c.requires.whole; same_peer = refl; same_sleeps = refl })
    (with_zero (low_bits c.args.n c.args.tms)) (few_moves c.args.tms c.args.n c.requires.most) refl
    c.in_err-tdo.ensures.moved)

pub returns-clause-moved : goal.returns-clause-moved
returns-clause-moved g c =
    shifted g.P.Peer _ _ (record { before = c.requires.whole; same_peer = refl; same_sleeps = refl })
    (with_zero (low_bits c.args.n c.args.tms)) c.in_ok-tdo.tdo c.in_ok-tdo.ensures.moved
