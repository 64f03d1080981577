use Rattle.std.proofs.Common.{◌<◌, ◌-◌, ◌^◌}
use Rattle.base.specs.Bits.{low_bits}
use Rattle.dev_card.specs.Clocks.{with_zero}
use Rattle.scan_paths.proofs.Parts.{KeepsWhole}
use Rattle.scan_paths.proofs.Capturing.{IsSeen}
use Rattle.scan_paths.proofs.cable.Cable.move_block.Given as goal

abbrev pub invariant-loop-i : goal.invariant-loop-i
invariant-loop-i g l =
    let c = g.Self.Cable in
    record {
      kept : KeepsWhole c l.fn.self l.self;
      below : l.seen < 2 ^ l.i;
      way : IsSeen c.board c.made l.fn.self l.self (with_zero (low_bits (l.n - l.i) l.rest)) (with_zero (low_bits l.n l.tms)) (low_bits l.i l.seen);
    }
