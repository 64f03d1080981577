use Rattle.std.proofs.Common.{◌≡◌, take, drop, length, ◌≤◌, ◌-◌}
use Rattle.scan_paths.proofs.Parts.{KeepsWhole}
use Rattle.dev_card.specs.Clocks.{part_inputs}
use Rattle.scan_paths.proofs.Capturing.{IsSeen}
use Rattle.scan_paths.proofs.shifts.shift_data.Given as goal

abbrev pub invariant-loop-at : goal.invariant-loop-at
invariant-loop-at g l =
    let c = g.C.Cable in
    record {
      kept : KeepsWhole c l.fn.cable l.cable;
      inside : l.at ≤ l.n;
      way : IsSeen c.board c.made l.fn.cable l.cable (part_inputs l.last (drop l.at (take l.n l.bits)))
          (part_inputs l.last (take l.n l.bits)) (take l.at l.captured);
      rest : drop l.n l.captured ≡ drop l.n l.fn.captured;
      length : length l.captured ≡ length l.fn.captured;
    }

abbrev pub decreases-loop-at : goal.decreases-loop-at
decreases-loop-at g l = l.n - l.at
