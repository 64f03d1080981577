use Rattle.std.proofs.Common.{take, drop, ◌≤◌, ◌-◌}
use Rattle.scan_paths.proofs.Parts.{KeepsWhole}
use Rattle.dev_card.specs.Clocks.{part_inputs}
use Rattle.scan_paths.proofs.Way.{IsUnderWay}
use Rattle.scan_paths.proofs.shifts.shift_padding.Given as goal

abbrev pub invariant-loop-at : goal.invariant-loop-at
invariant-loop-at g l =
    let c = g.C.Cable in
    record {
      kept : KeepsWhole c l.fn.cable l.cable;
      inside : l.at ≤ l.n;
      way : IsUnderWay c.board c.made l.fn.cable l.cable (part_inputs l.last (drop l.at (take l.n l.padding))) (part_inputs l.last (take l.n l.padding));
    }

abbrev pub decreases-loop-at : goal.decreases-loop-at
decreases-loop-at g l = l.n - l.at
