use Rattle.std.proofs.Common.{◌-◌, ◌≤◌, replicate}
use Rattle.dev_card.specs.Clocks.{with_zero}
use Rattle.scan_paths.proofs.Parts.{KeepsWhole}
use Rattle.scan_paths.proofs.Way.{IsUnderWay}
use Rattle.scan_paths.proofs.moves.stay.Given as goal

abbrev pub invariant-loop-done : goal.invariant-loop-done
invariant-loop-done g l =
    let c = g.C.Cable in
    record {
      kept : KeepsWhole c l.fn.cable l.cable;
      inside : l.done ≤ l.n;
      way : IsUnderWay c.board c.made l.fn.cable l.cable (with_zero (replicate (l.n - l.done) l.tms)) (with_zero (replicate l.n l.tms));
    }

abbrev pub decreases-loop-done : goal.decreases-loop-done
decreases-loop-done g l = l.n - l.done
