use Rattle.std.proofs.Common.{take}
use Rattle.stapl_checker.specs.Readings.{IsReading}
use Rattle.stapl_checker.proofs.reading.read_pieces.Given as goal

abbrev pub invariant-loop-i : goal.invariant-loop-i
invariant-loop-i l = IsReading l.text (take l.i l.pieces) l.reading
