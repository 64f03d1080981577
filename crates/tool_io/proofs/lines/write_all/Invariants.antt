use Rattle.std.proofs.Common.{length}
use Rattle.tool_io.specs.Bytes.{Moves}
use Rattle.tool_io.specs.Causes.{NeverFalls}
use Rattle.tool_io.proofs.lines.write_all.Given as goal

abbrev pub invariant-turns : goal.invariant-turns
invariant-turns g l = record {
  moves : Moves (g.K.Sink.written l.fn.sink) l.bytes (g.K.Sink.written l.sink) l.rest;
  kept : NeverFalls g.K.Sink.faults g.K.Sink.is_last l.fn.sink l.sink;
}

abbrev pub decreases-turns : goal.decreases-turns
decreases-turns g l = length l.rest
