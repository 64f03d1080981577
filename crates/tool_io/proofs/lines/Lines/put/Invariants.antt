use Rattle.std.proofs.Common.{◌≡◌, ◌≤◌, ◌+◌, length}
use Rattle.tool_io.specs.Lines.{gathered, IsSinkUntouched}
use Rattle.tool_io.proofs.PutLemmas.{PutsPart}
use Rattle.tool_io.proofs.lines.Lines.put.Given as goal

abbrev pub invariant-turns : goal.invariant-turns
invariant-turns g l = record {
  puts : PutsPart g.K.Sink l.fn.self l.bytes l.rest l.self;
  gathers : length (gathered l.fn.self) + length l.bytes ≤ 4096 →
      IsSinkUntouched l.fn.self l.self × (length (gathered l.self) + length l.rest ≡ length (gathered l.fn.self) + length l.bytes);
}

abbrev pub decreases-turns : goal.decreases-turns
decreases-turns g l = length l.rest
