use Rattle.std.proofs.Common.{take}
use Rattle.std.specs.List.{flat_map}
use Rattle.tool_io.specs.Lines.{Puts}
use Rattle.tool_io.specs.Texts.{escaped_byte}
use Rattle.tool_io.proofs.texts.put_escaped.Given as goal

abbrev pub invariant-loop-byte : goal.invariant-loop-byte
invariant-loop-byte g l = Puts g.K.Sink l.fn.lines (flat_map escaped_byte (take l.byte-index l.text)) l.lines
