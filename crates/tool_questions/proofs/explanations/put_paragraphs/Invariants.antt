use Rattle.std.proofs.Common.{map, take}
use Rattle.std.specs.List.{flat_map}
use Rattle.tool_io.specs.Lines.{Puts}
use Rattle.tool_io.specs.Texts.{word_line}
use Rattle.tool_questions.proofs.explanations.put_paragraphs.Given as goal

abbrev pub invariant-loop-i : goal.invariant-loop-i
invariant-loop-i g l = record {
  puts : Puts g.K.Sink l.fn.lines (flat_map word_line (take l.i (map (λ line. line.now) l.paragraphs))) l.lines;
}
