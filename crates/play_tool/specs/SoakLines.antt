-- The first line of a soak, by what it tells. The format is this tool's own.
use Rattle.std.specs.Prelude.{ℕ, List}
use Rattle.play_tool.specs.declared.lines.SoakSummary.{SoakSummary}
use Rattle.play_tool.specs.Texts.{soak_line}

abbrev pub summary_line : SoakSummary → List ℕ
summary_line soak = soak_line soak.seed soak.devices soak.place soak.pieces
