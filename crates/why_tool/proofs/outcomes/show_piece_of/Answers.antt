use Rattle.std.proofs.Common.{[]}
use Rattle.tool_io.proofs.PutLemmas.{puts_nothing}
use Rattle.tool_questions.specs.Pieces.{PieceAnswer}
use Rattle.why_tool.specs.Told.{Shows}
use Rattle.why_tool.proofs.OutcomeLemmas.{no_part}
use Rattle.why_tool.proofs.outcomes.show_piece_of.Goals as goal

pub returns-in_default : goal.returns-in_default
returns-in_default g c = record {
  text = [];
  answer = no_part (λ text. Shows (PieceAnswer text c.args.piece)) (λ program. program.now.text) c.args.program c.in_default.is;
  puts = puts_nothing g.K.Sink c.args.lines.now c.requires;
}
