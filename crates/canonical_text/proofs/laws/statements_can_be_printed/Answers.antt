use Rattle.std.proofs.lemmas.List.Elements.{All-from_recursion}
use Rattle.canonical_text.specs.Printable.{CanBePrinted}
use Rattle.canonical_text.proofs.PieceStatements.{of_other}
use Rattle.canonical_text.proofs.Programs.{program_printable}
use Rattle.canonical_text.proofs.laws.statements_can_be_printed.Goals as goal

pub returns : goal.returns
returns c = record {
  piece = of_other;
  program = λ text statements is. All-from_recursion CanBePrinted statements (program_printable text statements is);
}
