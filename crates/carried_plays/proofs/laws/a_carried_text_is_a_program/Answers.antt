use Rattle.std.proofs.lemmas.List.Elements.{All-from_recursion}
use Rattle.canonical_text.specs.Printable.{CanBePrinted}
use Rattle.carried_plays.specs.CarriedPrograms.{carried_program}
use Rattle.carried_plays.specs.PadNames.{pad_name}
use Rattle.carried_plays.proofs.CarriedTexts.{six_more, statements_printed, text_is_program, own_statements}
use Rattle.carried_plays.proofs.laws.a_carried_text_is_a_program.Goals as goal

pub returns : goal.returns
returns c = record {
  program = text_is_program;
  read = own_statements;
  printed = λ text program base n is number short.
      All-from_recursion CanBePrinted (carried_program (pad_name n) base program) (statements_printed text program base n is number short);
  pieces = six_more;
}
