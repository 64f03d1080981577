use Rattle.std.proofs.Common.{List, ap, sym, subst}
use Rattle.std.specs.Prelude.{All}
use Rattle.std.proofs.lemmas.List.Elements.{All-from_recursion}
use Rattle.stapl_syntax.specs.declared.statement.Stmt.{Stmt}
use Rattle.stapl_syntax.specs.Trees.{trees}
use Rattle.stapl_syntax.specs.ProgramValues.{trees_of}
use Rattle.canonical_text.specs.Printable.{CanBePrinted}
use Rattle.canonical_text.proofs.Programs.{program_printable}
use Rattle.stapl_print.proofs.LineLemmas.{program_printed}
use Rattle.stapl_print.proofs.printing.print_program.Goals as goal

pub print_statements-requires : goal.print_statements-requires
print_statements-requires c =
    subst (λ (v : List Stmt). All CanBePrinted (trees v)) (sym c.statements.ensures.statements)
    (All-from_recursion CanBePrinted (trees_of c.args.program.now) (program_printable c.args.program.now.text (trees_of c.args.program.now) c.statements.ensures.program))

pub returns-clause-program : goal.returns-clause-program
returns-clause-program c =
    program_printed c.args.program.now.text (trees_of c.args.program.now) (trees c.statements.result.now) c.print_statements.result (ap trees c.statements.ensures.statements)
    c.statements.ensures.program c.print_statements.ensures.text c.print_statements.ensures.fits
