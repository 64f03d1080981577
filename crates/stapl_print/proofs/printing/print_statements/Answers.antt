use Rattle.std.proofs.lemmas.List.Elements.{recursion_from_All}
use Rattle.stapl_syntax.specs.Trees.{trees}
use Rattle.canonical_text.specs.Printable.{CanBePrinted}
use Rattle.stapl_print.proofs.LineLemmas.{read_back}
use Rattle.stapl_print.proofs.printing.print_statements.Goals as goal

pub returns-clause-read_back : goal.returns-clause-read_back
returns-clause-read_back c =
    read_back c.new.result.items (trees c.args.stmts.now) c.print_after.result c.new.ensures.items
    (recursion_from_All CanBePrinted (trees c.args.stmts.now) c.requires) c.print_after.ensures.text
