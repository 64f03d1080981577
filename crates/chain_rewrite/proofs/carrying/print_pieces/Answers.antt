use Rattle.stapl_syntax.specs.Trees.{trees}
use Rattle.chain_rewrite.proofs.PrintLemmas.{prints}
use Rattle.chain_rewrite.proofs.carrying.print_pieces.Goals as goal

pub returns : goal.returns
returns c =
    prints c.args.text.items (trees c.args.pieces.now) c.print_after.result c.print_after.ensures.text c.print_after.ensures.fits c.print_after.ensures.too_large
