use Rattle.stapl_syntax.specs.Trees.{trees}
use Rattle.scan_paths.specs.Scans.{lengths_of}
use Rattle.carried_plays.specs.CarriedPrograms.{padding_procedure}
use Rattle.chain_rewrite.proofs.PrintLemmas.{prints_then, prints_failed}
use Rattle.chain_rewrite.proofs.carrying.print_rest.Goals as goal

pub returns-in-Ok : goal.returns-in-Ok
returns-in-Ok c =
    prints_then c.args.text.items c.in-Ok.carried.items (padding_procedure c.args.name.now (lengths_of c.args.pads.now)) (trees c.args.end.now) c.print_pieces.result
    c.in-Ok.ensures.0 c.print_pieces.ensures

pub returns-in-Err : goal.returns-in-Err
returns-in-Err c =
    prints_failed c.args.text.items (padding_procedure c.args.name.now (lengths_of c.args.pads.now)) (trees c.args.end.now) c.in-Err.refused c.in-Err.ensures
