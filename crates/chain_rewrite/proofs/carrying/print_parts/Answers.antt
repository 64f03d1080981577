use Rattle.std.proofs.Common.{List, ℕ, [], ◌++◌, ◌∙◌, Err, ap, map}
use Rattle.stapl_syntax.specs.Trees.{trees}
use Rattle.scan_paths.specs.Scans.{lengths_of}
use Rattle.stapl_print.specs.Lines.{with_lines}
use Rattle.carried_plays.specs.CarriedPrograms.{with_item, padding_procedure}
use Rattle.chain_rewrite.proofs.PrintLemmas.{prints_same, prints_then, prints_failed}
use Rattle.chain_rewrite.proofs.carrying.print_parts.Goals as goal

pub returns-in-Ok : goal.returns-in-Ok
returns-in-Ok c =
    prints_then [] c.in-Ok.begun.items (map (with_item c.args.name.now) (trees c.args.front.now))
    (padding_procedure c.args.name.now (lengths_of c.args.pads.now) ++ trees c.args.end.now) c.print_rest.result
    (c.in-Ok.ensures.0 ∙ ap (λ (t : List ℕ). with_lines t (map (with_item c.args.name.now) (trees c.args.front.now))) c.new.ensures.items) c.print_rest.ensures

pub returns-in-Err : goal.returns-in-Err
returns-in-Err c =
    prints_failed [] (map (with_item c.args.name.now) (trees c.args.front.now)) (padding_procedure c.args.name.now (lengths_of c.args.pads.now) ++ trees c.args.end.now)
    c.in-Err.refused
    (prints_same c.new.result.items [] (map (with_item c.args.name.now) (trees c.args.front.now)) (map (with_item c.args.name.now) (trees c.args.front.now)) (Err c.in-Err.refused)
    (ap (λ (t : List ℕ). with_lines t (map (with_item c.args.name.now) (trees c.args.front.now))) c.new.ensures.items) c.in-Err.ensures)
