use Rattle.std.specs.Box.{box_value}
use Rattle.std.specs.Option.{option_map}
use Rattle.stapl_syntax.specs.Trees.{expr_tree, array_tree, compare_tree}
use Rattle.stapl_codegen.proofs.ScanEmits.{scan_written}
use Rattle.stapl_codegen.proofs.emit.Emitter.scan.Goals as goal

pub returns : goal.returns
returns c =
    let scan = c.args.scan.now in
    scan_written c.args.self.now c.expr.new.self c.source.new.self c.capture.new.self c.compare.new.self c.put.new.self scan.register
    (expr_tree scan.length) (array_tree scan.source) (option_map (λ a. array_tree (box_value a)) scan.target) (option_map (λ c. compare_tree (box_value c)) scan.compare)
    c.in_ok-source.source c.in_ok-target.target c.in_ok-compare.compare
    (record {
      count_written = c.in_ok-expr.ensures;
      source_written = c.in_ok-source.ensures.drafted;
      target_written = c.in_ok-target.ensures.drafted;
      compare_written = c.in_ok-compare.ensures.drafted;
    })
    c.in_ok-source.ensures.source c.in_ok-target.ensures.target c.in_ok-compare.ensures.compare c.in_ok-put.ensures
