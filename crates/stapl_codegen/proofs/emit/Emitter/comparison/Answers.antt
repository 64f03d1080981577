use Rattle.stapl_syntax.specs.Trees.{expr_tree, array_tree}
use Rattle.stapl_codegen.proofs.ScanEmits.{element_written}
use Rattle.stapl_codegen.proofs.emit.Emitter.comparison.Goals as goal

pub returns-in_ok-index-in-Element-clause-drafted : goal.returns-in_ok-index-in-Element-clause-drafted
returns-in_ok-index-in-Element-clause-drafted c =
    rw c.in-Element.is
    (element_written (array_tree c.args.compare.now.expected) (array_tree c.args.compare.now.mask) c.in-Element.name.value (expr_tree c.in-Element.index.value) c.variable-number.result
    c.args.self.now c.expected_and_mask-in-Element.new.self c.index.new.self c.in_ok-expected-in-Element.ensures.drafted
    (rw c.deref.ensures at c.variable-number.ensures) (rw c.deref-in-Element.ensures at c.in_ok-index-in-Element.ensures))
