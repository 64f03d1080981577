use Rattle.stapl_syntax.specs.Trees.{array_tree}
use Rattle.stapl_meaning.specs.Operands.{array_operands}
use Rattle.stapl_codegen.specs.Emit.{array_literals}
use Rattle.stapl_codegen.specs.Drafts.{array_operands_in}
use Rattle.stapl_codegen.proofs.ScanEmits.{both_written}
use Rattle.stapl_codegen.proofs.emit.Emitter.expected_and_mask.Goals as goal

pub returns-clause-drafted : goal.returns-clause-drafted
returns-clause-drafted c =
    let expected = array_tree c.args.expected.now in
    let mask = array_tree c.args.mask.now in
    both_written (array_operands_in c.args.self.now expected) (λ look. array_operands look mask) (array_literals expected) (array_literals mask)
    c.args.self.now c.source.new.self c.source-2.new.self c.in_ok-expected.ensures.drafted c.in_ok-mask.ensures.drafted
