use Rattle.stapl_syntax.specs.Trees.{expr_tree, body_tree}
use Rattle.stapl_codegen.proofs.Emits.{if_written}
use Rattle.stapl_codegen.proofs.emit.Emitter.+body.Goals as goal

pub returns-in_ok-body-in-If : goal.returns-in_ok-body-in-If
returns-in_ok-body-in-If t c =
    rw c.in-If.is
    (if_written (expr_tree c.in-If.e) (body_tree c.in-If.inner.value) c.args.self.now c.condition.new.self c.body.new.self c.in_ok-condition-in-If.ensures
    (rw c.deref-in-If.ensures at c.in_ok-body-in-If.ensures))
