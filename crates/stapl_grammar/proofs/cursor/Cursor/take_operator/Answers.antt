use Rattle.std.proofs.Common.{refl}
use Rattle.stapl_grammar.proofs.TokenSteps.{lie, is_shorter, operator_read, operator_left}
use Rattle.stapl_grammar.proofs.cursor.Cursor.take_operator.Goals as goal

pub invariant_of-self : goal.invariant_of-self
invariant_of-self c = lie c.self.inside.text.now c.self.inside.rest.now c.self.invariant

pub returns-then-level-most-clause-some : goal.returns-then-level-most-clause-some
returns-then-level-most-clause-some c =
    operator_read c.self.inside.text.now c.self.inside.rest.now c.in_ok-first.field-0.now _ c.args.most c.in_ok-op.op c.in_ok-first.ensures.value c.self.view_is (c.in_ok-op.ensures c.self.inside.text.now)
    (rw (← c.level.ensures.level) c.if-level-most.true)

pub returns-then-level-most-clause-shorter : goal.returns-then-level-most-clause-shorter
returns-then-level-most-clause-shorter c =
    is_shorter c.self.inside.text.now c.self.inside.rest.now c.in_ok-first.field-0.now _ c.in_ok-first.ensures.value c.self.view_is

pub returns-else-level-most-clause-none : goal.returns-else-level-most-clause-none
returns-else-level-most-clause-none c = (
  operator_left c.self.inside.text.now c.self.inside.rest.now c.in_ok-first.field-0.now _ c.args.most c.in_ok-op.op c.in_ok-first.ensures.value c.self.view_is (c.in_ok-op.ensures c.self.inside.text.now)
      (rw (← c.level.ensures.level) c.if-level-most.false),
  refl,
)
