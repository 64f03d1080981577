use Rattle.std.proofs.Common.{◌∙◌, arith}
use Rattle.quiet_tool.proofs.AnswerLemmas.{action_answered, all_answered}
use Rattle.quiet_tool.proofs.actions.answer_actions.Goals as goal

pub loop-name-preserved : goal.loop-name-preserved
loop-name-preserved g c = record {
  continues = action_answered c.loop-name.name-index c.name-item.result c.in_ok-answer.answer.text.items c.in_ok-answer.answer.status
      c.loop-name.text.items c.add_action.new.text.items c.loop-name.status c.or-status.result (omega arith) c.name-item.is
      c.in_ok-answer.ensures.answer (rw c.deref.ensures.value at c.in_ok-add_action.ensures) c.or-status.ensures c.loop-name.invariant.continues;
  kinds = c.in_ok-answer.ensures.kinds ∙ c.loop-name.invariant.kinds;
}

pub returns-clause-answer : goal.returns-clause-answer
returns-clause-answer g c = all_answered c.loop-name.name-index c.loop-name.text.items c.loop-name.status (omega arith) c.loop-name.invariant.continues
