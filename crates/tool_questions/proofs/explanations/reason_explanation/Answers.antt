use Rattle.tool_questions.proofs.explanations.reason_explanation.Goals as goal

pub returns : goal.returns
returns c = rw (c.deref.ensures.value, c.in_ok-head.ensures, c.name.ensures) at c.lines_with.ensures
