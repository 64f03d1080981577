use Rattle.tool_questions.proofs.explanations.lines_about.Goals as goal

pub returns : goal.returns
returns c = rw (← c.in_ok-head.ensures) (rw c.deref.ensures.value at c.lines_with.ensures)
