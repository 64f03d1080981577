use Rattle.quiet_tool.proofs.actions.answer_program.Goals as goal

pub returns-in-Named-clause-answer : goal.returns-in-Named-clause-answer
returns-in-Named-clause-answer g c = rw c.in-Named.is c.answer_code.ensures.answer

pub returns-clause-answer : goal.returns-clause-answer
returns-clause-answer g c = rw c.in-Each.is c.answer_each.ensures.answer
