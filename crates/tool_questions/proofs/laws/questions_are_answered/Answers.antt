use Rattle.tool_questions.proofs.EveryQuestion.{every_question}
use Rattle.tool_questions.proofs.laws.questions_are_answered.Goals as goal

pub returns : goal.returns
returns c = every_question
