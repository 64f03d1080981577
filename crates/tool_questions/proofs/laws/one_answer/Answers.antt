use Rattle.tool_questions.proofs.OneAnswer.{one_answer}
use Rattle.tool_questions.proofs.laws.one_answer.Goals as goal

pub returns : goal.returns
returns c = one_answer
