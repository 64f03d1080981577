use Rattle.tool_questions.specs.Statuses.{question_status}
use Rattle.tool_questions.proofs.laws.answers_are_no_faults.Goals as goal

pub returns : goal.returns
returns c = question_status
