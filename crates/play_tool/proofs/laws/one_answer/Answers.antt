use Rattle.play_tool.proofs.OneAnswer.{one_answer_lem}
use Rattle.play_tool.proofs.laws.one_answer.Goals as goal

pub returns : goal.returns
returns c = one_answer_lem
