use Rattle.scans_tool.proofs.OneAnswer.{one_answer}
use Rattle.scans_tool.proofs.laws.one_answer.Goals as goal

pub returns : goal.returns
returns c = one_answer
