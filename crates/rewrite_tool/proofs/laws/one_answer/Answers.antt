use Rattle.rewrite_tool.proofs.OneAnswer.{one_words}
use Rattle.rewrite_tool.proofs.laws.one_answer.Goals as goal

pub returns : goal.returns
returns c = one_words
