use Rattle.link_tool.proofs.AnswerLemmas.{one_words}
use Rattle.link_tool.proofs.laws.one_answer.Goals as goal

pub returns : goal.returns
returns c = one_words
