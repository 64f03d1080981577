use Rattle.link_tool.proofs.AnswerLemmas.{answer_status}
use Rattle.link_tool.proofs.laws.answers_are_no_faults.Goals as goal

pub returns : goal.returns
returns c = λ words contents_of text status a p. answer_status a p
