use Rattle.link_tool.proofs.AnswerLemmas.{told_answer}
use Rattle.link_tool.proofs.laws.told_files_are_answered.Goals as goal

pub returns : goal.returns
returns c = told_answer
