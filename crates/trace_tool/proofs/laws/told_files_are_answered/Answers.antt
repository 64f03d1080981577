use Rattle.trace_tool.proofs.RequestLemmas.{told_answer}
use Rattle.trace_tool.proofs.laws.told_files_are_answered.Goals as goal

pub returns : goal.returns
returns c = λ words files text status o. told_answer files words o
