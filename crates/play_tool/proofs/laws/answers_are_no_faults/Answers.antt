use Rattle.play_tool.specs.NoFaults.{answer_status}
use Rattle.play_tool.proofs.laws.answers_are_no_faults.Goals as goal

pub returns : goal.returns
returns c = λ words contents_of text status a. answer_status a
