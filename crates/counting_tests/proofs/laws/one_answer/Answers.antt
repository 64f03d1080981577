use Rattle.counting_tests.proofs.OneAnswer.{one_answer}
use Rattle.counting_tests.proofs.laws.one_answer.Goals as goal

pub returns : goal.returns
returns c = one_answer
