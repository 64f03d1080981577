use Rattle.play_words.proofs.OneRequest.{one_usage}
use Rattle.play_words.proofs.laws.one_usage.Goals as goal

pub returns : goal.returns
returns c = λ words m n x y. one_usage x y
