use Rattle.play_words.proofs.OneRequest.{no_usage}
use Rattle.play_words.proofs.laws.no_request_has_a_usage.Goals as goal

pub returns : goal.returns
returns c = λ words request n x y. no_usage x y
