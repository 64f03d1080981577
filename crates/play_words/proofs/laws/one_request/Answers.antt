use Rattle.play_words.proofs.OneRequest.{one_request}
use Rattle.play_words.proofs.laws.one_request.Goals as goal

pub returns : goal.returns
returns c = λ words a b x y. one_request x y
