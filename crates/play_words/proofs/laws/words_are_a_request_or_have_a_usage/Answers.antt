use Rattle.play_words.proofs.EveryWords.{request_or_usage}
use Rattle.play_words.proofs.laws.words_are_a_request_or_have_a_usage.Goals as goal

pub returns : goal.returns
returns c = request_or_usage
