use Rattle.play_words.proofs.OneRequest.{named_run}
use Rattle.play_words.proofs.laws.a_named_run_is_in_order.Goals as goal

pub returns : goal.returns
returns c = named_run
