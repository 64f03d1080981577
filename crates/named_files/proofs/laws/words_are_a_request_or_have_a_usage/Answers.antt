use Rattle.named_files.proofs.WordLemmas.{request_or_usage, one_request, one_usage, no_usage}
use Rattle.named_files.proofs.laws.words_are_a_request_or_have_a_usage.Goals as goal

pub returns : goal.returns
returns c = record { some = request_or_usage; one_request = one_request; one_usage = one_usage; not_both = no_usage }
