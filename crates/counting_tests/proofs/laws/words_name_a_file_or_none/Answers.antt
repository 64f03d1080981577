use Rattle.counting_tests.proofs.WordLemmas.{one_named, named_or_none}
use Rattle.counting_tests.proofs.laws.words_name_a_file_or_none.Goals as goal

pub returns : goal.returns
returns c = record { each = named_or_none; one_file = one_named }
