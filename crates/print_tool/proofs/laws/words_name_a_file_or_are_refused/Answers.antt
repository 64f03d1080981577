use Rattle.print_tool.proofs.WordLemmas.{one_named, refused_names_none, one_usage, named_or_refused}
use Rattle.print_tool.proofs.laws.words_name_a_file_or_are_refused.Goals as goal

pub returns : goal.returns
returns c = record { each = named_or_refused; one_file = one_named; one_word = one_usage; not_both = refused_names_none }
