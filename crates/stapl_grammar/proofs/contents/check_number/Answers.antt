use Rattle.stapl_grammar.proofs.ContentLemmas.{all_check}
use Rattle.stapl_grammar.proofs.contents.check_number.Goals as goal

pub number_of-requires : goal.number_of-requires
number_of-requires c = rw c.deref.ensures.value (all_check c.in_ok-digits.digits.items c.in_ok-digits.ensures.each)
