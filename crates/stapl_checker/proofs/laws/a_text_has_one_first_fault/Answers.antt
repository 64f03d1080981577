use Rattle.stapl_checker.proofs.UniqueLemmas.{one_first_fault}
use Rattle.stapl_checker.proofs.laws.a_text_has_one_first_fault.Goals as goal

pub returns : goal.returns
returns c = one_first_fault
