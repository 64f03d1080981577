use Rattle.stapl_checker.proofs.UniqueLemmas.{one_program}
use Rattle.stapl_checker.proofs.laws.a_text_is_one_program.Goals as goal

pub returns : goal.returns
returns c = one_program
