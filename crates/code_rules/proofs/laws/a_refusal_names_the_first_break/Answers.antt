use Rattle.code_rules.proofs.FirstBreaks.{names_first}
use Rattle.code_rules.proofs.laws.a_refusal_names_the_first_break.Goals as goal

pub returns : goal.returns
returns c = names_first
