use Rattle.code_rules.proofs.FirstBreaks.{breaks_none}
use Rattle.code_rules.proofs.laws.a_valid_code_breaks_no_rule.Goals as goal

pub returns : goal.returns
returns c = breaks_none
