use Rattle.std.proofs.Common.{rules}
use Rattle.checker_rules.specs.Mentioned.{faults_in}
use Rattle.checker_rules.proofs.mentions.+statement_faults.Goals as goal

pub returns-in_default : goal.returns-in_default
unfolding faults_in
returns-in_default t c = search rules
