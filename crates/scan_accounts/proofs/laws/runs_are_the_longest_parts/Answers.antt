use Rattle.scan_accounts.proofs.LongestRuns.{are_longest}
use Rattle.scan_accounts.proofs.laws.runs_are_the_longest_parts.Goals as goal

pub returns : goal.returns
returns c = λ at clocks. are_longest clocks at
