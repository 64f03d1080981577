use Rattle.scan_accounts.proofs.Examples.{two_scans, over_lines, one_walk, with_pause, at_the_end, no_run}
use Rattle.scan_accounts.proofs.laws.examples_of_runs.Goals as goal

pub returns : goal.returns
returns c =
    record { scans = two_scans; lines = over_lines; walk = one_walk; pause = with_pause; front = at_the_end; none = no_run }
