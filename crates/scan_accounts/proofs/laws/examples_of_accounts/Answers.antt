use Rattle.scan_accounts.proofs.Examples.{a_scan, no_scan, a_line, scans_under_if, states_do_not, a_walk, a_text, states_listed, full_sums}
use Rattle.scan_accounts.proofs.laws.examples_of_accounts.Goals as goal

pub returns : goal.returns
returns c = record {
  scan = a_scan;
  whole = no_scan;
  line = a_line;
  under_if = scans_under_if;
  states = states_do_not;
  listed = states_listed;
  walk = a_walk;
  text = a_text;
  sums = full_sums;
}
