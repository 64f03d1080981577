use Rattle.std.proofs.Common.{◌∙◌, ap}
use Rattle.tap_states.specs.Path.{path_bits}
use Rattle.tap_states.proofs.Shortest.{table_is_path, path_is_in_table, path_is_short, path_has_no_more_bits, path_leads}
use Rattle.tap_states.proofs.Tap.path.Goals as goal

pub returns-clause-path : goal.returns-clause-path
returns-clause-path c = rw c.row.ensures (table_is_path c.args.from c.args.to)

pub returns-clause-is : goal.returns-clause-is
returns-clause-is c = ap path_bits c.row.ensures ∙ path_is_in_table c.args.from c.args.to

pub returns-clause-leads : goal.returns-clause-leads
returns-clause-leads c = rw c.row.ensures (path_leads c.args.from c.args.to _ (table_is_path c.args.from c.args.to))

pub returns-clause-short : goal.returns-clause-short
returns-clause-short c = rw c.row.ensures (path_is_short c.args.from c.args.to)

pub returns-clause-no_more_bits : goal.returns-clause-no_more_bits
returns-clause-no_more_bits c = rw c.row.ensures (path_has_no_more_bits c.args.from c.args.to)
