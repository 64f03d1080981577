-- The running totals of the checker as those of the rules.
use Rattle.std.specs.Prelude.{◌+◌}
use Rattle.stapl_syntax.specs.Trees.{BodyTree}
use Rattle.stapl_syntax.specs.Rules.{boolean_elements, integer_elements}
use Rattle.stapl_syntax.specs.Rules as rules
use Rattle.checker_rules.specs.declared.sizes.Totals.{Totals}

abbrev pub totals_of : Totals → rules.Totals
totals_of t = record { booleans = t.booleans; integers = t.integers }

-- the totals after one more statement
abbrev pub totals_after : rules.Totals → BodyTree → rules.Totals
totals_after before body = record {
  booleans = before.booleans + boolean_elements body;
  integers = before.integers + integer_elements body;
}
