use Rattle.stapl_meaning.specs.Scopes.{as_played}
use Rattle.scan_accounts.proofs.RunsOrLines.{runs_or_lines, lines_in_order}
use Rattle.scan_accounts.proofs.laws.a_turn_has_runs_or_lines.Goals as goal

pub returns : goal.returns
returns c = record {
  either = λ text program chosen n base far is.
      runs_or_lines (as_played program) (c.programs_are_typed.ensures text program is) chosen n base far;
  order = λ text program chosen n base far cut is.
      lines_in_order (as_played program) (c.programs_are_typed.ensures text program is) chosen n base far cut;
}
