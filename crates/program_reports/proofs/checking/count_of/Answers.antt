use Rattle.std.proofs.Common.{◌∙◌, sym, ap, List}
use Rattle.std.proofs.lemmas.List.{take_all}
use Rattle.std.specs.List.{count_by}
use Rattle.stapl_syntax.specs.declared.statement.Stmt.{Stmt}
use Rattle.program_reports.specs.Checks.{has_kind}
use Rattle.program_reports.proofs.CheckLemmas.{counts}
use Rattle.program_reports.proofs.checking.count_of.Goals as goal

pub returns-clause-count : goal.returns-clause-count
returns-clause-count c =
    c.loop-statement.invariant.counted
    ∙ ap (λ (z : List Stmt). count_by (has_kind c.args.kind) z) (take_all c.loop-statement.statement-index c.args.program.now c.loop-statement-test.false)
    ∙ sym (counts c.args.kind c.args.program.now)
