use Rattle.std.proofs.Common.{rules, map, string_bytes, Global}
use Rattle.tool_frame.proofs.AnswerLemmas.{wrote_all, unfinished, not_answered}
use Rattle.tool_frame.proofs.FileLemmas.{of_files_as}
use Rattle.why_tool.proofs.whys.run_why.Goals as goal

pub returns-in_err-status-clause-ran : goal.returns-in_err-status-clause-ran
returns-in_err-status-clause-ran g c =
    of_files_as (λ contents says. not_answered g.K.Sink _ _ _ c.in_err-status.field-0.0 c.from_residual.result c.from_residual.ensures.1
    c.new-lines.ensures.empty (search rules) (search rules) (λ none. absurd none) says) c.in_err-status.ensures.says

pub returns-in_err-finish-clause-ran : goal.returns-in_err-finish-clause-ran
returns-in_err-finish-clause-ran g c =
    of_files_as (λ contents says. unfinished c.new-lines.ensures.empty (search rules) c.from_residual-in_err-finish.result c.from_residual-in_err-finish.ensures.1 (search rules)
    says c.in_err-finish.ensures.put) c.in_ok-status.ensures.says

pub returns-clause-ran : goal.returns-clause-ran
returns-clause-ran g c =
    of_files_as (λ contents says. wrote_all c.new-lines.ensures.empty (search rules) (search rules) says c.in_ok-finish.ensures.put c.in_ok-finish.ensures.empty)
    c.in_ok-status.ensures.says
