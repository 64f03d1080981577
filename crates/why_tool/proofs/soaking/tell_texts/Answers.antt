use Rattle.std.proofs.Common.{sym, ap, Err, Some}
use Rattle.tool_frame.proofs.AnswerLemmas.{says_within}
use Rattle.play_tool.specs.declared.sources.Source.TheVariants.{Program}
use Rattle.play_tool.proofs.AnswerLemmas.{board_of_devices}
use Rattle.why_tool.proofs.ExplainLemmas.{explains_within, shown_said, shown_failed}
use Rattle.why_tool.proofs.FileLemmas.{board_shown, line_at}
use Rattle.why_tool.proofs.soaking.tell_texts.Goals as goal

pub returns-in-Ok-clause-says : goal.returns-in-Ok-clause-says
returns-in-Ok-clause-says g c =
    says_within _ _ _ _ _ c.tell_text.result
    (explains_within (board_of_devices {held = Some c.args.board.now} c.in-Ok.devices.items c.in-Ok.ensures.board)) (λ none. none)
    (rw c.deref.ensures.value at c.tell_text.ensures.says c.args.board.now c.in-Ok.ensures.board)

pub returns-in_err-show_line-in-Err-At-clause-says : goal.returns-in_err-show_line-in-Err-At-clause-says
returns-in_err-show_line-in-Err-At-clause-says g c =
    shown_failed _ _ _ _ _ _ c.from_residual.result
    (λ said shows. board_shown Program c.args.request.now c.args.board.now (Some c.args.program.now)
    (line_at (sym c.in-Err-At.line-is) (c.in-Err-At.ensures.fault _ _ (ap Err c.in-Err-At.field-0-is))) said shows)
    c.from_residual.ensures.1 c.in_err-show_line-in-Err-At.ensures

pub returns-in_ok-show_line-in-Err-At-clause-says : goal.returns-in_ok-show_line-in-Err-At-clause-says
returns-in_ok-show_line-in-Err-At-clause-says g c =
    shown_said
    (λ said shows. board_shown Program c.args.request.now c.args.board.now (Some c.args.program.now)
    (line_at (sym c.in-Err-At.line-is) (c.in-Err-At.ensures.fault _ _ (ap Err c.in-Err-At.field-0-is))) said shows)
    c.in_ok-show_line-in-Err-At.ensures
