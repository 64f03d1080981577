use Rattle.std.proofs.Common.{sym, refl, subst, Some}
use Rattle.stapl_syntax.specs.ProgramValues.{trees_of}
use Rattle.stapl_checker.specs.Answers.{IsCause}
use Rattle.tool_frame.proofs.AnswerLemmas.{says_within}
use Rattle.play_tool.specs.Answers.{PlaysAction}
use Rattle.play_tool.proofs.AnswerLemmas.{program_in_text}
use Rattle.why_tool.specs.Told.{known_with}
use Rattle.why_tool.proofs.ExplainLemmas.{explains_within, shown_said, shown_failed}
use Rattle.why_tool.proofs.TextLemmas.{refused_shown, fault_at}
use Rattle.why_tool.proofs.texts.tell_text.Goals as goal

pub tell_program-requires-clause-program : goal.tell_program-requires-clause-program
tell_program-requires-clause-program g c = rw c.in-Ok.ensures.text c.in-Ok.ensures.program

pub returns-in-Ok-clause-says : goal.returns-in-Ok-clause-says
returns-in-Ok-clause-says g c = λ board is.
    says_within _ _ _ _ _ c.tell_program.result (explains_within (program_in_text (trees_of c.in-Ok.program) c.in-Ok.ensures.program)) (λ none. none)
    (rw c.in-Ok.ensures.text at c.tell_program.ensures.says board is)

pub returns-in_err-show_piece-in-Err-Refused-clause-says : goal.returns-in_err-show_piece-in-Err-Refused-clause-says
returns-in_err-show_piece-in-Err-Refused-clause-says g c = λ board is.
    shown_failed _ _ _ _ _ _ c.from_residual.result
    (refused_shown (PlaysAction c.args.task.now.request.now c.args.task.now.devices.now) c.args.text.now (known_with board (Some c.args.text.now)) refl
    (fault_at (sym c.in-Err-Refused.piece-is) (subst (IsCause c.args.text.now) c.in-Err-Refused.field-0-is c.in-Err-Refused.ensures.refused)))
    c.from_residual.ensures.1 c.in_err-show_piece-in-Err-Refused.ensures

pub returns-in_ok-show_piece-in-Err-Refused-clause-says : goal.returns-in_ok-show_piece-in-Err-Refused-clause-says
returns-in_ok-show_piece-in-Err-Refused-clause-says g c = λ board is.
    shown_said
    (refused_shown (PlaysAction c.args.task.now.request.now c.args.task.now.devices.now) c.args.text.now (known_with board (Some c.args.text.now)) refl
    (fault_at (sym c.in-Err-Refused.piece-is) (subst (IsCause c.args.text.now) c.in-Err-Refused.field-0-is c.in-Err-Refused.ensures.refused)))
    c.in_ok-show_piece-in-Err-Refused.ensures
