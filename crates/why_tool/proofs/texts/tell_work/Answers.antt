use Rattle.std.proofs.Common.{sym, refl, subst, Some}
use Rattle.stapl_syntax.specs.ProgramValues.{trees_of}
use Rattle.stapl_checker.specs.Answers.{IsCause}
use Rattle.tool_frame.proofs.AnswerLemmas.{says_within}
use Rattle.play_tool.specs.Answers.{Works}
use Rattle.play_tool.proofs.AnswerLemmas.{program_in_text}
use Rattle.why_tool.specs.Told.{known_alone}
use Rattle.why_tool.proofs.ExplainLemmas.{explains_within, shown_said, shown_failed}
use Rattle.why_tool.proofs.TextLemmas.{refused_shown, fault_at}
use Rattle.why_tool.proofs.texts.tell_work.Goals as goal

pub tell_worked-requires-clause-program : goal.tell_worked-requires-clause-program
tell_worked-requires-clause-program g c = rw c.in-Ok.ensures.text c.in-Ok.ensures.program

pub returns-in-Ok : goal.returns-in-Ok
returns-in-Ok g c =
    says_within _ _ _ _ _ c.tell_worked.result (explains_within (program_in_text (trees_of c.in-Ok.program) c.in-Ok.ensures.program)) (λ none. none)
    (rw c.in-Ok.ensures.text at c.tell_worked.ensures)

pub returns-in_err-show_piece-in-Err-Refused : goal.returns-in_err-show_piece-in-Err-Refused
returns-in_err-show_piece-in-Err-Refused g c =
    shown_failed _ _ _ _ _ _ c.from_residual.result
    (refused_shown (Works c.args.work c.args.text.now) c.args.text.now (known_alone (Some c.args.text.now)) refl
    (fault_at (sym c.in-Err-Refused.piece-is) (subst (IsCause c.args.text.now) c.in-Err-Refused.field-0-is c.in-Err-Refused.ensures.refused)))
    c.from_residual.ensures.1 c.in_err-show_piece-in-Err-Refused.ensures

pub returns-in_ok-show_piece-in-Err-Refused : goal.returns-in_ok-show_piece-in-Err-Refused
returns-in_ok-show_piece-in-Err-Refused g c =
    shown_said
    (refused_shown (Works c.args.work c.args.text.now) c.args.text.now (known_alone (Some c.args.text.now)) refl
    (fault_at (sym c.in-Err-Refused.piece-is) (subst (IsCause c.args.text.now) c.in-Err-Refused.field-0-is c.in-Err-Refused.ensures.refused)))
    c.in_ok-show_piece-in-Err-Refused.ensures
