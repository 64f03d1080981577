use Rattle.std.proofs.Common.{◌≡◌, ◌∙◌, ◌++◌, pos, Some, sym, ap}
use Rattle.std.specs.Option.{option_map}
use Rattle.play_words.specs.declared.status.Status.TheVariants.{Done}
use Rattle.tool_frame.proofs.AnswerLemmas.{says_failed, said_text, said_front}
use Rattle.tool_questions.specs.BoardLines.{numbered_line, line_text, fault_text, known, shown}
use Rattle.tool_questions.proofs.board.answer_line.Goals as goal

pub returns-in_err-put_line_and_fault-in-Some : goal.returns-in_err-put_line_and_fault-in-Some
returns-in_err-put_line_and_fault-in-Some g c =
    let at : numbered_line c.args.number c.args.text.now ≡ Some c.in-Some.line.now = sym c.line_numbered.ensures ∙ ap (option_map (λ l. l.now)) c.in-Some.is in
    says_failed _ _ _ _ _ c.from_residual-in_err-put_line_and_fault-in-Some.result c.from_residual-in_err-put_line_and_fault-in-Some.ensures.1
    (said_front (line_text c.args.number c.in-Some.line.now ++ fault_text c.args.number c.args.fault) (Done (pos 0))
    (known c.requires.small (shown c.in-Some.line.now c.args.fault at c.requires.fault)) c.in_err-put_line_and_fault-in-Some.ensures)

pub returns-in-Some : goal.returns-in-Some
returns-in-Some g c =
    let at : numbered_line c.args.number c.args.text.now ≡ Some c.in-Some.line.now = sym c.line_numbered.ensures ∙ ap (option_map (λ l. l.now)) c.in-Some.is in
    said_text (line_text c.args.number c.in-Some.line.now ++ fault_text c.args.number c.args.fault)
    (known c.requires.small (shown c.in-Some.line.now c.args.fault at c.requires.fault)) c.in_ok-put_line_and_fault-in-Some.ensures
