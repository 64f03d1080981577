use Rattle.std.proofs.Common.{Err, ap, ◌∙◌}
use Rattle.stapl_syntax.specs.ProgramValues.{trees_of}
use Rattle.tool_frame.proofs.AnswerLemmas.{says_failed, said_text, said_front}
use Rattle.print_tool.specs.declared.status.PrintStatus.TheVariants.{Done, TooLarge}
use Rattle.print_tool.specs.Answers.{too_large}
use Rattle.print_tool.proofs.AnswerLemmas.{printed_as}
use Rattle.print_tool.proofs.answering.put_program.Goals as goal

pub returns-in_err-put-in-Ok : goal.returns-in_err-put-in-Ok
returns-in_err-put-in-Ok g c =
    says_failed _ _ _ _ _ c.from_residual.result c.from_residual.ensures.1
    (said_front _ Done (printed_as c.args.program.now.text _ (trees_of c.args.program.now) c.requires.program c.in-Ok.ensures.fits (c.deref.ensures.value ∙ c.in-Ok.ensures.text))
    c.in_err-put-in-Ok.ensures.put)

pub returns-in_err-put-in-Err-TooLarge : goal.returns-in_err-put-in-Err-TooLarge
returns-in_err-put-in-Err-TooLarge g c =
    says_failed _ _ _ _ _ c.from_residual-in_err-put-in-Err-TooLarge.result c.from_residual-in_err-put-in-Err-TooLarge.ensures.1
    (said_front _ TooLarge (too_large (trees_of c.args.program.now) c.requires.program (c.in-Err-TooLarge.ensures.too_large (ap Err c.in-Err-TooLarge.field-0-is)))
    c.in_err-put-in-Err-TooLarge.ensures.put)

pub returns-in_ok-put-in-Ok : goal.returns-in_ok-put-in-Ok
returns-in_ok-put-in-Ok g c =
    said_text _ (printed_as c.args.program.now.text _ (trees_of c.args.program.now) c.requires.program c.in-Ok.ensures.fits (c.deref.ensures.value ∙ c.in-Ok.ensures.text))
    c.in_ok-put-in-Ok.ensures.put

pub returns-in_ok-put-in-Err-TooLarge : goal.returns-in_ok-put-in-Err-TooLarge
returns-in_ok-put-in-Err-TooLarge g c =
    said_text _ (too_large (trees_of c.args.program.now) c.requires.program (c.in-Err-TooLarge.ensures.too_large (ap Err c.in-Err-TooLarge.field-0-is)))
    c.in_ok-put-in-Err-TooLarge.ensures.put
