use Rattle.std.proofs.Common.{Err, ap, arith}
use Rattle.stapl_syntax.specs.ProgramValues.{trees_of}
use Rattle.tool_frame.proofs.AnswerLemmas.{says_failed, said_text, said_front}
use Rattle.rewrite_tool.specs.declared.status.RewriteStatus.TheVariants.{Done, BadPlace, OwnPadding, TooLarge}
use Rattle.rewrite_tool.specs.Texts.{place_line, padding_line, too_large_line}
use Rattle.rewrite_tool.specs.Answers.{bad_place, own_padding, too_large}
use Rattle.rewrite_tool.proofs.ProgramLemmas.{written_as}
use Rattle.rewrite_tool.proofs.programs.put_rewritten.Goals as goal

pub returns-in_err-put : goal.returns-in_err-put
returns-in_err-put g c =
    says_failed _ _ _ _ _ c.from_residual.result c.from_residual.ensures.1
    (said_front place_line BadPlace (bad_place (trees_of c.args.program.now) c.requires.program (omega arith)) c.in_err-put.ensures.put)

pub returns-then-run-devices : goal.returns-then-run-devices
returns-then-run-devices g c =
    said_text place_line (bad_place (trees_of c.args.program.now) c.requires.program (omega arith)) c.in_ok-put.ensures.put

pub returns-in_err-put-in-Ok : goal.returns-in_err-put-in-Ok
returns-in_err-put-in-Ok g c =
    says_failed _ _ _ _ _ c.from_residual-in_err-put-in-Ok.result c.from_residual-in_err-put-in-Ok.ensures.1
    (said_front _ Done
    (written_as c.args.devices.now c.args.run c.args.program.now.text _ _ (trees_of c.args.program.now) c.requires.program (omega arith) c.in-Ok.ensures.text c.deref.ensures.value)
    c.in_err-put-in-Ok.ensures.put)

pub returns-in_ok-put-in-Ok : goal.returns-in_ok-put-in-Ok
returns-in_ok-put-in-Ok g c =
    said_text _
    (written_as c.args.devices.now c.args.run c.args.program.now.text _ _ (trees_of c.args.program.now) c.requires.program (omega arith) c.in-Ok.ensures.text c.deref.ensures.value)
    c.in_ok-put-in-Ok.ensures.put

pub returns-in_err-put_count_line-in-Err-OwnPadding : goal.returns-in_err-put_count_line-in-Err-OwnPadding
returns-in_err-put_count_line-in-Err-OwnPadding g c =
    says_failed _ _ _ _ _ c.from_residual-in_err-put_count_line-in-Err-OwnPadding.result c.from_residual-in_err-put_count_line-in-Err-OwnPadding.ensures.1
    (said_front (padding_line c.in-Err-OwnPadding.piece) (OwnPadding c.in-Err-OwnPadding.piece)
    (own_padding (trees_of c.args.program.now) c.in-Err-OwnPadding.piece c.requires.program (omega arith)
    (c.in-Err-OwnPadding.ensures.own_padding c.in-Err-OwnPadding.piece (ap Err c.in-Err-OwnPadding.field-0-is)))
    c.in_err-put_count_line-in-Err-OwnPadding.ensures)

pub returns-in_ok-put_count_line-in-Err-OwnPadding : goal.returns-in_ok-put_count_line-in-Err-OwnPadding
returns-in_ok-put_count_line-in-Err-OwnPadding g c =
    said_text (padding_line c.in-Err-OwnPadding.piece)
    (own_padding (trees_of c.args.program.now) c.in-Err-OwnPadding.piece c.requires.program (omega arith)
    (c.in-Err-OwnPadding.ensures.own_padding c.in-Err-OwnPadding.piece (ap Err c.in-Err-OwnPadding.field-0-is)))
    c.in_ok-put_count_line-in-Err-OwnPadding.ensures

pub returns-in_err-put-in-Err-TooLarge : goal.returns-in_err-put-in-Err-TooLarge
returns-in_err-put-in-Err-TooLarge g c =
    says_failed _ _ _ _ _ c.from_residual-in_err-put-in-Err-TooLarge.result c.from_residual-in_err-put-in-Err-TooLarge.ensures.1
    (said_front too_large_line TooLarge
    (too_large (trees_of c.args.program.now) c.requires.program (omega arith) (c.in-Err-TooLarge.ensures.too_large (ap Err c.in-Err-TooLarge.field-0-is)))
    c.in_err-put-in-Err-TooLarge.ensures.put)

pub returns-in_ok-put-in-Err-TooLarge : goal.returns-in_ok-put-in-Err-TooLarge
returns-in_ok-put-in-Err-TooLarge g c =
    said_text too_large_line
    (too_large (trees_of c.args.program.now) c.requires.program (omega arith) (c.in-Err-TooLarge.ensures.too_large (ap Err c.in-Err-TooLarge.field-0-is)))
    c.in_ok-put-in-Err-TooLarge.ensures.put
