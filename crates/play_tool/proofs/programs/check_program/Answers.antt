use Rattle.std.proofs.Common.{refl, pos}
use Rattle.stapl_syntax.specs.ProgramValues.{trees_of}
use Rattle.play_words.specs.declared.status.Status.TheVariants.{Done}
use Rattle.program_reports.specs.Checks.{check_text, checked}
use Rattle.tool_frame.proofs.AnswerLemmas.{says_failed, says_no_memory, said_text, said_front}
use Rattle.play_tool.proofs.programs.check_program.Goals as goal

pub returns-in_err-words : goal.returns-in_err-words
returns-in_err-words g c = says_no_memory _ _ _ _ _ c.from_residual.result c.from_residual.ensures.1 (refl, refl)

pub returns-in_err-put_check : goal.returns-in_err-put_check
returns-in_err-put_check g c =
    says_failed _ _ _ _ _ c.from_residual-in_err-put_check.result c.from_residual-in_err-put_check.ensures.1
    (said_front (check_text (trees_of c.args.program.now) c.in_ok-words.words) (Done (pos 0))
    (record { said = checked c.in_ok-words.words (rw (c.text.ensures.text, c.statements.ensures.statements) at c.in_ok-words.ensures); done = refl })
    (rw c.statements-2.ensures.statements at c.in_err-put_check.ensures))

pub returns : goal.returns
returns g c =
    said_text (check_text (trees_of c.args.program.now) c.in_ok-words.words)
    (record { said = checked c.in_ok-words.words (rw (c.text.ensures.text, c.statements.ensures.statements) at c.in_ok-words.ensures); done = refl })
    (rw c.statements-2.ensures.statements at c.in_ok-put_check.ensures)
