use Rattle.std.proofs.Common.{sym, ap, Err, Some, refl, rules}
use Rattle.stapl_syntax.specs.ProgramValues.{trees_of}
use Rattle.tool_frame.specs.declared.no_answer.NoAnswer.TheVariants.{Read, Memory}
use Rattle.named_files.proofs.BoardLemmas.{of_file_as, of_any_file}
use Rattle.program_files.proofs.ProgramLemmas.{of_text, fault_is, refusal_failed, refusal_put}
use Rattle.play_words.specs.declared.status.Status.TheVariants.{Refused}
use Rattle.play_tool.specs.Answers.{PlaysAction, TextAnswer, refused}
use Rattle.play_tool.proofs.AnswerLemmas.{program_in_text}
use Rattle.play_tool.proofs.FileLemmas.{left_failed, left_refused, left_unread, said_and_left}
use Rattle.tool_frame.proofs.FileLemmas.{shelf_of_read}
use Rattle.play_tool.proofs.sources.play_program_file.Goals as goal

pub returns-in-Ok-clause-answers : goal.returns-in-Ok-clause-answers
returns-in-Ok-clause-answers g c =
    of_text (g.S.Shelf.told c.args.shelf.now) c.args.path.now _ c.in-Ok.ensures.text
    (said_and_left g.K.Sink c.play_program.result (program_in_text (trees_of c.in-Ok.program) c.in-Ok.ensures.program)
    (λ rack final. record { program = trees_of c.in-Ok.program; is = c.in-Ok.ensures.program; final = final }) c.play_program.ensures.says c.play_program.ensures.rack)

pub returns-in_err-put_refusal-in-Err-Refused-clause-answers : goal.returns-in_err-put_refusal-in-Err-Refused-clause-answers
returns-in_err-put_refusal-in-Err-Refused-clause-answers g c =
    of_file_as (λ held says. record { says = says; left = left_failed c.from_residual.result c.from_residual.ensures.1 })
    (refusal_failed _ _ _ (TextAnswer (PlaysAction c.args.task.now.request.now c.args.task.now.devices.now)) _ (λ bytes. refused _ _ _)
    (fault_is (sym c.in-Err-Refused.piece-is) (sym c.in-Err-Refused.line-is) (sym c.in-Err-Refused.reason-is)
    (c.in-Err-Refused.ensures.fault c.in-Err-Refused.piece c.in-Err-Refused.line c.in-Err-Refused.reason (ap Err c.in-Err-Refused.field-0-is)))
    c.from_residual.result c.from_residual.ensures.1 c.in_err-put_refusal-in-Err-Refused.ensures)

pub returns-in_ok-put_refusal-in-Err-Refused-clause-answers : goal.returns-in_ok-put_refusal-in-Err-Refused-clause-answers
returns-in_ok-put_refusal-in-Err-Refused-clause-answers g c =
    of_file_as (λ held says. record { says = says; left = left_refused (Refused _ _) (λ p. p) })
    (refusal_put _ _ _ (TextAnswer (PlaysAction c.args.task.now.request.now c.args.task.now.devices.now)) _ (λ bytes. refused _ _ _)
    (fault_is (sym c.in-Err-Refused.piece-is) (sym c.in-Err-Refused.line-is) (sym c.in-Err-Refused.reason-is)
    (c.in-Err-Refused.ensures.fault c.in-Err-Refused.piece c.in-Err-Refused.line c.in-Err-Refused.reason (ap Err c.in-Err-Refused.field-0-is)))
    c.in_ok-put_refusal-in-Err-Refused.ensures)

pub returns-in-Err-Read-clause-answers : goal.returns-in-Err-Read-clause-answers
returns-in-Err-Read-clause-answers g c = of_any_file (g.S.Shelf.told c.args.shelf.now) (Some c.args.path.now) (λ held. record { says = (refl, refl); left = left_unread Read })

pub returns-in-Err-Memory-clause-answers : goal.returns-in-Err-Memory-clause-answers
returns-in-Err-Memory-clause-answers g c = of_any_file (g.S.Shelf.told c.args.shelf.now) (Some c.args.path.now) (λ held. record { says = (refl, refl); left = left_unread Memory })

pub returns-in-Ok-clause-shelf : goal.returns-in-Ok-clause-shelf
returns-in-Ok-clause-shelf g c =
    shelf_of_read c.program_named.result c.program_named.ensures.once c.program_named.ensures.keeps c.program_named.ensures.later (search rules)

pub returns-in_err-put_refusal-in-Err-Refused-clause-shelf : goal.returns-in_err-put_refusal-in-Err-Refused-clause-shelf
returns-in_err-put_refusal-in-Err-Refused-clause-shelf g c =
    shelf_of_read c.program_named.result c.program_named.ensures.once c.program_named.ensures.keeps c.program_named.ensures.later (search rules)

pub returns-in_ok-put_refusal-in-Err-Refused-clause-shelf : goal.returns-in_ok-put_refusal-in-Err-Refused-clause-shelf
returns-in_ok-put_refusal-in-Err-Refused-clause-shelf g c =
    shelf_of_read c.program_named.result c.program_named.ensures.once c.program_named.ensures.keeps c.program_named.ensures.later (search rules)

pub returns-in-Err-Read-clause-shelf : goal.returns-in-Err-Read-clause-shelf
returns-in-Err-Read-clause-shelf g c =
    shelf_of_read c.program_named.result c.program_named.ensures.once c.program_named.ensures.keeps c.program_named.ensures.later (search rules)

pub returns-in-Err-Memory-clause-shelf : goal.returns-in-Err-Memory-clause-shelf
returns-in-Err-Memory-clause-shelf g c =
    shelf_of_read c.program_named.result c.program_named.ensures.once c.program_named.ensures.keeps c.program_named.ensures.later (search rules)
