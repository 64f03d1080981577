use Rattle.std.proofs.Common.{sym, ap, Err, Some, refl, rules}
use Rattle.tool_frame.specs.declared.no_answer.NoAnswer.TheVariants.{Read, Memory}
use Rattle.named_files.proofs.BoardLemmas.{of_file_as, of_any_file}
use Rattle.play_words.specs.declared.status.Status.TheVariants.{CodeRefused}
use Rattle.play_tool.proofs.CodeLemmas.{code_answers, file_final, fault_is, code_refusal_failed, code_refusal_put}
use Rattle.play_tool.proofs.FileLemmas.{left_failed, left_refused, left_unread, said_and_left}
use Rattle.tool_frame.proofs.FileLemmas.{shelf_of_read}
use Rattle.play_tool.proofs.sources.play_code_file.Goals as goal

pub returns-in-Ok-clause-answers : goal.returns-in-Ok-clause-answers
returns-in-Ok-clause-answers g c =
    of_file_as (λ held is.
    said_and_left g.K.Sink c.play_code.result (code_answers c.args.task.now.request.now c.args.task.now.devices.now c.in-Ok.code held is)
    (file_final held is) c.play_code.ensures.says c.play_code.ensures.rack) c.in-Ok.ensures.code

pub returns-in_err-put_code_refusal-in-Err-At-clause-answers : goal.returns-in_err-put_code_refusal-in-Err-At-clause-answers
returns-in_err-put_code_refusal-in-Err-At-clause-answers g c =
    of_file_as (λ held says. record { says = says; left = left_failed c.from_residual.result c.from_residual.ensures.1 })
    (code_refusal_failed c.args.task.now.request.now c.args.task.now.devices.now _ _
    (fault_is (sym c.in-Err-At.offset-is) (sym c.in-Err-At.reason-is)
    (c.in-Err-At.ensures.fault c.in-Err-At.offset c.in-Err-At.reason (ap Err c.in-Err-At.field-0-is)))
    c.from_residual.result c.from_residual.ensures.1 c.in_err-put_code_refusal-in-Err-At.ensures)

pub returns-in_ok-put_code_refusal-in-Err-At-clause-answers : goal.returns-in_ok-put_code_refusal-in-Err-At-clause-answers
returns-in_ok-put_code_refusal-in-Err-At-clause-answers g c =
    of_file_as (λ held says. record { says = says; left = left_refused (CodeRefused _ _) (λ p. p) })
    (code_refusal_put c.args.task.now.request.now c.args.task.now.devices.now _ _
    (fault_is (sym c.in-Err-At.offset-is) (sym c.in-Err-At.reason-is)
    (c.in-Err-At.ensures.fault c.in-Err-At.offset c.in-Err-At.reason (ap Err c.in-Err-At.field-0-is)))
    c.in_ok-put_code_refusal-in-Err-At.ensures)

pub returns-in-Err-Read-clause-answers : goal.returns-in-Err-Read-clause-answers
returns-in-Err-Read-clause-answers g c = of_any_file (g.S.Shelf.told c.args.shelf.now) (Some c.args.path.now) (λ held. record { says = (refl, refl); left = left_unread Read })

pub returns-in-Err-Memory-clause-answers : goal.returns-in-Err-Memory-clause-answers
returns-in-Err-Memory-clause-answers g c = of_any_file (g.S.Shelf.told c.args.shelf.now) (Some c.args.path.now) (λ held. record { says = (refl, refl); left = left_unread Memory })

pub returns-in-Ok-clause-shelf : goal.returns-in-Ok-clause-shelf
returns-in-Ok-clause-shelf g c =
    shelf_of_read c.code_named.result c.code_named.ensures.once c.code_named.ensures.keeps c.code_named.ensures.later (search rules)

pub returns-in_err-put_code_refusal-in-Err-At-clause-shelf : goal.returns-in_err-put_code_refusal-in-Err-At-clause-shelf
returns-in_err-put_code_refusal-in-Err-At-clause-shelf g c =
    shelf_of_read c.code_named.result c.code_named.ensures.once c.code_named.ensures.keeps c.code_named.ensures.later (search rules)

pub returns-in_ok-put_code_refusal-in-Err-At-clause-shelf : goal.returns-in_ok-put_code_refusal-in-Err-At-clause-shelf
returns-in_ok-put_code_refusal-in-Err-At-clause-shelf g c =
    shelf_of_read c.code_named.result c.code_named.ensures.once c.code_named.ensures.keeps c.code_named.ensures.later (search rules)

pub returns-in-Err-Read-clause-shelf : goal.returns-in-Err-Read-clause-shelf
returns-in-Err-Read-clause-shelf g c =
    shelf_of_read c.code_named.result c.code_named.ensures.once c.code_named.ensures.keeps c.code_named.ensures.later (search rules)

pub returns-in-Err-Memory-clause-shelf : goal.returns-in-Err-Memory-clause-shelf
returns-in-Err-Memory-clause-shelf g c =
    shelf_of_read c.code_named.result c.code_named.ensures.once c.code_named.ensures.keeps c.code_named.ensures.later (search rules)
