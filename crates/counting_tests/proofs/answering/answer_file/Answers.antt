use Rattle.std.proofs.Common.{Err, Some, ap, refl, rules}
use Rattle.tool_frame.proofs.AnswerLemmas.{says_failed, said_text, said_front}
use Rattle.tool_frame.proofs.FileLemmas.{shelf_of_read}
use Rattle.named_files.proofs.BoardLemmas.{of_file_as, of_any_file}
use Rattle.counting_tests.specs.Answers.{counted, refused}
use Rattle.counting_tests.proofs.answering.answer_file.Goals as goal

pub returns-in_err-put_devices-in-Ok-clause-says : goal.returns-in_err-put_devices-in-Ok-clause-says
returns-in_err-put_devices-in-Ok-clause-says g c =
    of_file_as (λ held board. says_failed _ _ _ _ _ c.from_residual.result c.from_residual.ensures.1
    (said_front _ _ (counted _ board) (rw c.deref.ensures.value at c.in_err-put_devices-in-Ok.ensures))) c.in-Ok.ensures.board

pub returns-in_ok-put_devices-in-Ok-clause-says : goal.returns-in_ok-put_devices-in-Ok-clause-says
returns-in_ok-put_devices-in-Ok-clause-says g c =
    of_file_as (λ held board. said_text _ (counted _ board) (rw c.deref.ensures.value at c.in_ok-put_devices-in-Ok.ensures)) c.in-Ok.ensures.board

pub returns-in_err-put_board_refusal-in-Err-At-clause-says : goal.returns-in_err-put_board_refusal-in-Err-At-clause-says
returns-in_err-put_board_refusal-in-Err-At-clause-says g c =
    of_file_as (λ held fault. says_failed _ _ _ _ _ c.from_residual-in_err-put_board_refusal-in-Err-At.result
    c.from_residual-in_err-put_board_refusal-in-Err-At.ensures.1
    (said_front _ _ (refused _ _ fault) c.in_err-put_board_refusal-in-Err-At.ensures))
    (c.in-Err-At.ensures.fault _ _ (ap Err c.in-Err-At.field-0-is))

pub returns-in_ok-put_board_refusal-in-Err-At-clause-says : goal.returns-in_ok-put_board_refusal-in-Err-At-clause-says
returns-in_ok-put_board_refusal-in-Err-At-clause-says g c =
    of_file_as (λ held fault. said_text _ (refused _ _ fault) c.in_ok-put_board_refusal-in-Err-At.ensures)
    (c.in-Err-At.ensures.fault _ _ (ap Err c.in-Err-At.field-0-is))

pub returns-in-Err-Read-clause-says : goal.returns-in-Err-Read-clause-says
returns-in-Err-Read-clause-says g c = of_any_file (g.S.Shelf.told c.args.shelf.now) (Some c.args.path.now) (λ held. (refl, refl))

pub returns-in-Err-Memory-clause-says : goal.returns-in-Err-Memory-clause-says
returns-in-Err-Memory-clause-says g c = of_any_file (g.S.Shelf.told c.args.shelf.now) (Some c.args.path.now) (λ held. (refl, refl))

pub returns-in_err-put_devices-in-Ok-clause-shelf : goal.returns-in_err-put_devices-in-Ok-clause-shelf
returns-in_err-put_devices-in-Ok-clause-shelf g c =
    shelf_of_read c.board_named.result c.board_named.ensures.once c.board_named.ensures.keeps c.board_named.ensures.later (search rules)

pub returns-in_err-put_board_refusal-in-Err-At-clause-shelf : goal.returns-in_err-put_board_refusal-in-Err-At-clause-shelf
returns-in_err-put_board_refusal-in-Err-At-clause-shelf g c =
    shelf_of_read c.board_named.result c.board_named.ensures.once c.board_named.ensures.keeps c.board_named.ensures.later (search rules)

pub returns-in_ok-put_devices-in-Ok-clause-shelf : goal.returns-in_ok-put_devices-in-Ok-clause-shelf
returns-in_ok-put_devices-in-Ok-clause-shelf g c =
    shelf_of_read c.board_named.result c.board_named.ensures.once c.board_named.ensures.keeps c.board_named.ensures.later (search rules)

pub returns-in_ok-put_board_refusal-in-Err-At-clause-shelf : goal.returns-in_ok-put_board_refusal-in-Err-At-clause-shelf
returns-in_ok-put_board_refusal-in-Err-At-clause-shelf g c =
    shelf_of_read c.board_named.result c.board_named.ensures.once c.board_named.ensures.keeps c.board_named.ensures.later (search rules)

pub returns-in-Err-Read-clause-shelf : goal.returns-in-Err-Read-clause-shelf
returns-in-Err-Read-clause-shelf g c =
    shelf_of_read c.board_named.result c.board_named.ensures.once c.board_named.ensures.keeps c.board_named.ensures.later (search rules)

pub returns-in-Err-Memory-clause-shelf : goal.returns-in-Err-Memory-clause-shelf
returns-in-Err-Memory-clause-shelf g c =
    shelf_of_read c.board_named.result c.board_named.ensures.once c.board_named.ensures.keeps c.board_named.ensures.later (search rules)
