use Rattle.std.proofs.Common.{sym, ap, Err, refl, rules}
use Rattle.named_files.proofs.BoardLemmas.{fault_is}
use Rattle.tool_frame.specs.declared.no_answer.NoAnswer.TheVariants.{Memory}
use Rattle.named_files.proofs.ContentLemmas.{shelf_of_board, shelf_of_request}
use Rattle.rewrite_tool.specs.Named.{request_of}
use Rattle.rewrite_tool.proofs.RequestLemmas.{request_of_file, board_failed, board_is_refused, no_board, no_board_memory}
use Rattle.rewrite_tool.proofs.requests.answer_request.Goals as goal

pub returns-in-Ok-clause-says : goal.returns-in-Ok-clause-says
returns-in-Ok-clause-says g c =
    request_of_file g.K.Sink _ _ (g.S.Shelf.told c.args.shelf.now) (request_of c.args.named) c.answer_file.result c.in-Ok.devices.items
    c.in-Ok.ensures.board (rw (c.deref.ensures.value, c.in-Ok.ensures.keeps) at c.answer_file.ensures.says)

pub returns-in_err-put_board_refusal-in-Err-At-clause-says : goal.returns-in_err-put_board_refusal-in-Err-At-clause-says
returns-in_err-put_board_refusal-in-Err-At-clause-says g c =
    board_failed (g.S.Shelf.told c.args.shelf.now) (request_of c.args.named) _ _
    (fault_is {told = g.S.Shelf.told c.args.shelf.now} {path = c.args.named.board.now} c.in-Err-At.line _ c.in-Err-At.reason _
    (sym c.in-Err-At.line-is) (sym c.in-Err-At.reason-is)
    (c.in-Err-At.ensures.fault c.in-Err-At.line c.in-Err-At.reason (ap Err c.in-Err-At.field-0-is)))
    c.from_residual.result c.from_residual.ensures.1
    c.in_err-put_board_refusal-in-Err-At.ensures

pub returns-in_ok-put_board_refusal-in-Err-At-clause-says : goal.returns-in_ok-put_board_refusal-in-Err-At-clause-says
returns-in_ok-put_board_refusal-in-Err-At-clause-says g c =
    board_is_refused (g.S.Shelf.told c.args.shelf.now) (request_of c.args.named) _ _
    (fault_is {told = g.S.Shelf.told c.args.shelf.now} {path = c.args.named.board.now} c.in-Err-At.line _ c.in-Err-At.reason _
    (sym c.in-Err-At.line-is) (sym c.in-Err-At.reason-is)
    (c.in-Err-At.ensures.fault c.in-Err-At.line c.in-Err-At.reason (ap Err c.in-Err-At.field-0-is)))
    c.in_ok-put_board_refusal-in-Err-At.ensures

pub returns-in-Err-Read-clause-says : goal.returns-in-Err-Read-clause-says
returns-in-Err-Read-clause-says g c = no_board g.K.Sink c.args.lines.now (g.S.Shelf.told c.args.shelf.now) (request_of c.args.named)

pub returns-in-Err-Memory-clause-says : goal.returns-in-Err-Memory-clause-says
returns-in-Err-Memory-clause-says g c = no_board_memory g.K.Sink c.args.lines.now (g.S.Shelf.told c.args.shelf.now) (request_of c.args.named) (Err Memory) refl

pub returns-in-Ok-clause-shelf : goal.returns-in-Ok-clause-shelf
returns-in-Ok-clause-shelf g c =
    shelf_of_request (request_of c.args.named).files c.in-Ok.ensures.board c.in-Ok.ensures.once c.in-Ok.ensures.keeps c.in-Ok.ensures.later c.answer_file.ensures.shelf

pub returns-in_err-put_board_refusal-in-Err-At-clause-shelf : goal.returns-in_err-put_board_refusal-in-Err-At-clause-shelf
returns-in_err-put_board_refusal-in-Err-At-clause-shelf g c =
    shelf_of_board c.board_named.result (request_of c.args.named).files c.board_named.ensures.once c.board_named.ensures.keeps c.board_named.ensures.later (search rules)

pub returns-in_ok-put_board_refusal-in-Err-At-clause-shelf : goal.returns-in_ok-put_board_refusal-in-Err-At-clause-shelf
returns-in_ok-put_board_refusal-in-Err-At-clause-shelf g c =
    shelf_of_board c.board_named.result (request_of c.args.named).files c.board_named.ensures.once c.board_named.ensures.keeps c.board_named.ensures.later (search rules)

pub returns-in-Err-Read-clause-shelf : goal.returns-in-Err-Read-clause-shelf
returns-in-Err-Read-clause-shelf g c =
    shelf_of_board c.board_named.result (request_of c.args.named).files c.board_named.ensures.once c.board_named.ensures.keeps c.board_named.ensures.later (search rules)

pub returns-in-Err-Memory-clause-shelf : goal.returns-in-Err-Memory-clause-shelf
returns-in-Err-Memory-clause-shelf g c =
    shelf_of_board c.board_named.result (request_of c.args.named).files c.board_named.ensures.once c.board_named.ensures.keeps c.board_named.ensures.later (search rules)
