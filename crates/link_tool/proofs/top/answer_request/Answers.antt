use Rattle.std.proofs.Common.{sym, ap, Err, refl, rules}
use Rattle.tool_frame.specs.declared.no_answer.NoAnswer.TheVariants.{Memory}
use Rattle.named_files.proofs.BoardLemmas.{fault_is}
use Rattle.named_files.specs.Named.{files_named}
use Rattle.named_files.proofs.ContentLemmas.{shelf_of_board, shelf_of_request}
use Rattle.link_tool.proofs.AnswerLemmas.{request_of_file, board_is_refused, no_board, no_board_memory}
use Rattle.link_tool.proofs.top.answer_request.Goals as goal

pub returns-in-Ok-clause-answers : goal.returns-in-Ok-clause-answers
returns-in-Ok-clause-answers g c =
    request_of_file _ _ g.S.Shelf c.args.shelf.now c.answer_file.new.shelf (g.K.Sink.written c.args.out.now) _ c.args.rack.now.items c.answer_file.new.rack.items (g.S.Shelf.told c.args.shelf.now) (files_named c.args.named)
    c.answer_file.result c.in-Ok.devices.items
    c.in-Ok.ensures.board (rw (c.deref.ensures.value, c.in-Ok.ensures.keeps) at c.answer_file.ensures.answers)

pub returns-in-Err-At-clause-answers : goal.returns-in-Err-At-clause-answers
returns-in-Err-At-clause-answers g c =
    board_is_refused _ _ g.S.Shelf c.args.shelf.now c.board_named.new.shelf (g.K.Sink.written c.args.out.now) c.args.rack.now.items (g.S.Shelf.told c.args.shelf.now) (files_named c.args.named) _ _
    (fault_is {told = g.S.Shelf.told c.args.shelf.now} {path = c.args.named.board.now} c.in-Err-At.line _ c.in-Err-At.reason _
    (sym c.in-Err-At.line-is) (sym c.in-Err-At.reason-is)
    (c.in-Err-At.ensures.fault c.in-Err-At.line c.in-Err-At.reason (ap Err c.in-Err-At.field-0-is)))

pub returns-in-Err-Read-clause-answers : goal.returns-in-Err-Read-clause-answers
returns-in-Err-Read-clause-answers g c =
    no_board _ _ g.S.Shelf c.args.shelf.now c.board_named.new.shelf (g.K.Sink.written c.args.out.now) c.args.rack.now.items (g.S.Shelf.told c.args.shelf.now)
    (files_named c.args.named) (c.in-Err-Read.ensures.read (ap Err c.in-Err-Read.field-0-is))

pub returns-in-Err-Memory-clause-answers : goal.returns-in-Err-Memory-clause-answers
returns-in-Err-Memory-clause-answers g c =
    no_board_memory _ _ g.S.Shelf c.args.shelf.now c.board_named.new.shelf (g.K.Sink.written c.args.out.now) c.args.rack.now.items (g.S.Shelf.told c.args.shelf.now) (files_named c.args.named) (Err Memory) refl

pub returns-in-Ok-clause-shelf : goal.returns-in-Ok-clause-shelf
returns-in-Ok-clause-shelf g c =
    shelf_of_request (files_named c.args.named) c.in-Ok.ensures.board c.in-Ok.ensures.once c.in-Ok.ensures.keeps c.in-Ok.ensures.later c.answer_file.ensures.shelf

pub returns-in-Err-At-clause-shelf : goal.returns-in-Err-At-clause-shelf
returns-in-Err-At-clause-shelf g c =
    shelf_of_board c.board_named.result (files_named c.args.named) c.board_named.ensures.once c.board_named.ensures.keeps c.board_named.ensures.later (search rules)

pub returns-in-Err-Read-clause-shelf : goal.returns-in-Err-Read-clause-shelf
returns-in-Err-Read-clause-shelf g c =
    shelf_of_board c.board_named.result (files_named c.args.named) c.board_named.ensures.once c.board_named.ensures.keeps c.board_named.ensures.later (search rules)

pub returns-in-Err-Memory-clause-shelf : goal.returns-in-Err-Memory-clause-shelf
returns-in-Err-Memory-clause-shelf g c =
    shelf_of_board c.board_named.result (files_named c.args.named) c.board_named.ensures.once c.board_named.ensures.keeps c.board_named.ensures.later (search rules)
