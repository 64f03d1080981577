use Rattle.std.proofs.Common.{sym, ap, Err, rules}
use Rattle.tool_frame.proofs.AnswerLemmas.{on_ok}
use Rattle.named_files.proofs.BoardLemmas.{fault_is}
use Rattle.play_words.specs.Words.{play_files}
use Rattle.play_tool.proofs.RequestLemmas.{of_any_files, of_board, of_both, shelf_of_board, shelf_of_play}
use Rattle.drive_tool.specs.declared.refusals.Refusal.TheVariants.{Board}
use Rattle.drive_tool.specs.Plans.{board_refused}
use Rattle.drive_tool.proofs.PlanLemmas.{refused_as, in_request}
use Rattle.drive_tool.proofs.preparing.prepare_play.Goals as goal

pub returns-in-Ok-clause-plan : goal.returns-in-Ok-clause-plan
returns-in-Ok-clause-plan g c =
    let board = rw c.as_str.ensures at c.in-Ok.ensures.board in
    of_both (g.S.Shelf.told c.args.shelf.now) c.args.play.now board.held board.read
    (rw (c.as_str-in-Ok.ensures, c.deref.ensures.value, c.in-Ok.ensures.keeps) at c.prepare_file.ensures.plan)
    (λ source plan. on_ok c.prepare_file.result (λ step p. in_request c.args.play.now.request _ c.in-Ok.devices.items board.holds step p) plan)

pub returns-in-Ok-clause-shelf : goal.returns-in-Ok-clause-shelf
returns-in-Ok-clause-shelf g c =
    shelf_of_play c.args.play.now c.as_str.ensures c.as_str-in-Ok.ensures c.in-Ok.ensures.board c.in-Ok.ensures.once c.in-Ok.ensures.keeps c.in-Ok.ensures.later c.prepare_file.ensures.shelf

pub returns-in-Err-At-clause-plan : goal.returns-in-Err-At-clause-plan
returns-in-Err-At-clause-plan g c =
    let reads = fault_is c.in-Err-At.line _ c.in-Err-At.reason _ (sym c.in-Err-At.line-is) (sym c.in-Err-At.reason-is)
    (rw c.as_str.ensures at c.in-Err-At.ensures.fault c.in-Err-At.line c.in-Err-At.reason (ap Err c.in-Err-At.field-0-is)) in
    of_board (g.S.Shelf.told c.args.shelf.now) c.args.play.now reads.held reads.read (λ source. refused_as (Board _ _) (board_refused _ _ reads.holds))

pub returns-in-Err-Read-clause-plan : goal.returns-in-Err-Read-clause-plan
returns-in-Err-Read-clause-plan g c = of_any_files (g.S.Shelf.told c.args.shelf.now) (play_files c.args.play.now) (λ contents. tt)

pub returns-in-Err-At-clause-shelf : goal.returns-in-Err-At-clause-shelf
returns-in-Err-At-clause-shelf g c =
    shelf_of_board c.board_named.result c.args.play.now c.as_str.ensures c.board_named.ensures.once c.board_named.ensures.keeps c.board_named.ensures.later (search rules)

pub returns-in-Err-Read-clause-shelf : goal.returns-in-Err-Read-clause-shelf
returns-in-Err-Read-clause-shelf g c =
    shelf_of_board c.board_named.result c.args.play.now c.as_str.ensures c.board_named.ensures.once c.board_named.ensures.keeps c.board_named.ensures.later (search rules)

pub returns-in-Err-Memory-clause-shelf : goal.returns-in-Err-Memory-clause-shelf
returns-in-Err-Memory-clause-shelf g c =
    shelf_of_board c.board_named.result c.args.play.now c.as_str.ensures c.board_named.ensures.once c.board_named.ensures.keeps c.board_named.ensures.later (search rules)

pub returns-in-Err-Memory-clause-plan : goal.returns-in-Err-Memory-clause-plan
returns-in-Err-Memory-clause-plan g c = of_any_files (g.S.Shelf.told c.args.shelf.now) (play_files c.args.play.now) (λ contents. tt)
