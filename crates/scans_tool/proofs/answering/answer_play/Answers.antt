use Rattle.std.proofs.Common.{sym, ap, Err, rules, refl}
use Rattle.tool_frame.proofs.AnswerLemmas.{says_within, says_failed, said_text, said_front}
use Rattle.named_files.proofs.BoardLemmas.{fault_is}
use Rattle.play_words.specs.Words.{play_files}
use Rattle.play_tool.proofs.RequestLemmas.{of_any_files, of_board, of_both, shelf_of_board, shelf_of_play}
use Rattle.play_words.specs.declared.status.Status.TheVariants.{BoardRefused}
use Rattle.scans_tool.specs.Answers.{board_refused}
use Rattle.scans_tool.proofs.AnswerLemmas.{held_in_request}
use Rattle.scans_tool.proofs.answering.answer_play.Goals as goal

pub returns-in-Ok-clause-says : goal.returns-in-Ok-clause-says
returns-in-Ok-clause-says g c =
    let board = rw c.as_str.ensures at c.in-Ok.ensures.board in
    of_both (g.S.Shelf.told c.args.shelf.now) c.args.play.now board.held board.read
    (rw (c.as_str-in-Ok.ensures, c.deref.ensures.value, c.in-Ok.ensures.keeps) at c.answer_file.ensures.says)
    (λ source says. says_within _ _ _ _ _ c.answer_file.result (held_in_request c.args.play.now.request c.in-Ok.devices.items _ board.holds) (λ same. same) says)

pub returns-in_err-put_board_refusal-in-Err-At-clause-says : goal.returns-in_err-put_board_refusal-in-Err-At-clause-says
returns-in_err-put_board_refusal-in-Err-At-clause-says g c =
    let reads = fault_is c.in-Err-At.line _ c.in-Err-At.reason _ (sym c.in-Err-At.line-is) (sym c.in-Err-At.reason-is)
    (rw c.as_str.ensures at c.in-Err-At.ensures.fault c.in-Err-At.line c.in-Err-At.reason (ap Err c.in-Err-At.field-0-is)) in
    of_board (g.S.Shelf.told c.args.shelf.now) c.args.play.now reads.held reads.read (λ source.
    says_failed _ _ _ _ _ c.from_residual.result c.from_residual.ensures.1
    (said_front _ (BoardRefused _ _) (board_refused _ _ reads.holds) c.in_err-put_board_refusal-in-Err-At.ensures))

pub returns-in_ok-put_board_refusal-in-Err-At-clause-says : goal.returns-in_ok-put_board_refusal-in-Err-At-clause-says
returns-in_ok-put_board_refusal-in-Err-At-clause-says g c =
    let reads = fault_is c.in-Err-At.line _ c.in-Err-At.reason _ (sym c.in-Err-At.line-is) (sym c.in-Err-At.reason-is)
    (rw c.as_str.ensures at c.in-Err-At.ensures.fault c.in-Err-At.line c.in-Err-At.reason (ap Err c.in-Err-At.field-0-is)) in
    of_board (g.S.Shelf.told c.args.shelf.now) c.args.play.now reads.held reads.read (λ source.
    said_text _ (board_refused _ _ reads.holds) c.in_ok-put_board_refusal-in-Err-At.ensures)

pub returns-in-Err-Read-clause-says : goal.returns-in-Err-Read-clause-says
returns-in-Err-Read-clause-says g c = of_any_files (g.S.Shelf.told c.args.shelf.now) (play_files c.args.play.now) (λ contents. (refl, refl))

pub returns-in-Err-Memory-clause-says : goal.returns-in-Err-Memory-clause-says
returns-in-Err-Memory-clause-says g c = of_any_files (g.S.Shelf.told c.args.shelf.now) (play_files c.args.play.now) (λ contents. (refl, refl))

pub returns-in-Ok-clause-shelf : goal.returns-in-Ok-clause-shelf
returns-in-Ok-clause-shelf g c =
    shelf_of_play c.args.play.now c.as_str.ensures c.as_str-in-Ok.ensures c.in-Ok.ensures.board c.in-Ok.ensures.once c.in-Ok.ensures.keeps c.in-Ok.ensures.later c.answer_file.ensures.shelf

pub returns-in_err-put_board_refusal-in-Err-At-clause-shelf : goal.returns-in_err-put_board_refusal-in-Err-At-clause-shelf
returns-in_err-put_board_refusal-in-Err-At-clause-shelf g c =
    shelf_of_board c.board_named.result c.args.play.now c.as_str.ensures c.board_named.ensures.once c.board_named.ensures.keeps c.board_named.ensures.later (search rules)

pub returns-in_ok-put_board_refusal-in-Err-At-clause-shelf : goal.returns-in_ok-put_board_refusal-in-Err-At-clause-shelf
returns-in_ok-put_board_refusal-in-Err-At-clause-shelf g c =
    shelf_of_board c.board_named.result c.args.play.now c.as_str.ensures c.board_named.ensures.once c.board_named.ensures.keeps c.board_named.ensures.later (search rules)

pub returns-in-Err-Read-clause-shelf : goal.returns-in-Err-Read-clause-shelf
returns-in-Err-Read-clause-shelf g c =
    shelf_of_board c.board_named.result c.args.play.now c.as_str.ensures c.board_named.ensures.once c.board_named.ensures.keeps c.board_named.ensures.later (search rules)

pub returns-in-Err-Memory-clause-shelf : goal.returns-in-Err-Memory-clause-shelf
returns-in-Err-Memory-clause-shelf g c =
    shelf_of_board c.board_named.result c.args.play.now c.as_str.ensures c.board_named.ensures.once c.board_named.ensures.keeps c.board_named.ensures.later (search rules)
