use Rattle.std.proofs.Common.{ap, Err}
use Rattle.board_text.specs.declared.reason.BoardReason.TheVariants as reasons
use Rattle.tool_io.proofs.PickLemmas.{picks_as}
use Rattle.tool_frame.proofs.AnswerLemmas.{on_ok}
use Rattle.named_files.proofs.BoardLemmas.{of_whole_file, reads_long, fault_is}
use Rattle.named_files.proofs.boards.board_named.Goals as goal

pub returns-in-Ok-clause-board : goal.returns-in-Ok-clause-board
returns-in-Ok-clause-board g c =
    on_ok c.board_of.result (λ devices. of_whole_file (g.S.Shelf.told c.args.shelf.now) c.args.path.now c.in-Ok.bytes.items c.in-Ok.ensures.whole)
    (rw c.deref.ensures.value at c.board_of.ensures.board)

pub returns-in-Ok-clause-fault : goal.returns-in-Ok-clause-fault
returns-in-Ok-clause-fault g c = λ line reason e.
    of_whole_file (g.S.Shelf.told c.args.shelf.now) c.args.path.now c.in-Ok.bytes.items c.in-Ok.ensures.whole
    (rw c.deref.ensures.value at c.board_of.ensures.fault line reason e)

pub returns-in-Err-TooLong-clause-fault : goal.returns-in-Err-TooLong-clause-fault
returns-in-Err-TooLong-clause-fault g c = λ line reason e.
    fault_is {told = g.S.Shelf.told c.args.shelf.now} 0 line reasons.TooLong reason (cc) (cc)
    (reads_long (g.S.Shelf.told c.args.shelf.now) c.args.path.now (c.in-Err-TooLong.ensures.long (ap Err c.in-Err-TooLong.field-0-is)))

pub returns-in-Ok-clause-once : goal.returns-in-Ok-clause-once
returns-in-Ok-clause-once g c = picks_as _ _ c.board_of.result c.in-Ok.ensures.once
