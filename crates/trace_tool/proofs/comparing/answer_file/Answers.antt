use Rattle.std.proofs.Common.{ap, Err, rules}
use Rattle.trace_tool.proofs.RequestLemmas.{whole_file, long_refused, long_failed, not_read, no_room}
use Rattle.tool_frame.proofs.FileLemmas.{shelf_of_read}
use Rattle.trace_tool.proofs.comparing.answer_file.Goals as goal

pub returns-in-Ok-clause-answers : goal.returns-in-Ok-clause-answers
returns-in-Ok-clause-answers g c =
    whole_file g.K.Sink _ _ _ _ _ _ (g.S.Shelf.told c.args.shelf.now) c.args.path.now c.args.devices.now c.in-Ok.bytes.items c.compare.result
    c.in-Ok.ensures.whole (rw c.deref.ensures.value at c.compare.ensures.says) (rw c.deref.ensures.value at c.compare.ensures.rack)

pub returns-in_err-put_too_long-in-Err-TooLong-clause-answers : goal.returns-in_err-put_too_long-in-Err-TooLong-clause-answers
returns-in_err-put_too_long-in-Err-TooLong-clause-answers g c =
    long_failed g.K.Sink _ _ _ _ _ (g.S.Shelf.told c.args.shelf.now) c.args.path.now c.args.devices.now c.from_residual.result
    (c.in-Err-TooLong.ensures.long (ap Err c.in-Err-TooLong.field-0-is)) c.from_residual.ensures.1 c.in_err-put_too_long-in-Err-TooLong.ensures

pub returns-in_ok-put_too_long-in-Err-TooLong-clause-answers : goal.returns-in_ok-put_too_long-in-Err-TooLong-clause-answers
returns-in_ok-put_too_long-in-Err-TooLong-clause-answers g c =
    long_refused g.K.Sink _ _ _ _ _ (g.S.Shelf.told c.args.shelf.now) c.args.path.now c.args.devices.now
    (c.in-Err-TooLong.ensures.long (ap Err c.in-Err-TooLong.field-0-is)) c.in_ok-put_too_long-in-Err-TooLong.ensures

pub returns-in-Err-ReadFault-clause-answers : goal.returns-in-Err-ReadFault-clause-answers
returns-in-Err-ReadFault-clause-answers g c = not_read (g.S.Shelf.told c.args.shelf.now) c.args.path.now c.args.devices.now

pub returns-in-Err-Memory-clause-answers : goal.returns-in-Err-Memory-clause-answers
returns-in-Err-Memory-clause-answers g c = no_room (g.S.Shelf.told c.args.shelf.now) c.args.path.now c.args.devices.now

pub returns-in-Ok-clause-shelf : goal.returns-in-Ok-clause-shelf
returns-in-Ok-clause-shelf g c =
    shelf_of_read c.read_whole.result c.read_whole.ensures.once c.read_whole.ensures.keeps c.read_whole.ensures.later (search rules)

pub returns-in_err-put_too_long-in-Err-TooLong-clause-shelf : goal.returns-in_err-put_too_long-in-Err-TooLong-clause-shelf
returns-in_err-put_too_long-in-Err-TooLong-clause-shelf g c =
    shelf_of_read c.read_whole.result c.read_whole.ensures.once c.read_whole.ensures.keeps c.read_whole.ensures.later (search rules)

pub returns-in_ok-put_too_long-in-Err-TooLong-clause-shelf : goal.returns-in_ok-put_too_long-in-Err-TooLong-clause-shelf
returns-in_ok-put_too_long-in-Err-TooLong-clause-shelf g c =
    shelf_of_read c.read_whole.result c.read_whole.ensures.once c.read_whole.ensures.keeps c.read_whole.ensures.later (search rules)

pub returns-in-Err-ReadFault-clause-shelf : goal.returns-in-Err-ReadFault-clause-shelf
returns-in-Err-ReadFault-clause-shelf g c =
    shelf_of_read c.read_whole.result c.read_whole.ensures.once c.read_whole.ensures.keeps c.read_whole.ensures.later (search rules)

pub returns-in-Err-Memory-clause-shelf : goal.returns-in-Err-Memory-clause-shelf
returns-in-Err-Memory-clause-shelf g c =
    shelf_of_read c.read_whole.result c.read_whole.ensures.once c.read_whole.ensures.keeps c.read_whole.ensures.later (search rules)
