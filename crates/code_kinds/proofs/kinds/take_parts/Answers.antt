use Rattle.std.proofs.Common.{◌+◌, ◌-◌, Some, None, length, drop}
use Rattle.code_kinds.proofs.PartsTaken.{none_before, kinds_before}
use Rattle.code_kinds.proofs.kinds.take_parts.Goals as goal

pub returns-then-not-take_part : goal.returns-then-not-take_part
returns-then-not-take_part c = λ variables.
    let list = c.args.parts.now in
    let rest = drop (length list - c.loop-done.done) list in
    let taken = c.if-not-take_part.ensures variables rest c.args.kinds.now (c.loop-done.invariant variables) in
    none_before variables (length list - (c.loop-done.done + 1)) list c.args.kinds.now
    (kinds_before variables list c.loop-done.done _ c.args.kinds.now None c.loop-done-test.true taken)

pub loop-done-preserved : goal.loop-done-preserved
loop-done-preserved c = λ variables.
    let list = c.args.parts.now in
    let rest = drop (length list - c.loop-done.done) list in
    let taken = c.if-not-take_part.ensures variables rest c.args.kinds.now (c.loop-done.invariant variables) in
    kinds_before variables list c.loop-done.done _ c.args.kinds.now (Some c.take_part.new.kinds) c.loop-done-test.true taken
