use Rattle.std.proofs.Common.{[]}
use Rattle.std.specs.Prelude.{vec_capacity}
use Rattle.stapl_code.specs.Machine.{lands}
use Rattle.stapl_code.specs.Rooms.{count_after}
use Rattle.stapl_code.specs.Safe.{entries_of}
use Rattle.std.proofs.Common.{arith, length, ◌≤◌}
use Rattle.stapl_instructions.proofs.OperandLemmas.{made_within, more_within}
use Rattle.stapl_instructions.proofs.control.advance.Goals as goal

pub lead-requires-clause-rests : goal.lead-requires-clause-rests
lead-requires-clause-rests c = (c.in-Ok.ensures.acts []).1

pub lead-requires-clause-room : goal.lead-requires-clause-room
lead-requires-clause-room c =
    let code = c.args.code.now in let i = c.args.instr.now in let here = c.args.here in let old = c.args.work.now in let mid = c.act.new.work in
    let n = count_after i (length old.operands.items) in
    let few : n ≤ vec_capacity mid.operands = omega (arith, c.requires.few, c.act.ensures.kept.1.0) in
    more_within n (vec_capacity mid.operands) c.in-Ok.made mid few
    (made_within code here i (lands (entries_of code.procedures) here i) [] old mid c.in-Ok.made (c.in-Ok.ensures.acts []).0)

pub returns-in-Ok-clause-clean : goal.returns-in-Ok-clause-clean
returns-in-Ok-clause-clean c =
    let code = c.args.code.now in let i = c.args.instr.now in let here = c.args.here in let old = c.args.work.now in let mid = c.act.new.work in
    let n = count_after i (length old.operands.items) in
    c.lead.ensures.clean n (made_within code here i (lands (entries_of code.procedures) here i) [] old mid c.in-Ok.made (c.in-Ok.ensures.acts []).0)
