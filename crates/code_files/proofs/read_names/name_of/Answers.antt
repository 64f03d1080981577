use Rattle.std.proofs.Common.{arith}
use Rattle.code_files.proofs.NameFields.{name_given, name_taken}
use Rattle.code_files.proofs.read_names.name_of.Goals as goal

pub returns-then-contains-clause-gives : goal.returns-then-contains-clause-gives
returns-then-contains-clause-gives c =
    rw c.wrong-then-contains.ensures (name_taken c.args.names.now.keys c.args.bytes.now c.in_ok-len.len c.in_ok-len.rest.now
    c.split_at.result.0.now c.in-Some.name c.in_ok-len.ensures.gives (omega (arith, c.if-rest-len.false)) c.split_at.ensures.front
    c.in-Some.ensures.name c.in-Some.ensures.some c.if-contains.ensures)

pub returns-else-contains-clause-gives : goal.returns-else-contains-clause-gives
returns-else-contains-clause-gives c =
    name_given c.args.names.now.keys c.args.bytes.now c.in_ok-len.len c.in_ok-len.rest.now c.split_at.result.0.now
    c.split_at.result.1.now c.in-Some.name c.in_ok-len.ensures.gives (omega (arith, c.if-rest-len.false)) c.split_at.ensures.front c.split_at.ensures.back
    c.in-Some.ensures.name c.in-Some.ensures.some c.if-contains.ensures
