use Rattle.std.proofs.Common.{arith}
use Rattle.written_cable.proofs.BlockLemmas.{noted_lines, noted_digits}
use Rattle.written_cable.proofs.pin_cable.note_block.Goals as goal

pub returns-clause-put : goal.returns-clause-put
returns-clause-put g c =
    let a = c.args in
    rw (noted_lines a.n a.tms a.tdi a.tdo c.pin_digits.new.out a.digits.now (omega arith) c.pin_digits.ensures.first)
    c.note_line.ensures.put

pub returns-clause-digits : goal.returns-clause-digits
returns-clause-digits g c =
    let a = c.args in
    rw (noted_digits a.n a.tms a.tdi a.tdo c.pin_digits.new.out a.digits.now (omega arith) c.pin_digits.ensures.first)
    c.note_line.ensures.digits
