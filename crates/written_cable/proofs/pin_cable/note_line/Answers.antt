use Rattle.std.proofs.Common.{◌≡◌, ◌-◌, ◌++◌, length, take, drop, sym, ap, ◌∙◌, arith}
use Rattle.written_cable.proofs.PaperLemmas.{paper_still, paper_failed}
use Rattle.written_cable.proofs.BlockLemmas.{lines_fit, digits_fit, lines_full, digits_full}
use Rattle.written_cable.proofs.pin_cable.note_line.Goals as goal

pub returns-then-line-room-clause-put : goal.returns-then-line-room-clause-put
returns-then-line-room-clause-put g c =
    rw (lines_fit c.args.digits.now c.args.line.now (omega arith)) (paper_still g.O.Paper c.args.out.now c.requires.whole)

pub returns-then-line-room-clause-digits : goal.returns-then-line-room-clause-digits
returns-then-line-room-clause-digits g c = c.append.ensures ∙ sym (digits_fit c.args.digits.now c.args.line.now (omega arith))

pub returns-in_err-put_pins-clause-put : goal.returns-in_err-put_pins-clause-put
returns-in_err-put_pins-clause-put g c =
    let a = c.args in
    let room = c.room-room.result in
    let put : c.bytes.result.now ≡ a.digits.now ++ take room a.line.now = c.bytes.ensures ∙ c.append-2.ensures in
    paper_failed g.O.Paper c.from_residual.result c.from_residual.ensures.0
    (rw (lines_full a.digits.now a.line.now room (omega arith) (omega arith) (omega arith), sym put) c.in_err-put_pins.ensures)

pub returns-clause-put : goal.returns-clause-put
returns-clause-put g c =
    let a = c.args in
    let room = c.room-room.result in
    let put : c.bytes.result.now ≡ a.digits.now ++ take room a.line.now = c.bytes.ensures ∙ c.append-2.ensures in
    rw (lines_full a.digits.now a.line.now room (omega arith) (omega arith) (omega arith), sym put) c.in_ok-put_pins.ensures

pub returns-clause-digits : goal.returns-clause-digits
returns-clause-digits g c =
    let a = c.args in
    let room = c.room-room.result in
    c.append-3.ensures ∙ ap (λ z. z ++ take (length a.line.now - room) (drop room a.line.now)) c.clear.ensures
    ∙ sym (digits_full a.digits.now a.line.now room (omega arith) (omega arith) (omega arith))
