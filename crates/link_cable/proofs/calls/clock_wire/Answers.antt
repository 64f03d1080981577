use Rattle.std.proofs.Common.{◌∙◌, ◌∷◌, [], ap, subst}
use Rattle.std.proofs.lemmas.Bool.{false≢true}
use Rattle.link_server.specs.Runs.{digit_of}
use Rattle.link_cable.specs.Wires.{told_sent, bytes_of_clock, HasBrokenAmong}
use Rattle.link_cable.proofs.WireLemmas.{clocked, good_waits, good_digit}
use Rattle.link_cable.proofs.CarryLemmas.{broken_after, one_exchanged, clock_over_failed}
use Rattle.link_cable.proofs.calls.clock_wire.Goals as goal

pub returns-in_err-answer-clause-clocked : goal.returns-in_err-answer-clause-clocked
returns-in_err-answer-clause-clocked g c = clock_over_failed _ _ _ _ c.args.tms c.args.tdi c.from_residual-in_err-answer.result c.from_residual-in_err-answer.ensures.0
    (subst (λ v. HasBrokenAmong g.W.Wire.carried c.args.wire.now v c.receive_one.new.wire) c.clock_bytes-bytes.ensures
    (broken_after g.W.Wire.carried g.met.W.Wire.none_carried g.met.W.Wire.both_carried _ _ _ _ [] c.in_ok-send_all.ensures.went c.in_err-answer.ensures.came))

pub returns-in_err-answer-clause-good : goal.returns-in_err-answer-clause-good
returns-in_err-answer-clause-good g c = λ good.
    let mid = c.in_ok-send_all.ensures.sent ∙ ap (told_sent (g.W.Wire.told c.args.wire.now)) c.clock_bytes-bytes.ensures in
    absurd (false≢true (c.in_err-answer.ensures.waits (good_waits _ _ _ _ c.args.tms c.args.tdi mid c.in_ok-send_all.ensures.steady good)))

pub returns-in-Some-clause-clocked : goal.returns-in-Some-clause-clocked
returns-in-Some-clause-clocked g c =
    let mid = c.in_ok-send_all.ensures.sent ∙ ap (told_sent (g.W.Wire.told c.args.wire.now)) c.clock_bytes-bytes.ensures in
    record {
      over = clocked _ _ _ c.args.tms c.args.tdi c.in-Some.bit c.in_ok-answer.answer (λ s e. g.met.W.Wire.some c.args.wire.now s c.requires e) mid c.in_ok-answer.ensures.given c.in-Some.ensures.some;
      went = one_exchanged g.W.Wire.carried g.met.W.Wire.none_carried g.met.W.Wire.both_carried c.args.wire.now c.send_all.new.wire c.receive_one.new.wire
          (bytes_of_clock c.args.tms c.args.tdi) c.clock_bytes-bytes.result c.in_ok-answer.answer (digit_of c.in-Some.bit) c.clock_bytes-bytes.ensures c.in-Some.ensures.some
          c.in_ok-send_all.ensures.went c.in_ok-answer.ensures.came;
    }

pub returns-in-None-clause-clocked : goal.returns-in-None-clause-clocked
returns-in-None-clause-clocked g c =
    subst (λ v. HasBrokenAmong g.W.Wire.carried c.args.wire.now v c.receive_one.new.wire) c.clock_bytes-bytes.ensures
    (broken_after g.W.Wire.carried g.met.W.Wire.none_carried g.met.W.Wire.both_carried _ _ _ _ (c.in_ok-answer.answer ∷ []) c.in_ok-send_all.ensures.went c.in_ok-answer.ensures.came)

pub returns-in-None-clause-good : goal.returns-in-None-clause-good
returns-in-None-clause-good g c = λ good.
    let mid = c.in_ok-send_all.ensures.sent ∙ ap (told_sent (g.W.Wire.told c.args.wire.now)) c.clock_bytes-bytes.ensures in
    absurd (good_digit _ _ _ _ c.args.tms c.args.tdi c.in_ok-answer.answer mid c.in_ok-answer.ensures.given c.in-None.ensures.none good)
