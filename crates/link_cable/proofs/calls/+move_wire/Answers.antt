use Rattle.std.proofs.Common.{◌≡◌, ◌-◌, suc, false, arith}
use Rattle.base.specs.Bits.{low_bits}
use Rattle.dev_card.specs.Clocks.{with_zero}
use Rattle.link_cable.proofs.WireLemmas.{none_shifted, move_and_rest, first_move_failed, rest_move_failed}
use Rattle.link_cable.proofs.CarryLemmas.{shift_over_failed}
use Rattle.link_cable.proofs.calls.+move_wire.Goals as goal

pub returns-then-n-eq0-clause-moved : goal.returns-then-n-eq0-clause-moved
returns-then-n-eq0-clause-moved g t c =
    rw c.if-n-eq0.true (none_shifted g.W.Wire.told g.W.Wire.carried g.met.W.Wire.none_carried c.args.wire.now c.args.tms false)

pub returns-in_err-bit-clause-moved : goal.returns-in_err-bit-clause-moved
returns-in_err-bit-clause-moved g t c =
    let n : c.args.n ≡ suc (c.args.n - 1) = omega (arith, c.if-n-eq0.false) in
    shift_over_failed _ _ _ _ (with_zero (low_bits c.args.n c.args.tms)) c.from_residual.result c.from_residual.ensures.0
    (first_move_failed g.W.Wire.told g.W.Wire.carried g.met.W.Wire.both_carried c.args.wire.now c.clock_wire.new.wire c.args.wire.now c.args.tms c.args.n (c.args.n - 1) n
    c.in_err-bit.ensures.clocked)

pub returns-in_err-rest-clause-moved : goal.returns-in_err-rest-clause-moved
returns-in_err-rest-clause-moved g t c =
    let n : c.args.n ≡ suc (c.args.n - 1) = omega (arith, c.if-n-eq0.false) in
    shift_over_failed _ _ _ _ (with_zero (low_bits c.args.n c.args.tms)) c.from_residual-in_err-rest.result c.from_residual-in_err-rest.ensures.0
    (rest_move_failed g.W.Wire.told g.W.Wire.carried g.met.W.Wire.both_carried c.args.wire.now c.clock_wire.new.wire c.move_wire.new.wire c.args.tms c.args.n (c.args.n - 1) c.in_ok-bit.bit n
    c.in_ok-bit.ensures.clocked c.in_err-rest.ensures.moved)

pub returns-clause-moved : goal.returns-clause-moved
returns-clause-moved g t c =
    let n : c.args.n ≡ suc (c.args.n - 1) = omega (arith, c.if-n-eq0.false) in
    move_and_rest g.W.Wire.told g.W.Wire.carried g.met.W.Wire.both_carried c.args.wire.now c.clock_wire.new.wire c.move_wire.new.wire c.args.tms c.args.n (c.args.n - 1) c.in_ok-rest.rest c.in_ok-bit.bit c.with_bit.result n
    c.in_ok-bit.ensures.clocked c.in_ok-rest.ensures.moved c.with_bit.ensures.value
