use Rattle.std.proofs.Common.{◌≡◌, ◌-◌, suc, arith}
use Rattle.dev_card.specs.Blocks.{block_inputs}
use Rattle.link_cable.proofs.WireLemmas.{none_shifted, clock_and_rest, first_failed, rest_failed}
use Rattle.link_cable.proofs.CarryLemmas.{shift_over_failed}
use Rattle.link_cable.proofs.calls.+shift_wire.Goals as goal

pub returns-then-n-eq0-clause-shifted : goal.returns-then-n-eq0-clause-shifted
returns-then-n-eq0-clause-shifted g t c =
    rw c.if-n-eq0.true (none_shifted g.W.Wire.told g.W.Wire.carried g.met.W.Wire.none_carried c.args.wire.now c.args.tdi c.args.last)

pub returns-in_err-bit-clause-shifted : goal.returns-in_err-bit-clause-shifted
returns-in_err-bit-clause-shifted g t c =
    let n : c.args.n ≡ suc (c.args.n - 1) = omega (arith, c.if-n-eq0.false) in
    shift_over_failed _ _ _ _ (block_inputs c.args.tdi c.args.n c.args.last) c.from_residual.result c.from_residual.ensures.0
    (first_failed g.W.Wire.told g.W.Wire.carried g.met.W.Wire.both_carried c.args.wire.now c.clock_wire.new.wire c.args.wire.now c.args.tdi c.args.n (c.args.n - 1) c.args.last c.is_last.result n c.is_last.ensures
    c.in_err-bit.ensures.clocked)

pub returns-in_err-rest-clause-shifted : goal.returns-in_err-rest-clause-shifted
returns-in_err-rest-clause-shifted g t c =
    let n : c.args.n ≡ suc (c.args.n - 1) = omega (arith, c.if-n-eq0.false) in
    shift_over_failed _ _ _ _ (block_inputs c.args.tdi c.args.n c.args.last) c.from_residual-in_err-rest.result c.from_residual-in_err-rest.ensures.0
    (rest_failed g.W.Wire.told g.W.Wire.carried g.met.W.Wire.both_carried c.args.wire.now c.clock_wire.new.wire c.shift_wire.new.wire c.args.tdi c.args.n (c.args.n - 1) c.args.last c.is_last.result c.in_ok-bit.bit n c.is_last.ensures
    c.in_ok-bit.ensures.clocked c.in_err-rest.ensures.shifted)

pub returns-clause-shifted : goal.returns-clause-shifted
returns-clause-shifted g t c =
    let n : c.args.n ≡ suc (c.args.n - 1) = omega (arith, c.if-n-eq0.false) in
    clock_and_rest g.W.Wire.told g.W.Wire.carried g.met.W.Wire.both_carried c.args.wire.now c.clock_wire.new.wire c.shift_wire.new.wire c.args.tdi c.args.n (c.args.n - 1) c.in_ok-rest.rest c.args.last c.is_last.result c.in_ok-bit.bit c.with_bit.result n c.is_last.ensures
    c.in_ok-bit.ensures.clocked c.in_ok-rest.ensures.shifted c.with_bit.ensures.value
