use Rattle.std.proofs.Common.{get_or}
use Rattle.std.proofs.lemmas.Option.{slice_get-get_or}
use Rattle.trace_check.proofs.ClockLemmas.{as_far, it_differs, one_more_clock}
use Rattle.trace_check.proofs.clocks.clock_digits.Goals as goal

pub returns-then-not-clock_digit-clause-clocked : goal.returns-then-not-clock_digit-clause-clocked
returns-then-not-clock_digit-clause-clocked g c =
    as_far g.D.Device.fitted g.D.Device.kind_of c.args.rack.now.items c.clocks.rack.items c.clock_digit.new.rack.items c.args.places.now c.args.digits.now c.clocks.n
    (get_or c.args.digits.now c.clocks.n 0) c.clock_digit.result c.if-not-clock_digit.true c.clocks.invariant c.clock_digit.ensures.clocked

pub returns-then-not-clock_digit-clause-differs : goal.returns-then-not-clock_digit-clause-differs
returns-then-not-clock_digit-clause-differs g c = λ lt.
    it_differs g.D.Device.fitted g.D.Device.kind_of c.args.rack.now.items c.clocks.rack.items c.clock_digit.new.rack.items c.args.places.now c.args.digits.now c.clocks.n
    (get_or c.args.digits.now c.clocks.n 0) c.clock_digit.result c.if-not-clock_digit.true (slice_get-get_or c.args.digits.now c.clocks.n 0 c.clocks-test.true) c.clocks.invariant
    c.clock_digit.ensures.clocked

pub clocks-preserved : goal.clocks-preserved
clocks-preserved g c =
    one_more_clock g.D.Device.fitted g.D.Device.kind_of c.args.rack.now.items c.clocks.rack.items c.clock_digit.new.rack.items c.args.places.now c.args.digits.now c.clocks.n
    (get_or c.args.digits.now c.clocks.n 0) c.clock_digit.result c.if-not-clock_digit.false (slice_get-get_or c.args.digits.now c.clocks.n 0 c.clocks-test.true) c.clocks-test.true c.clocks.invariant
    c.clock_digit.ensures.kinds c.clock_digit.ensures.others c.clock_digit.ensures.clocked
