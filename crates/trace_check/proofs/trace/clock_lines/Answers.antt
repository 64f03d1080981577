use Rattle.std.proofs.Common.{◌≡◌, ◌+◌, length, arith}
use Rattle.std.proofs.lemmas.List.{take_rest}
use Rattle.trace_check.proofs.TraceLemmas.{differs_so, one_more_line, all_traced}
use Rattle.trace_check.proofs.trace.clock_lines.Goals as goal

pub returns-then-n-digits-clause-differs : goal.returns-then-n-digits-clause-differs
returns-then-n-digits-clause-differs g c = λ i e.
    let same : c.lines.total + c.clock_digits-n.result + 1 ≡ i = cc in
    differs_so g.D.Device.fitted g.D.Device.kind_of c.args.rack.now.items c.lines.rack.items c.clock_digits-n.new.rack.items c.args.places.now c.args.text.now _ c.first_line-len.result.0.now
    c.digits_of-digits.result.now c.lines.at c.lines.total c.first_line-len.result.1 c.clock_digits-n.result (take_rest c.args.text.now c.lines.at) c.lines.invariant
    c.first_line-len.ensures.within c.first_line-len.ensures.short c.first_line-len.ensures.line c.digits_of-digits.ensures c.clock_digits-n.ensures.within c.clock_digits-n.ensures.clocked
    (c.clock_digits-n.ensures.differs c.if-n-digits.true) i same

pub lines-preserved : goal.lines-preserved
lines-preserved g c =
    let whole : c.clock_digits-n.result ≡ length c.digits_of-digits.result.now = omega (arith, c.clock_digits-n.ensures.within, c.if-n-digits.false) in
    one_more_line g.D.Device.fitted g.D.Device.kind_of c.args.rack.now.items c.lines.rack.items c.clock_digits-n.new.rack.items c.args.places.now c.args.text.now _ c.first_line-len.result.0.now
    c.digits_of-digits.result.now c.lines.at c.lines.total c.first_line-len.result.1 c.clock_digits-n.result (take_rest c.args.text.now c.lines.at) c.lines.invariant
    c.first_line-len.ensures.within c.first_line-len.ensures.short c.first_line-len.ensures.line c.digits_of-digits.ensures c.clock_digits-n.ensures.within c.clock_digits-n.ensures.clocked
    whole c.clock_digits-n.ensures.kinds c.clock_digits-n.ensures.others

pub returns-clause-ok : goal.returns-clause-ok
returns-clause-ok g c = λ n e.
    let same : c.lines.total ≡ n = cc in
    all_traced g.D.Device.fitted g.D.Device.kind_of c.args.rack.now.items c.lines.rack.items c.args.places.now c.args.text.now c.lines.at c.lines.total n c.lines.invariant c.lines-test.false same
