use Rattle.std.proofs.Common.{◌≡◌, Some, Ok, Err, ap}
use Rattle.trace_check.proofs.trace.check_devices.Goals as goal

pub returns-in-Some-clause-bad_line : goal.returns-in-Some-clause-bad_line
returns-in-Some-clause-bad_line g c = λ n e.
    let same : c.in-Some.n ≡ n = cc in
    c.in-Some.ensures.some n (ap (λ n. Some n) same)

pub returns-in-Ok-clause-ok : goal.returns-in-Ok-clause-ok
returns-in-Ok-clause-ok g c = λ n e.
    let same : c.in-Ok.n ≡ n = cc in
    c.in-Ok.ensures.ok n (ap (λ n. Ok n) same)

pub returns-in-Err-clause-differs : goal.returns-in-Err-clause-differs
returns-in-Err-clause-differs g c = λ i e.
    let same : c.in-Err.i ≡ i = cc in
    c.in-Err.ensures.differs i (ap (λ i. Err i) same)
