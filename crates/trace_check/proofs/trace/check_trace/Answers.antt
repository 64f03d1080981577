use Rattle.trace_check.proofs.ExactLemmas.{ok_exactly, places_apart}
use Rattle.trace_check.proofs.trace.check_trace.Goals as goal

pub check_devices-requires-clause-apart : goal.check_devices-requires-clause-apart
check_devices-requires-clause-apart g c = places_apart _ c.args.places.now c.requires.chain

pub returns-clause-exactly : goal.returns-clause-exactly
returns-clause-exactly g c = λ cs e.
    ok_exactly c.check_devices.result cs c.args.text.now _ c.check_devices.ensures.none_bad (λ n is. c.check_devices.ensures.ok n is cs e) c.check_devices.ensures.bad_line
    (λ i is. c.check_devices.ensures.differs i is cs e)
