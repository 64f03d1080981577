use Rattle.std.proofs.Common.{◌<◌, length, get_or}
use Rattle.std.proofs.lemmas.List.{get_or_default}
use Rattle.std.proofs.lemmas.List.Edits.{map_over_more}
use Rattle.tap_states.specs.declared.Tap.TheVariants.{Reset}
use Rattle.tap_states.specs.Tap.{next_of}
use Rattle.wave_tool.proofs.possible.lead_on.Goals as goal

pub loop-state-preserved : goal.loop-state-preserved
loop-state-preserved c =
    let h = c.loop-state in
    let state = get_or h.states h.state-index Reset in
    let within : h.state-index < length h.states = rw h.auto.states c.loop-state-test.true in
    let same = get_or_default h.states h.state-index Reset state within in
    let more = map_over_more (λ s. next_of s c.args.tms) c.args.states.now h.states h.state-index state in
    record { so_far = rw c.next.ensures (more c.loop-state-test.true h.invariant.so_far same) }
