use Rattle.std.proofs.Common.{ap}
use Rattle.scan_paths.specs.Cables.{clocks_in, whole_if}
use Rattle.code_plays.proofs.PlayLemmas.{zero_never, are_left, left_as}
use Rattle.code_plays.proofs.playing.play_over_chain.Goals as goal

pub play_over_cable-requires-clause-cable : goal.play_over_cable-requires-clause-cable
play_over_cable-requires-clause-cable g c = record { told = c.requires.fitted.cards; whole_cable = ap whole_if c.requires.fitted.chain; sure = zero_never _ }

pub returns-clause-plays : goal.returns-clause-plays
returns-clause-plays g c =
    let clocked = c.play_over_cable.ensures.clocked in
    left_as _ _ _ _ _ c.play_over_cable.result (λ e. are_left _ _ _ _
    (clocks_in clocked.signals) c.args.task.now.devices.now _ c.requires.fitted.cards clocked.made.1 e)
    c.play_over_cable.ensures.plays
