use Rattle.drive_tool.proofs.CableLemmas.{plays_at_peer, keeps_peer, same_peer}
use Rattle.drive_tool.proofs.playing.play_on_cable.Goals as goal

pub play-requires : goal.play-requires
play-requires g c = record {
  prepared = c.requires.playable.prepared;
  chosen_below = rw c.deref.ensures.value c.requires.playable.below;
  whole_cable = c.requires.whole_cable;
  whole_lines = c.requires.whole;
}

pub returns-clause-played : goal.returns-clause-played
returns-clause-played g c =
    plays_at_peer g.P.Peer g.K.Sink c.args.ready.now c.args.cable.now c.play.new.cable c.args.lines.now c.play.new.out c.requires.whole_cable c.play.result
    (record { steps = _; now = _; machine = _; played = rw c.deref.ensures.value at c.play.ensures.played; kept = c.play.ensures.kept })

pub returns-clause-kept : goal.returns-clause-kept
returns-clause-kept g c =
    keeps_peer g.P.Peer g.K.Sink c.args.ready.now c.args.cable.now c.play.new.cable c.args.lines.now c.play.new.out c.requires.whole_cable c.play.result
    (record { steps = _; now = _; machine = _; played = rw c.deref.ensures.value at c.play.ensures.played; kept = c.play.ensures.kept })

pub returns-clause-same_peer : goal.returns-clause-same_peer
returns-clause-same_peer g c =
    same_peer g.P.Peer g.K.Sink c.args.ready.now c.args.cable.now c.play.new.cable c.args.lines.now c.play.new.out c.requires.whole_cable c.play.result
    (record { steps = _; now = _; machine = _; played = rw c.deref.ensures.value at c.play.ensures.played; kept = c.play.ensures.kept })
