use Rattle.std.specs.Prelude.{false}
use Rattle.scan_paths.specs.Scans.{lengths_of}
use Rattle.written_cable.specs.Papers.{shown_of}
use Rattle.stapl_player.specs.Plays.{whole_play, whole_ticks}
use Rattle.quiet_runs.proofs.Judges.{watched_play}
use Rattle.quiet_runs.proofs.watching.play_to.Goals as goal

pub play-requires : goal.play-requires
play-requires g c = record {
  prepared = c.requires.ready.prepared;
  chosen_below = c.requires.ready.below;
  whole_cable = c.requires.ready.whole;
  whole_lines = c.new-lines.ensures.whole;
}

pub returns-in-Ok-clause-played : goal.returns-in-Ok-clause-played
returns-in-Ok-clause-played g c =
    let d = g.D.Device in let code = c.args.code.now in let chosen = c.args.chosen.now in let n = c.args.turns in let base = lengths_of c.args.base.now in
    watched_play d.fitted d.kind_of (shown_of g.K.Sink.written) false (whole_play code chosen n base) (whole_ticks code chosen n base)
    c.args.watch.now c.new-lines.result c.none-steps.result c.in-Ok.ending c.play.new.cable c.play.new.out c.play.new.steps c.play.new.machine
    c.in-Ok.ensures.played
