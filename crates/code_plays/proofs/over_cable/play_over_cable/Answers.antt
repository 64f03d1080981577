use Rattle.std.proofs.Common.{[], ◌++◌, sym, ap, subst, ◌∙◌}
use Rattle.dev_card.specs.Board.{tdos}
use Rattle.stapl_meaning.specs.Plays.{ending_of}
use Rattle.stapl_meaning.specs.Texts.{events_text}
use Rattle.written_cable.specs.Papers.{Puts, PutsFront, shown_of}
use Rattle.written_cable.specs.PaperLaws.{puts_back, front_back}
use Rattle.written_cable.specs.Signals.{signals_of}
use Rattle.code_plays.specs.CodePlays.{far_play, task_play}
use Rattle.code_plays.proofs.PlayLemmas.{on_board, no_cable_fault, write_cause}
use Rattle.code_plays.proofs.over_cable.play_over_cable.Goals as goal

pub play-requires : goal.play-requires
play-requires g c = record {
  prepared = c.requires.prepared;
  chosen_below = c.requires.playable.below;
  whole_cable = c.requires.cable.whole_cable;
  whole_lines = c.requires.whole;
}

pub failed-requires : goal.failed-requires
failed-requires g c = no_cable_fault _ _ c.in-Err.trouble (c.requires.cable.sure c.args.cable.now c.play.new.cable) c.in-Err.ensures.kept.fault

pub returns-in-Ok-clause-plays : goal.returns-in-Ok-clause-plays
returns-in-Ok-clause-plays g c =
    let p = rw c.base_of-base.ensures at c.in-Ok.ensures.played in let w = g.K.Sink.written in
    let told = on_board c.requires.cable.told (tdos p.clocks ++ []) in
    record {
      put = puts_back g.K.Sink c.args.lines.now c.play.new.out
          (events_text c.args.task.now.request.now.pins [] (task_play c.args.code.now c.args.chosen.now c.args.task.now).events)
          c.in-Ok.ensures.kept.same_paper c.in-Ok.ensures.kept.whole_paper c.in-Ok.ensures.kept.paper_kept
          (subst (λ far. Puts (shown_of w) c.args.lines.now
          (events_text c.args.task.now.request.now.pins [] (far_play c.args.code.now c.args.chosen.now c.args.task.now far).events) c.play.new.out) told (p.put []));
      ended = ap (λ far. ending_of (far_play c.args.code.now c.args.chosen.now c.args.task.now far).outcome) (sym told) ∙ p.ended [];
      left = ap (λ far. (far_play c.args.code.now c.args.chosen.now c.args.task.now far).chain.far) (sym told) ∙ p.far [];
    }

pub returns-in-Ok-clause-clocked : goal.returns-in-Ok-clause-clocked
returns-in-Ok-clause-clocked g c = let p = rw c.base_of-base.ensures at c.in-Ok.ensures.played in
    record { signals = signals_of p.events; made = p.made }

pub returns-clause-plays : goal.returns-clause-plays
returns-clause-plays g c =
    let p = rw c.base_of-base.ensures at c.in-Err.ensures.played in let w = g.K.Sink.written in
    front_back g.K.Sink c.args.lines.now c.play.new.out (events_text c.args.task.now.request.now.pins [] (task_play c.args.code.now c.args.chosen.now c.args.task.now).events)
    c.in-Err.ensures.kept.same_paper c.in-Err.ensures.kept.paper_kept (write_cause _ _ c.in-Err.trouble c.failed.ensures c.in-Err.ensures.kept.fault)
    (subst (λ far. PutsFront (shown_of w) c.args.lines.now
    (events_text c.args.task.now.request.now.pins [] (far_play c.args.code.now c.args.chosen.now c.args.task.now far).events) c.play.new.out)
    (on_board c.requires.cable.told (tdos p.clocks ++ [])) (p.front []))

pub returns-clause-clocked : goal.returns-clause-clocked
returns-clause-clocked g c = let p = rw c.base_of-base.ensures at c.in-Err.ensures.played in
    record { signals = signals_of p.events; made = p.made }
