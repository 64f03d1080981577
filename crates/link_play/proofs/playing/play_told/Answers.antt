use Rattle.std.proofs.Common.{refl}
use Rattle.link_play.proofs.PlayLemmas.{run_of, has_cause}
use Rattle.link_play.proofs.playing.play_told.Goals as goal

pub returns-in-Ok-clause-told : goal.returns-in-Ok-clause-told
returns-in-Ok-clause-told g c = record {
  sure = λ still quiet. refl;
  told = λ cs told. run_of _ _ _ _ _ _ c.args.cable.now c.play.new.cable _ _ _ _ c.in-Ok.ending _ cs c.in-Ok.ensures.played told;
}

pub returns-in-Err-clause-told : goal.returns-in-Err-clause-told
returns-in-Err-clause-told g c = record {
  sure = λ still quiet. absurd (has_cause _ _ c.in-Err.trouble c.in-Err.ensures.kept.fault still quiet);
  told = λ cs told. tt;
}

pub returns-in-Ok-clause-play : goal.returns-in-Ok-clause-play
returns-in-Ok-clause-play g c = record { played = c.in-Ok.ensures.played; bounded = c.play.ensures.bounded; kept = c.in-Ok.ensures.kept }

pub returns-in-Err-clause-play : goal.returns-in-Err-clause-play
returns-in-Err-clause-play g c = record { played = c.in-Err.ensures.played; bounded = c.play.ensures.bounded; kept = c.in-Err.ensures.kept }
