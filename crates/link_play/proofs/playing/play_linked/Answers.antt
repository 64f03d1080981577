use Rattle.std.proofs.Common.{refl}
use Rattle.std.proofs.lemmas.Bool.{false≢true}
use Rattle.link_play.proofs.PlayLemmas.{good_board, never_rises}
use Rattle.link_play.proofs.playing.play_linked.Goals as goal

pub returns-in-Ok-clause-as_chain : goal.returns-in-Ok-clause-as_chain
returns-in-Ok-clause-as_chain g c = λ cs good quiet.
    (refl, c.in-Ok.ensures.told.told cs (good_board g.W.Wire cs c.args.cable.now c.requires.whole_cable good))

pub returns-in-Err-clause-as_chain : goal.returns-in-Err-clause-as_chain
returns-in-Err-clause-as_chain g c = λ cs good quiet. absurd (false≢true (c.in-Err.ensures.told.sure
    (never_rises g.W.Wire cs c.args.cable.now c.play_told.new.cable _ c.requires.whole_cable good c.in-Err.ensures.play.played.made) quiet))
