use Rattle.code_plays.proofs.playing.play_over_chain.Given as goal

abbrev pub ghosts-play_over_cable : goal.ghosts-play_over_cable
ghosts-play_over_cable g a = record { name = a.blank.name; parts = a.blank.parts }
