use Rattle.drive_tool.proofs.playing.play_at_peer.Given as goal

abbrev pub ghosts-play_on_cable : goal.ghosts-play_on_cable
ghosts-play_on_cable g a = record { name = a.blank.name; parts = a.blank.parts }
