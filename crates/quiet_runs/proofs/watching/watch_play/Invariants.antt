use Rattle.quiet_runs.proofs.watching.watch_play.Given as goal

abbrev pub ghosts-play_silently : goal.ghosts-play_silently
ghosts-play_silently g a = record { name = a.blank.name; parts = a.blank.parts }
