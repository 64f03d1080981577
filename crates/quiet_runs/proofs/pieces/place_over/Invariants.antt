use Rattle.quiet_runs.proofs.pieces.place_over.Given as goal

abbrev pub ghosts-place_counted : goal.ghosts-place_counted
ghosts-place_counted g a = record { name = a.blank.name; parts = a.blank.parts }
