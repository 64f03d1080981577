use Rattle.link_tests.proofs.plays.plays_through.Given as goal

abbrev pub ghosts-plays_over : goal.ghosts-plays_over
ghosts-plays_over g a = record { name = a.blank.name; parts = a.blank.parts }
