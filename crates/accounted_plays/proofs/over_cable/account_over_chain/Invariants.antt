use Rattle.accounted_plays.proofs.over_cable.account_over_chain.Given as goal

abbrev pub ghosts-account_over_cable : goal.ghosts-account_over_cable
ghosts-account_over_cable g a = record { name = a.blank.name; parts = a.blank.parts }
