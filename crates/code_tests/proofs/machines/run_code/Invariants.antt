use Rattle.code_tests.proofs.machines.run_code.Given as goal

abbrev pub ghosts-run_on : goal.ghosts-run_on
ghosts-run_on a = record { name = a.blank.name; parts = a.blank.parts }
