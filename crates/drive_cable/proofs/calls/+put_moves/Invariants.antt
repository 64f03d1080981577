use Rattle.drive_cable.proofs.calls.+put_moves.Given as goal

abbrev pub decreases-put_moves : goal.decreases-put_moves
decreases-put_moves l = l.n
