use Rattle.drive_cable.proofs.calls.+put_clocks.Given as goal

abbrev pub decreases-put_clocks : goal.decreases-put_clocks
decreases-put_clocks l = l.n
