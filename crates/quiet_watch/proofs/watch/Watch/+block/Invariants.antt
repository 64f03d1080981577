use Rattle.quiet_watch.proofs.watch.Watch.+block.Given as goal

abbrev pub decreases-block : goal.decreases-block
decreases-block g l = l.n
