use Rattle.link_cable.proofs.calls.+move_wire.Given as goal

abbrev pub decreases-move_wire : goal.decreases-move_wire
decreases-move_wire g l = l.n
