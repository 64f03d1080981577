use Rattle.link_cable.proofs.calls.+shift_wire.Given as goal

abbrev pub decreases-shift_wire : goal.decreases-shift_wire
decreases-shift_wire g l = l.n
