use Rattle.std.proofs.Common.{◌≡◌, drop}
use Rattle.stapl_syntax.specs.Names.{found_in}
use Rattle.stapl_names.proofs.names.Names.look_in.Given as goal

abbrev pub invariant-loop-i : goal.invariant-loop-i
invariant-loop-i l = found_in l.self (drop l.i l.blocks) l.name ≡ found_in l.self (drop l.from l.blocks) l.name
