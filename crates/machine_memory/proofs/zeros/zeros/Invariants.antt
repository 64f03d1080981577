use Rattle.std.proofs.Common.{◌≡◌, map, take}
use Rattle.machine_memory.specs.Zeros.{zero_of}
use Rattle.machine_memory.proofs.zeros.zeros.Given as goal

abbrev pub invariant-loop-def : goal.invariant-loop-def
invariant-loop-def l = l.variables.items ≡ map zero_of (take l.def-index l.defs)
