use Rattle.std.proofs.Common.{rules}
use Rattle.machine_memory.proofs.Wraps.{int_shl-wraps}
use Rattle.machine_memory.proofs.operate.times_power.Goals as goal

pub returns : goal.returns
returns c = search (rules, int_shl-wraps)
