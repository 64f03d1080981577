use Rattle.std.proofs.Common.{rules}
use Rattle.std.proofs.lemmas.Int.{wraps}
use Rattle.machine_memory.proofs.Wraps.{absolute-wraps}
use Rattle.machine_memory.proofs.operate.magnitude.Goals as goal

pub returns : goal.returns
returns c = search (rules, wraps, absolute-wraps)
