use Rattle.std.proofs.Common.{rules}
use Rattle.std.proofs.lemmas.Int.{wraps}
use Rattle.machine_memory.proofs.Wraps.{int_div-wraps}
use Rattle.machine_memory.proofs.operate.quotient.Goals as goal

pub returns : goal.returns
returns c = search (rules, wraps, int_div-wraps)
