use Rattle.machine_memory.proofs.Bitwise.{bitwise-differ}
use Rattle.machine_memory.proofs.operate.different_bits.Goals as goal

pub returns : goal.returns
returns c = bitwise-differ c.args.a c.args.b c.ranges.a c.ranges.b
