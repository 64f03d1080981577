use Rattle.machine_memory.proofs.Bitwise.{bitwise-and}
use Rattle.machine_memory.proofs.operate.common_bits.Goals as goal

pub returns : goal.returns
returns c = bitwise-and c.args.a c.args.b c.ranges.a c.ranges.b
