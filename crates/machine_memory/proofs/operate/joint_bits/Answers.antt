use Rattle.machine_memory.proofs.Bitwise.{bitwise-or}
use Rattle.machine_memory.proofs.operate.joint_bits.Goals as goal

pub returns : goal.returns
returns c = bitwise-or c.args.a c.args.b c.ranges.a c.ranges.b
