use Rattle.std.proofs.Common.{w32}
use Rattle.std.proofs.lemmas.Int.{to_z-of_z}
use Rattle.machine_memory.proofs.RoomLemmas.{integer_taken}
use Rattle.machine_memory.proofs.scan_bits.ScanBits.take_integer.Goals as goal

pub returns : goal.returns
returns c = integer_taken c.args.n c.args.value _ _ _ (to_z-of_z w32 c.args.value c.ranges.value) c.requires c.set_low_bits.ensures.bits
