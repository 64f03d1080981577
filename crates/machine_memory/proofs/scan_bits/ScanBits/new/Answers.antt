use Rattle.std.proofs.Common.{arith}
use Rattle.machine_memory.proofs.RoomLemmas.{new_room}
use Rattle.machine_memory.proofs.scan_bits.ScanBits.new.Goals as goal

pub invariant_of-result : goal.invariant_of-result
invariant_of-result c = new_room 4194304 c.in_ok-room.room (omega arith) c.in_ok-room.ensures
