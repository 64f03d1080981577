use Rattle.std.proofs.Common.{refl, arith}
use Rattle.machine_memory.proofs.RoomLemmas.{new_pads}
use Rattle.machine_memory.proofs.settings.Settings.first.Goals as goal

pub invariant_of-result : goal.invariant_of-result
invariant_of-result c =
    new_pads 65536 (record { pre = 0; pre_bits = c.in_ok-zeros.field-0; post = 0; post_bits = c.in_ok-zeros-2.field-0 }) (omega arith) refl refl c.in_ok-zeros.ensures c.in_ok-zeros-2.ensures
