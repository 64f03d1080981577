use Rattle.std.proofs.Common.{◌≡◌, take}
use Rattle.dev_card.proofs.desc.copied_registers.Given as goal

abbrev pub invariant-loop-i : goal.invariant-loop-i
invariant-loop-i l = l.copies.items ≡ take l.i l.registers
