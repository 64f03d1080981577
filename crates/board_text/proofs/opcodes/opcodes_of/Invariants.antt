use Rattle.std.proofs.Common.{◌≡◌, ◌++◌, take, map}
use Rattle.dev_card.specs.declared.desc.RegDesc.{RegDesc}
use Rattle.dev_card.specs.Descriptions.{identity_opcodes}
use Rattle.board_text.proofs.opcodes.opcodes_of.Given as goal

abbrev pub invariant-registers : goal.invariant-registers
invariant-registers l = l.opcodes.items ≡ identity_opcodes l.device.id ++ map (λ (r : RegDesc). r.op) (take l.register-index l.registers)
