use Rattle.std.proofs.Common.{◌≡◌, ◌+◌, drop}
use Rattle.machine_memory.specs.Prints.{parts_room}
use Rattle.stapl_instructions.proofs.printing.parts_room.Given as goal

abbrev pub invariant-loop-part : goal.invariant-loop-part
invariant-loop-part l = l.n + parts_room l.code.texts (drop l.part-index l.parts) ≡ parts_room l.code.texts l.parts
