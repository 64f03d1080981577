use Rattle.std.proofs.Common.{◌≡◌, max, drop}
use Rattle.machine_memory.specs.Prints.{print_room}
use Rattle.stapl_instructions.proofs.printing.print_room.Given as goal

abbrev pub invariant-loop-instr : goal.invariant-loop-instr
invariant-loop-instr l =
    max l.most (print_room l.code.texts (drop l.instr-index l.code.instrs)) ≡ print_room l.code.texts l.code.instrs
