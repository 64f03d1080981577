use Rattle.std.proofs.Common.{◌≡◌, ◌≤◌, ◌+◌, ℕ, List, drop, length, vec_capacity}
use Rattle.stapl_code.specs.Machine.{parts_text}
use Rattle.stapl_code.specs.Safe.{constants_of}
use Rattle.machine_memory.specs.Prints.{with_front, parts_room}
use Rattle.stapl_instructions.proofs.printing.join.Given as goal

abbrev pub invariant-loop-part : goal.invariant-loop-part
invariant-loop-part l = record {
  text : (entries : List ℕ) → with_front l.text.items (parts_text entries (constants_of l.code) (drop l.part-index l.parts) (drop l.at l.values))
      ≡ parts_text entries (constants_of l.code) l.parts l.values;
  fits : length l.text.items + parts_room l.code.texts (drop l.part-index l.parts) ≤ vec_capacity l.text;
  room : vec_capacity l.fn.text ≤ vec_capacity l.text;
}
