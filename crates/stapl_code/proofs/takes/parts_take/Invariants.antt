use Rattle.std.proofs.Common.{◌≡◌, ◌≤◌, ◌+◌, drop, length}
use Rattle.stapl_code.specs.Machine.{part_slots}
use Rattle.stapl_code.proofs.takes.parts_take.Given as goal

abbrev pub invariant-loop-part : goal.invariant-loop-part
invariant-loop-part l = record {
  counted : l.n + length (part_slots (drop l.part-index l.parts)) ≡ length (part_slots l.parts);
  small : l.n ≤ l.part-index;
}
