use Rattle.std.proofs.Common.{◌≡◌, ◌-◌, []}
use Rattle.code_files.specs.Reading.{items_at}
use Rattle.code_files.specs.ReadInstrs.{part_at}
use Rattle.code_files.proofs.read_lists.parts_at.Given as goal

abbrev pub invariant-loop : goal.invariant-loop
invariant-loop l = items_at (λ _. (part_at l.texts)) l.items.items (l.count - l.counter) l.rest ≡ items_at (λ _. (part_at l.texts)) [] l.count l.bytes
