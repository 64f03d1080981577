use Rattle.std.proofs.Common.{◌≡◌, ◌-◌, []}
use Rattle.code_files.specs.Reading.{items_at}
use Rattle.code_files.specs.ReadFiles.{item_at}
use Rattle.code_files.proofs.read_sections.items_at.Given as goal

abbrev pub invariant-loop : goal.invariant-loop
invariant-loop l = items_at (λ _. (item_at l.procedures)) l.items.items (l.count - l.counter) l.rest ≡ items_at (λ _. (item_at l.procedures)) [] l.count l.bytes
