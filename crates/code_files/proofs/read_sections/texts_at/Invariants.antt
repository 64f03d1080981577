use Rattle.std.proofs.Common.{◌≡◌, ◌-◌, []}
use Rattle.code_files.specs.Reading.{items_at}
use Rattle.code_files.specs.ReadFiles.{text_at}
use Rattle.code_files.proofs.read_sections.texts_at.Given as goal

abbrev pub invariant-loop : goal.invariant-loop
invariant-loop l = items_at (λ _. text_at) l.items.items (l.count - l.counter) l.rest ≡ items_at (λ _. text_at) [] l.count l.bytes
