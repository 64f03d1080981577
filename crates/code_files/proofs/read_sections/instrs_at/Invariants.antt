use Rattle.std.proofs.Common.{◌≡◌, ◌-◌, []}
use Rattle.code_files.specs.Reading.{items_at}
use Rattle.code_files.specs.ReadInstrs.{instr_at}
use Rattle.code_files.proofs.read_sections.instrs_at.Given as goal

abbrev pub invariant-loop : goal.invariant-loop
invariant-loop l = items_at (λ _. (instr_at l.counts.variables.now l.counts.literals l.counts.texts l.counts.procedures)) l.items.items
    (l.count - l.counter) l.rest ≡ items_at (λ _. (instr_at l.counts.variables.now l.counts.literals l.counts.texts l.counts.procedures)) [] l.count l.bytes
