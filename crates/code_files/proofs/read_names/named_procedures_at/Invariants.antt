use Rattle.std.proofs.Common.{◌≡◌, ◌-◌, [], map}
use Rattle.stapl_code.specs.declared.raw.ProcDef.{ProcDef}
use Rattle.code_files.specs.Reading.{items_at}
use Rattle.code_files.specs.ReadFiles.{procedure_at, least_entry}
use Rattle.code_files.proofs.read_names.named_procedures_at.Given as goal

abbrev pub invariant-loop : goal.invariant-loop
invariant-loop l = record {
  names : l.names.keys ≡ map (λ (p : ProcDef). p.name) l.items.items;
  least : l.least ≡ least_entry l.items.items;
  read : items_at procedure_at l.items.items (l.count - l.counter) l.rest ≡ items_at procedure_at [] l.count l.bytes;
}
