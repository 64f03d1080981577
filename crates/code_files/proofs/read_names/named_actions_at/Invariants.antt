use Rattle.std.proofs.Common.{◌≡◌, ◌-◌, [], map}
use Rattle.stapl_code.specs.declared.raw.ActionDef.{ActionDef}
use Rattle.code_files.specs.Reading.{items_at}
use Rattle.code_files.specs.ReadFiles.{action_at}
use Rattle.code_files.proofs.read_names.named_actions_at.Given as goal

abbrev pub invariant-loop : goal.invariant-loop
invariant-loop l = record {
  names : l.names.keys ≡ map (λ (a : ActionDef). a.name) l.items.items;
  read : items_at (action_at l.procedures) l.items.items (l.count - l.counter) l.rest ≡ items_at (action_at l.procedures) [] l.count l.bytes;
}
