use Rattle.std.proofs.Common.{◌≡◌, ◌≤◌, ◌-◌, []}
use Rattle.std.specs.Prelude.{sum_by}
use Rattle.stapl_code.specs.Ranges.{elements_of}
use Rattle.code_files.specs.Reading.{items_at}
use Rattle.code_files.specs.ReadFiles.{variable_at}
use Rattle.code_files.proofs.read_variables.variables_at.Given as goal

abbrev pub invariant-loop : goal.invariant-loop
invariant-loop l = record {
  ints : l.ints ≡ sum_by (elements_of 0 2) l.items.items;
  bits : l.bits ≡ sum_by (elements_of 1 3) l.items.items;
  few_ints : l.ints ≤ 1048576;
  few_bits : l.bits ≤ 16777216;
  read : items_at variable_at l.items.items (l.count - l.counter) l.rest ≡ items_at variable_at [] l.count l.bytes;
}
