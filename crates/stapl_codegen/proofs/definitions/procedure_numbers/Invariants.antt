use Rattle.std.proofs.Common.{◌≡◌, ◌≤◌, ◌++◌, drop}
use Rattle.stapl_codegen.specs.Numbers.{numbers_from}
use Rattle.stapl_codegen.proofs.definitions.procedure_numbers.Given as goal

abbrev pub invariant-loop-block : goal.invariant-loop-block
invariant-loop-block l = record {
  few : l.next ≤ l.block;
  numbers : l.numbers.items ++ numbers_from l.next (drop l.block l.names.blocks) ≡ numbers_from 0 l.names.blocks;
}
