use Rattle.std.proofs.Common.{◌≡◌, ◌++◌, drop, map}
use Rattle.stapl_meaning.specs.Turns.{tap_of}
use Rattle.stapl_codegen.proofs.chain.taps.Given as goal

abbrev pub invariant-loop-number : goal.invariant-loop-number
invariant-loop-number l = l.list.items ++ drop l.number-index (map tap_of l.numbers) ≡ map tap_of l.numbers
