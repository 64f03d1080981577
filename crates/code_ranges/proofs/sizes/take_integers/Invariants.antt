use Rattle.std.proofs.Common.{◌≡◌, ◌+◌, take}
use Rattle.stapl_code.specs.Fields.{integer}
use Rattle.stapl_code.specs.Sizes.{bytes_of}
use Rattle.code_ranges.proofs.sizes.take_integers.Given as goal

abbrev pub invariant-loop-value : goal.invariant-loop-value
invariant-loop-value l = l.initial.left ≡ l.left + bytes_of integer (take l.value-index l.values)
