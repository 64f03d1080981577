use Rattle.std.proofs.Common.{◌≡◌, ◌+◌, take}
use Rattle.stapl_code.specs.Fields.{literal}
use Rattle.stapl_code.specs.Sizes.{bytes_of}
use Rattle.code_ranges.proofs.sizes.take_literals.Given as goal

abbrev pub invariant-loop-bits : goal.invariant-loop-bits
invariant-loop-bits l = l.initial.left ≡ l.left + bytes_of literal (take l.bits-index l.literals)
