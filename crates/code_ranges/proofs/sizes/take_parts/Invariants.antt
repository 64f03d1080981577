use Rattle.std.proofs.Common.{◌≡◌, ◌+◌, take}
use Rattle.stapl_code.specs.Instrs.{part}
use Rattle.stapl_code.specs.Sizes.{bytes_of}
use Rattle.code_ranges.proofs.sizes.take_parts.Given as goal

abbrev pub invariant-loop-part : goal.invariant-loop-part
invariant-loop-part l = l.initial.left ≡ l.left + bytes_of part (take l.part-index l.parts)
