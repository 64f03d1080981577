use Rattle.std.proofs.Common.{◌≡◌, ◌++◌, take}
use Rattle.std.specs.List.{flat_map}
use Rattle.soak_texts.specs.Lines.{four_digits}
use Rattle.soak_texts.proofs.lines.put_data.Given as goal

abbrev pub invariant-loop-number : goal.invariant-loop-number
invariant-loop-number l = l.out.items ≡ l.fn.out.items ++ flat_map four_digits (take l.number-index l.numbers)
