use Rattle.std.proofs.Common.{◌≡◌, ◌≤◌, ◌++◌, length, take}
use Rattle.canonical_text.specs.PrintedTokens.{binary_digits}
use Rattle.canonical_writer.proofs.digits.push_binary_digits.Given as goal

-- what is left to write, after what is written, gives the whole
abbrev pub invariant-loop-left : goal.invariant-loop-left
invariant-loop-left l = (l.out.items ++ binary_digits (take l.left l.bits) ≡ l.fn.out.items ++ binary_digits l.bits) × (l.left ≤ length l.bits)

abbrev pub decreases-loop-left : goal.decreases-loop-left
decreases-loop-left l = l.left
