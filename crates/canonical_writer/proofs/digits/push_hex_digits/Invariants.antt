use Rattle.std.proofs.Common.{◌≡◌, ◌*◌, ◌≤◌, ◌++◌, length}
use Rattle.bit_list.specs.Hexadecimal.{hex_digits, all_hex_digits}
use Rattle.canonical_writer.proofs.digits.push_hex_digits.Given as goal

-- what is left to write, after what is written, gives the whole
abbrev pub invariant-loop-left : goal.invariant-loop-left
invariant-loop-left l = (l.out.items ++ hex_digits l.left l.bits ≡ l.fn.out.items ++ all_hex_digits l.bits) × (4 * l.left ≤ length l.bits)

abbrev pub decreases-loop-left : goal.decreases-loop-left
decreases-loop-left l = l.left
