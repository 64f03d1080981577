use Rattle.std.proofs.Common.{◌≡◌, ◌≤◌, ◌+◌, length, reverse}
use Rattle.bit_list.specs.Ranges.{taken, spliced}
use Rattle.bit_list.proofs.Bits.reverse_within.Given as goal

abbrev pub invariant-loop-left : goal.invariant-loop-left
invariant-loop-left l =
    (length l.self ≡ length l.fn.self) × (l.low + l.left ≤ length l.self)
    × (spliced l.low (reverse (taken l.low l.left l.self)) l.self ≡ spliced l.at (reverse (taken l.at l.n l.fn.self)) l.fn.self)

abbrev pub decreases-loop-left : goal.decreases-loop-left
decreases-loop-left l = l.left
