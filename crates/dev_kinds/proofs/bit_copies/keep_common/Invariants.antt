use Rattle.std.proofs.Common.{◌≡◌, ◌≤◌, ◌-◌, length}
use Rattle.dev_kinds.proofs.CommonBits.{common_below}
use Rattle.dev_kinds.proofs.bit_copies.keep_common.Given as goal

abbrev pub invariant-loop-done : goal.invariant-loop-done
invariant-loop-done l = record {
  within : l.done ≤ l.len;
  way : l.bits ≡ common_below l.done l.fn.bits l.other;
  length : length l.bits ≡ length l.fn.bits;
}

abbrev pub decreases-loop-done : goal.decreases-loop-done
decreases-loop-done l = l.len - l.done
