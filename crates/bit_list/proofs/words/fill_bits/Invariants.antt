use Rattle.std.proofs.Common.{◌≡◌, ◌≤◌, ◌-◌, replicate}
use Rattle.bit_list.specs.Ranges.{spliced}
use Rattle.bit_list.specs.Words.{bits_of_words}
use Rattle.bit_list.proofs.words.fill_bits.Given as goal

abbrev pub invariant-loop-done : goal.invariant-loop-done
invariant-loop-done l =
    (l.done ≤ l.n) × (bits_of_words l.words ≡ spliced l.at (replicate l.done l.bit) (bits_of_words l.fn.words))

abbrev pub decreases-loop-done : goal.decreases-loop-done
decreases-loop-done l = l.n - l.done
