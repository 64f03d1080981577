use Rattle.std.proofs.Common.{◌≡◌, ◌++◌, take, drop, length, replicate, map, List, Bool}
use Rattle.dev_kinds.proofs.memory.fill_words.Given as goal

abbrev pub invariant-loop-i : goal.invariant-loop-i
invariant-loop-i l = l.words ≡ map (λ (word : List Bool). replicate (length word) l.bit) (take l.i l.fn.words) ++ drop l.i l.fn.words
