use Rattle.std.proofs.Common.{◌≡◌, replicate}
use Rattle.dev_kinds.proofs.memory.filled_words.Given as goal

abbrev pub invariant-loop-word : goal.invariant-loop-word
invariant-loop-word l = l.words.items ≡ replicate l._word (replicate l.width l.fill)
