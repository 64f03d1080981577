use Rattle.std.proofs.Common.{◌≡◌, ℕ, ◌<◌, false}
use Rattle.stapl_syntax.specs.Trees.{trees}
use Rattle.carried_plays.specs.OwnPaddings.{sets_padding_at}
use Rattle.chain_rewrite.proofs.own_paddings.first_padding.Given as goal

abbrev pub invariant-loop-i : goal.invariant-loop-i
invariant-loop-i l = (k : ℕ) → k < l.i → sets_padding_at (trees l.statements) k ≡ false
