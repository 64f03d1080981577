use Rattle.std.proofs.Common.{◌≡◌, ℕ, ◌<◌, false}
use Rattle.stapl_syntax.specs.Trees.{trees}
use Rattle.chain_rewrite.proofs.PieceLemmas.{crc_at}
use Rattle.chain_rewrite.proofs.carrying.count_before_crc.Given as goal

abbrev pub invariant-loop-i : goal.invariant-loop-i
invariant-loop-i l = (k : ℕ) → k < l.i → crc_at (trees l.statements) k ≡ false
