use Rattle.std.proofs.Common.{◌≡◌, ℕ, List, drop}
use Rattle.stapl_syntax.specs.Trees.{trees}
use Rattle.carried_plays.specs.PadNames.{has_block}
use Rattle.chain_rewrite.proofs.NameLemmas.{are_left}
use Rattle.chain_rewrite.proofs.names.block_names.Given as goal

-- what is known, and what is left to find, give all names
abbrev pub invariant-loop-statement : goal.invariant-loop-statement
invariant-loop-statement l =
    (name : List ℕ) → are_left l.names.keys (drop l.statement-index (trees l.statements)) name ≡ has_block (trees l.statements) name
