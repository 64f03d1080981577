use Rattle.std.proofs.Common.{◌≡◌, ℕ, ◌<◌, true}
use Rattle.stapl_syntax.specs.ProgramValues.{trees_of}
use Rattle.carried_plays.specs.PadNames.{pad_name, has_block}
use Rattle.chain_rewrite.proofs.names.new_name.Given as goal

abbrev pub invariant-loop-number : goal.invariant-loop-number
invariant-loop-number l = (m : ℕ) → m < l.number → has_block (trees_of l.fn.program) (pad_name m) ≡ true
