use Rattle.std.proofs.Common.{◌≡◌, ◌≤◌, drop}
use Rattle.stapl_lexer.proofs.DepthLemmas.{opens_many}
use Rattle.stapl_lexer.proofs.depth.has_open_brackets.Given as goal

abbrev pub invariant-loop-token : goal.invariant-loop-token
invariant-loop-token l = record {
  few : l.depth ≤ 32;
  same : opens_many 0 l.tokens ≡ opens_many l.depth (drop l.token-index l.tokens);
}
