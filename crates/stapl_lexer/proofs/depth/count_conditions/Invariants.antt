use Rattle.std.proofs.Common.{◌≡◌, ◌≤◌, take}
use Rattle.stapl_lexer.specs.Depth.{is_condition, count_of}
use Rattle.stapl_lexer.proofs.depth.count_conditions.Given as goal

abbrev pub invariant-loop-token : goal.invariant-loop-token
invariant-loop-token l = record {
  few : l.count ≤ l.token-index;
  same : l.count ≡ count_of is_condition (take l.token-index l.tokens);
}
