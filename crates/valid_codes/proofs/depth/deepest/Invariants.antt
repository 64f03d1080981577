use Rattle.std.proofs.Common.{◌≡◌, ◌≤◌, [], length, drop}
use Rattle.std.specs.Prelude.{max}
use Rattle.stapl_code.specs.Depth.{deepest}
use Rattle.valid_codes.proofs.depth.deepest.Given as goal

abbrev pub invariant-loop-i : goal.invariant-loop-i
invariant-loop-i l = record {
  small : length l.kinds ≤ l.i;
  few : l.most ≤ l.i;
  rest : max l.most (deepest l.variables l.kinds (drop l.i l.instrs)) ≡ deepest l.variables [] l.instrs;
}
