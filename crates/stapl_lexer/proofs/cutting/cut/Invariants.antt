use Rattle.std.proofs.Common.{◌-◌, ◌≤◌, length}
use Rattle.stapl_lexer.specs.Cutting.{IsCutUpTo, Within}
use Rattle.stapl_lexer.proofs.cutting.cut.Given as goal

abbrev pub invariant-segments : goal.invariant-segments
invariant-segments l = record {
  bounds : Within (length l.text) l.progress;
  cut_up_to : IsCutUpTo l.text l.progress l.pieces.items;
  few : length l.pieces.items ≤ l.progress.at;
}

abbrev pub decreases-segments : goal.decreases-segments
decreases-segments l = length l.text - l.progress.at
