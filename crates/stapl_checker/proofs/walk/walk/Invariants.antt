use Rattle.std.proofs.Common.{take, map}
use Rattle.stapl_syntax.specs.Trees.{stmt_tree}
use Rattle.checker_rules.specs.Courses.{IsCourse}
use Rattle.stapl_checker.specs.Walks.{NoneBroken, numbered_trees}
use Rattle.stapl_checker.proofs.walk.walk.Given as goal

abbrev pub invariant-loop-i : goal.invariant-loop-i
invariant-loop-i l = record {
  none : NoneBroken l.names (map stmt_tree l.statements) l.i;
  course : IsCourse l.names (numbered_trees (take l.i (map stmt_tree l.statements))) l.i l.course;
}
