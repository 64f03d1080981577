use Rattle.std.proofs.Common.{map}
use Rattle.stapl_syntax.specs.Trees.{stmt_tree}
use Rattle.stapl_syntax.specs.Names.{with_numbers}
use Rattle.stapl_names.proofs.UnderWay.{AreUnderWay, left_from}
use Rattle.stapl_names.proofs.names.collect.Given as goal

abbrev pub invariant-loop-i : goal.invariant-loop-i
invariant-loop-i l = AreUnderWay l.tables l.inside (left_from l.pieces l.stmts l.i) (with_numbers l.pieces (map stmt_tree l.stmts))
