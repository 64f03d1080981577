use Rattle.std.proofs.Common.{drop, map}
use Rattle.stapl_syntax.specs.Trees.{part_tree}
use Rattle.stapl_codegen.proofs.Emits.{AreWritten}
use Rattle.stapl_codegen.proofs.emit.Emitter.parts.Given as goal

abbrev pub invariant-loop-part : goal.invariant-loop-part
invariant-loop-part l = AreWritten l.fn.self (map part_tree l.parts) l.self l.list.items (drop l.part-index (map part_tree l.parts))
