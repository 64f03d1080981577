use Rattle.std.proofs.Common.{◌≡◌, ◌++◌, drop}
use Rattle.stapl_syntax.specs.Trees.{trees}
use Rattle.stapl_meaning.specs.Scopes.{as_played}
use Rattle.stapl_codegen.specs.Emit.{start_of, procedures_from, procedures_of}
use Rattle.stapl_codegen.proofs.Places.{IsOpenAt}
use Rattle.stapl_codegen.proofs.definitions.procedures.Given as goal

abbrev pub invariant-loop-i : goal.invariant-loop-i
invariant-loop-i l = record {
  put : l.procedures.items ++ procedures_from (start_of (as_played (trees l.program))) l.i (drop l.i (as_played (trees l.program)).pieces) ≡ procedures_of (as_played (trees l.program));
  at : IsOpenAt (trees l.program) l.i l.block;
}
