use Rattle.std.proofs.Common.{◌≡◌, ◌++◌, drop}
use Rattle.stapl_syntax.specs.Trees.{trees}
use Rattle.stapl_meaning.specs.Scopes.{as_played}
use Rattle.stapl_codegen.specs.Emit.{actions_from, actions_of}
use Rattle.stapl_codegen.proofs.Places.{IsOpenAt}
use Rattle.stapl_codegen.proofs.definitions.actions.Given as goal

abbrev pub invariant-loop-st : goal.invariant-loop-st
invariant-loop-st l = record {
  put : l.actions.items ++ actions_from (as_played (trees l.program)) (drop l.st-index (as_played (trees l.program)).pieces) ≡ actions_of (as_played (trees l.program));
  at : IsOpenAt (trees l.program) l.st-index l.block;
}
