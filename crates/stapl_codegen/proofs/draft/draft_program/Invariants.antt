use Rattle.stapl_syntax.specs.Trees.{trees}
use Rattle.stapl_meaning.specs.Scopes.{as_played}
use Rattle.stapl_codegen.specs.Drafts.{AreDrafted}
use Rattle.stapl_codegen.proofs.Places.{IsOpenAt}
use Rattle.stapl_codegen.proofs.draft.draft_program.Given as goal

abbrev pub invariant-loop-st : goal.invariant-loop-st
invariant-loop-st l = record {
  drafted : AreDrafted (as_played (trees l.program)) l.st-index l.emitter l.starts.items;
  at : IsOpenAt (trees l.program) l.st-index l.block;
}
