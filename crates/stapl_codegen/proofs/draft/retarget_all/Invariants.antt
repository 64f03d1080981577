use Rattle.std.proofs.Common.{◌≡◌, ◌++◌, map}
use Rattle.stapl_codegen.specs.Emit.{retarget, start_of}
use Rattle.stapl_syntax.specs.Trees.{trees}
use Rattle.stapl_meaning.specs.Scopes.{as_played}
use Rattle.stapl_codegen.proofs.draft.retarget_all.Given as goal

abbrev pub invariant-loop-instr : goal.invariant-loop-instr
invariant-loop-instr l =
    l.code.items ++ map (retarget (start_of (as_played (trees l.program)))) l.instr-iterator.rest.items ≡ map (retarget (start_of (as_played (trees l.program)))) l.fn.draft.items
