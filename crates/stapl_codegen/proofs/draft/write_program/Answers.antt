use Rattle.std.proofs.Common.{◌∙◌, ap, map}
use Rattle.stapl_codegen.specs.Emit.{retarget, start_of}
use Rattle.stapl_syntax.specs.Trees.{trees}
use Rattle.stapl_codegen.proofs.Lists.{code_retarget}
use Rattle.stapl_meaning.specs.Scopes.{as_played}
use Rattle.stapl_codegen.proofs.draft.write_program.Goals as goal

pub returns-clause-code : goal.returns-clause-code
returns-clause-code c =
    let program = as_played (trees c.args.program.now) in
    c.in_ok-code.ensures ∙ ap (map (retarget (start_of program))) c.in_ok-draft.ensures.code_is ∙ code_retarget program (start_of program)
