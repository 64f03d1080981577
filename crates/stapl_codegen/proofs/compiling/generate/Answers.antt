use Rattle.std.proofs.Common.{ℕ, ◌+◌, ◌*◌, ◌≤◌, List, length, arith, sym, ap, subst, ◌∙◌}
use Rattle.stapl_lexer.specs.Pieces.{text_limit}
use Rattle.stapl_syntax.specs.declared.statement.Stmt.{Stmt}
use Rattle.stapl_syntax.specs.Trees.{trees}
use Rattle.stapl_syntax.specs.ProgramValues.{trees_of}
use Rattle.stapl_code.specs.declared.raw.CodeLists.{CodeLists}
use Rattle.stapl_code.specs.Files.{file, IsShort}
use Rattle.stapl_codegen.specs.Accepted.{IsAccepted}
use Rattle.stapl_codegen.specs.Generated.{lists_of}
use Rattle.stapl_meaning.specs.Scopes.{as_played}
use Rattle.stapl_codegen.proofs.compiling.generate.Goals as goal

pub valid_lists-requires : goal.valid_lists-requires
valid_lists-requires c =
    subst (λ (s : List Stmt). IsAccepted (as_played (trees s))) (sym c.statements.ensures.statements)
    (c.programs_are_accepted.ensures c.args.program.now.text (trees_of c.args.program.now) c.requires)

-- the text of a program is not too long, so neither is the file of its code
is_short : (n : ℕ) (lists : CodeLists) → n ≤ text_limit → length (file lists) ≤ 64 * n + 64 → IsShort lists
is_short n lists few within = record { most = omega (arith, few, within) }

pub of-requires-clause-short : goal.of-requires-clause-short
of-requires-clause-short c =
    let same = c.in_ok-lists.ensures.code.lists
    ∙ ap (λ (s : List Stmt). lists_of (as_played (trees s))) c.statements.ensures.statements in
    is_short (length c.args.program.now.text) c.in_ok-lists.lists c.requires.short
    (subst (λ (l : CodeLists). length (file l) ≤ 64 * length c.args.program.now.text + 64) (sym same)
    (c.files_are_short.ensures c.args.program.now.text (trees_of c.args.program.now) c.requires))

pub returns-in-Ok-clause-short : goal.returns-in-Ok-clause-short
returns-in-Ok-clause-short c =
    let same = c.in_ok-lists.ensures.code.lists
    ∙ ap (λ (s : List Stmt). lists_of (as_played (trees s))) c.statements.ensures.statements in
    let all = c.in-Ok.ensures.same ∙ c.of.ensures.lists ∙ same in
    subst (λ (l : CodeLists). length (file l) ≤ 64 * length c.args.program.now.text + 64) (sym all)
    (c.files_are_short.ensures c.args.program.now.text (trees_of c.args.program.now) c.requires)
