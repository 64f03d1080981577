-- On answers for the text of a program.
use Rattle.std.proofs.Common.{◌≡◌, ◌≤◌, ℕ, List, length, sym, subst}
use Rattle.stapl_syntax.specs.Trees.{StmtTree}
use Rattle.stapl_syntax.specs.Programs.{IsProgram}
use Rattle.chain_rewrite.specs.Rewritten.{IsRewritten}
use Rattle.dev_card.specs.declared.desc.Desc.{Desc}
use Rattle.command_words.specs.declared.place_run.PlaceRun.{PlaceRun}
use Rattle.rewrite_tool.specs.declared.status.RewriteStatus.TheVariants.{Done}
use Rattle.rewrite_tool.specs.Answers.{run_base, ProgramAnswer, rewritten}

-- the new text, as it was made
pub written_as : (devices : List Desc) (run : PlaceRun) (bytes text made : List ℕ) (program : List StmtTree) → IsProgram bytes program → run.last ≤ length devices →
    IsRewritten (run_base devices run) program made → text ≡ made → ProgramAnswer devices run bytes text Done
written_as devices run bytes text made program is has x e =
    subst (λ (t : List ℕ). ProgramAnswer devices run bytes t Done) (sym e) (rewritten program made is has x)
