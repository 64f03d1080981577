use Rattle.std.proofs.Common.{refl, pos}
use Rattle.stapl_syntax.specs.ProgramValues.{trees_of}
use Rattle.play_words.specs.declared.status.Status.TheVariants.{Done}
use Rattle.program_reports.specs.Listings.{list_text}
use Rattle.tool_frame.proofs.AnswerLemmas.{says_failed, said_text, said_front}
use Rattle.play_tool.proofs.programs.list_program.Goals as goal

pub returns-in_err-put_list : goal.returns-in_err-put_list
returns-in_err-put_list g c =
    says_failed _ _ _ _ _ c.from_residual.result c.from_residual.ensures.1
    (said_front (list_text (trees_of c.args.program.now)) (Done (pos 0)) (record { said = refl; done = refl }) (rw c.statements.ensures.statements at c.in_err-put_list.ensures))

pub returns : goal.returns
returns g c =
    said_text (list_text (trees_of c.args.program.now)) (record { said = refl; done = refl }) (rw c.statements.ensures.statements at c.in_ok-put_list.ensures)
