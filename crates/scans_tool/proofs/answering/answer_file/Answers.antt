use Rattle.std.proofs.Common.{sym, ap, Err, Some, refl, rules}
use Rattle.tool_frame.proofs.AnswerLemmas.{says_within}
use Rattle.named_files.proofs.BoardLemmas.{of_any_file}
use Rattle.program_files.proofs.ProgramLemmas.{of_text, fault_is, refusal_failed, refusal_put}
use Rattle.scans_tool.specs.Answers.{TextAnswer, refused}
use Rattle.scans_tool.proofs.AnswerLemmas.{program_in_text}
use Rattle.tool_frame.proofs.FileLemmas.{shelf_of_read}
use Rattle.scans_tool.proofs.answering.answer_file.Goals as goal

pub returns-in-Ok-clause-says : goal.returns-in-Ok-clause-says
returns-in-Ok-clause-says g c =
    of_text (g.S.Shelf.told c.args.shelf.now) c.args.path.now _ c.in-Ok.ensures.text
    (says_within _ _ _ _ _ c.play_program.result (program_in_text c.args.task.now.request.now c.args.task.now.devices.now _ _ c.in-Ok.ensures.program)
    (λ none. absurd none) c.play_program.ensures.says)

pub returns-in_err-put_refusal-in-Err-Refused-clause-says : goal.returns-in_err-put_refusal-in-Err-Refused-clause-says
returns-in_err-put_refusal-in-Err-Refused-clause-says g c =
    refusal_failed _ _ _ (TextAnswer c.args.task.now.request.now c.args.task.now.devices.now) _ (λ bytes. refused _ _ _)
    (fault_is (sym c.in-Err-Refused.piece-is) (sym c.in-Err-Refused.line-is) (sym c.in-Err-Refused.reason-is)
    (c.in-Err-Refused.ensures.fault c.in-Err-Refused.piece c.in-Err-Refused.line c.in-Err-Refused.reason (ap Err c.in-Err-Refused.field-0-is)))
    c.from_residual.result c.from_residual.ensures.1 c.in_err-put_refusal-in-Err-Refused.ensures

pub returns-in_ok-put_refusal-in-Err-Refused-clause-says : goal.returns-in_ok-put_refusal-in-Err-Refused-clause-says
returns-in_ok-put_refusal-in-Err-Refused-clause-says g c =
    refusal_put _ _ _ (TextAnswer c.args.task.now.request.now c.args.task.now.devices.now) _ (λ bytes. refused _ _ _)
    (fault_is (sym c.in-Err-Refused.piece-is) (sym c.in-Err-Refused.line-is) (sym c.in-Err-Refused.reason-is)
    (c.in-Err-Refused.ensures.fault c.in-Err-Refused.piece c.in-Err-Refused.line c.in-Err-Refused.reason (ap Err c.in-Err-Refused.field-0-is)))
    c.in_ok-put_refusal-in-Err-Refused.ensures

pub returns-in-Err-Read-clause-says : goal.returns-in-Err-Read-clause-says
returns-in-Err-Read-clause-says g c = of_any_file (g.S.Shelf.told c.args.shelf.now) (Some c.args.path.now) (λ held. (refl, refl))

pub returns-in-Err-Memory-clause-says : goal.returns-in-Err-Memory-clause-says
returns-in-Err-Memory-clause-says g c = of_any_file (g.S.Shelf.told c.args.shelf.now) (Some c.args.path.now) (λ held. (refl, refl))

pub returns-in-Ok-clause-shelf : goal.returns-in-Ok-clause-shelf
returns-in-Ok-clause-shelf g c =
    shelf_of_read c.program_named.result c.program_named.ensures.once c.program_named.ensures.keeps c.program_named.ensures.later (search rules)

pub returns-in_err-put_refusal-in-Err-Refused-clause-shelf : goal.returns-in_err-put_refusal-in-Err-Refused-clause-shelf
returns-in_err-put_refusal-in-Err-Refused-clause-shelf g c =
    shelf_of_read c.program_named.result c.program_named.ensures.once c.program_named.ensures.keeps c.program_named.ensures.later (search rules)

pub returns-in_ok-put_refusal-in-Err-Refused-clause-shelf : goal.returns-in_ok-put_refusal-in-Err-Refused-clause-shelf
returns-in_ok-put_refusal-in-Err-Refused-clause-shelf g c =
    shelf_of_read c.program_named.result c.program_named.ensures.once c.program_named.ensures.keeps c.program_named.ensures.later (search rules)

pub returns-in-Err-Read-clause-shelf : goal.returns-in-Err-Read-clause-shelf
returns-in-Err-Read-clause-shelf g c =
    shelf_of_read c.program_named.result c.program_named.ensures.once c.program_named.ensures.keeps c.program_named.ensures.later (search rules)

pub returns-in-Err-Memory-clause-shelf : goal.returns-in-Err-Memory-clause-shelf
returns-in-Err-Memory-clause-shelf g c =
    shelf_of_read c.program_named.result c.program_named.ensures.once c.program_named.ensures.keeps c.program_named.ensures.later (search rules)
