use Rattle.std.proofs.Common.{rules, sym, ap, Err, Some}
use Rattle.tool_frame.proofs.FileLemmas.{shelf_of_read}
use Rattle.named_files.proofs.BoardLemmas.{of_any_file, of_file_as}
use Rattle.program_files.proofs.ProgramLemmas.{of_text, fault_is}
use Rattle.drive_tool.proofs.PlanLemmas.{in_text, held_refused, none_ok}
use Rattle.drive_tool.proofs.preparing.prepare_file.Goals as goal

pub returns-in_ok-step-in-Ok-clause-plan : goal.returns-in_ok-step-in-Ok-clause-plan
returns-in_ok-step-in-Ok-clause-plan g c =
    of_text (g.S.Shelf.told c.args.shelf.now) c.args.path.now _ c.in-Ok.ensures.text
    (in_text c.args.task.now.request.now c.args.task.now.devices.now _ _ c.in-Ok.ensures.program c.in_ok-step-in-Ok.step c.in_ok-step-in-Ok.ensures)

pub returns-in_err-step-in-Ok-clause-plan : goal.returns-in_err-step-in-Ok-clause-plan
returns-in_err-step-in-Ok-clause-plan g c =
    of_any_file (g.S.Shelf.told c.args.shelf.now) (Some c.args.path.now) (λ held. none_ok _ c.from_residual.result c.from_residual.ensures.0)

pub returns-in-Err-Refused-clause-plan : goal.returns-in-Err-Refused-clause-plan
returns-in-Err-Refused-clause-plan g c =
    of_file_as (λ held fault. held_refused c.args.task.now.request.now c.args.task.now.devices.now _ _ _ held fault)
    (fault_is (sym c.in-Err-Refused.piece-is) (sym c.in-Err-Refused.line-is) (sym c.in-Err-Refused.reason-is)
    (c.in-Err-Refused.ensures.fault c.in-Err-Refused.piece c.in-Err-Refused.line c.in-Err-Refused.reason (ap Err c.in-Err-Refused.field-0-is)))

pub returns-in-Err-Read-clause-plan : goal.returns-in-Err-Read-clause-plan
returns-in-Err-Read-clause-plan g c = of_any_file (g.S.Shelf.told c.args.shelf.now) (Some c.args.path.now) (λ held. tt)

pub returns-in-Err-Memory-clause-plan : goal.returns-in-Err-Memory-clause-plan
returns-in-Err-Memory-clause-plan g c = of_any_file (g.S.Shelf.told c.args.shelf.now) (Some c.args.path.now) (λ held. tt)

pub returns-in_ok-step-in-Ok-clause-shelf : goal.returns-in_ok-step-in-Ok-clause-shelf
returns-in_ok-step-in-Ok-clause-shelf g c =
    shelf_of_read c.program_named.result c.program_named.ensures.once c.program_named.ensures.keeps c.program_named.ensures.later (search rules)

pub returns-in_err-step-in-Ok-clause-shelf : goal.returns-in_err-step-in-Ok-clause-shelf
returns-in_err-step-in-Ok-clause-shelf g c =
    shelf_of_read c.program_named.result c.program_named.ensures.once c.program_named.ensures.keeps c.program_named.ensures.later (search rules)

pub returns-in-Err-Refused-clause-shelf : goal.returns-in-Err-Refused-clause-shelf
returns-in-Err-Refused-clause-shelf g c =
    shelf_of_read c.program_named.result c.program_named.ensures.once c.program_named.ensures.keeps c.program_named.ensures.later (search rules)

pub returns-in-Err-Read-clause-shelf : goal.returns-in-Err-Read-clause-shelf
returns-in-Err-Read-clause-shelf g c =
    shelf_of_read c.program_named.result c.program_named.ensures.once c.program_named.ensures.keeps c.program_named.ensures.later (search rules)

pub returns-in-Err-Memory-clause-shelf : goal.returns-in-Err-Memory-clause-shelf
returns-in-Err-Memory-clause-shelf g c =
    shelf_of_read c.program_named.result c.program_named.ensures.once c.program_named.ensures.keeps c.program_named.ensures.later (search rules)
