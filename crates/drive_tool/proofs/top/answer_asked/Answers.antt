use Rattle.std.proofs.Common.{refl, ap, Err}
use Rattle.tool_io.specs.declared.outside.Failed.{Failed}
use Rattle.tool_frame.proofs.FileLemmas.{of_files_as, shelf_as, shelf_at, shelf_unwritten}
use Rattle.drive_tool.proofs.AnswerLemmas.{comes, comes_torn, comes_still, can_be_done}
use Rattle.drive_tool.proofs.top.answer_asked.Goals as goal

pub do_step-requires : goal.do_step-requires
do_step-requires g c = let p = c.in_ok-step.ensures.plan.holds in can_be_done p.plan c.in_ok-step.step p.is

pub returns-in_err-step-clause-did : goal.returns-in_err-step-clause-did
returns-in_err-step-clause-did g c =
    of_files_as (λ contents p.
    comes_still g.P.Peer g.K.Sink _ _ _ (record { same_peer = refl; same_out = refl }) c.in_err-step.field-0.0 (λ e. c.in_err-step.ensures.no_write (ap Err e)) c.from_residual.result c.from_residual.ensures.1)
    c.in_err-step.ensures.plan

pub returns-in_err-status-clause-did : goal.returns-in_err-status-clause-did
returns-in_err-status-clause-did g c =
    of_files_as (λ contents p.
    comes_torn g.P.Peer g.K.Sink _ _ _ c.args.asked.now.wire.sleeps p.plan (refl, p.planned) (c.in_err-status.ensures.done p.plan p.is) c.from_residual-in_err-status.result
    c.from_residual-in_err-status.ensures.1)
    c.in_ok-step.ensures.plan

pub returns-clause-did : goal.returns-clause-did
returns-clause-did g c =
    of_files_as (λ contents p. comes g.P.Peer g.K.Sink _ _ Failed _ c.args.asked.now.wire.sleeps p.plan (refl, p.planned) c.in_ok-status.status (c.in_ok-status.ensures.done p.plan p.is))
    c.in_ok-step.ensures.plan

pub returns-in_err-step-clause-shelf : goal.returns-in_err-step-clause-shelf
returns-in_err-step-clause-shelf g c = shelf_at c.in_err-step.field-0.0 c.from_residual.result c.from_residual.ensures.1 c.in_err-step.ensures.shelf

pub returns-in_err-status-clause-shelf : goal.returns-in_err-status-clause-shelf
returns-in_err-status-clause-shelf g c =
    shelf_unwritten c.from_residual-in_err-status.result c.from_residual-in_err-status.ensures.1 c.in_ok-step.ensures.shelf

pub returns-clause-shelf : goal.returns-clause-shelf
returns-clause-shelf g c = shelf_as (λ failed. absurd cc) c.in_ok-step.ensures.shelf
