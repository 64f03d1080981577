use Rattle.std.proofs.Common.{None, Some, pos, subst}
use Rattle.named_files.specs.Texts.{usage_line}
use Rattle.play_words.specs.declared.status.Status.TheVariants.{Done, Usage}
use Rattle.tool_frame.proofs.AnswerLemmas.{says_failed, said_text, said_front}
use Rattle.tool_questions.specs.BoardLines.{FaultAt, fault_text, known, ended, lacking}
use Rattle.tool_questions.proofs.board.answer_end.Goals as goal

pub returns-in_err-put_fault-in-Some : goal.returns-in_err-put_fault-in-Some
returns-in_err-put_fault-in-Some g c =
    let is : FaultAt c.args.text.now c.args.number (Some c.in-Some.reason) = subst (FaultAt c.args.text.now c.args.number) c.in-Some.is c.requires.fault in
    says_failed _ _ _ _ _ c.from_residual.result c.from_residual.ensures.1
    (said_front (fault_text c.args.number (Some c.in-Some.reason)) (Done (pos 0))
    (known c.requires.small (ended c.in-Some.reason c.requires.none is)) c.in_err-put_fault-in-Some.ensures)

pub returns-in_ok-put_fault-in-Some : goal.returns-in_ok-put_fault-in-Some
returns-in_ok-put_fault-in-Some g c =
    let is : FaultAt c.args.text.now c.args.number (Some c.in-Some.reason) = subst (FaultAt c.args.text.now c.args.number) c.in-Some.is c.requires.fault in
    said_text (fault_text c.args.number (Some c.in-Some.reason)) (known c.requires.small (ended c.in-Some.reason c.requires.none is))
    c.in_ok-put_fault-in-Some.ensures

pub returns-in_err-put_usage-in-None : goal.returns-in_err-put_usage-in-None
returns-in_err-put_usage-in-None g c =
    let is : FaultAt c.args.text.now c.args.number None = subst (FaultAt c.args.text.now c.args.number) c.in-None.is c.requires.fault in
    says_failed _ _ _ _ _ c.from_residual-in_err-put_usage-in-None.result c.from_residual-in_err-put_usage-in-None.ensures.1
    (said_front (usage_line 2) (Usage 2) (known c.requires.small (lacking c.requires.none is)) c.in_err-put_usage-in-None.ensures)

pub returns-in_ok-put_usage-in-None : goal.returns-in_ok-put_usage-in-None
returns-in_ok-put_usage-in-None g c =
    let is : FaultAt c.args.text.now c.args.number None = subst (FaultAt c.args.text.now c.args.number) c.in-None.is c.requires.fault in
    said_text (usage_line 2) (known c.requires.small (lacking c.requires.none is)) c.in_ok-put_usage-in-None.ensures
