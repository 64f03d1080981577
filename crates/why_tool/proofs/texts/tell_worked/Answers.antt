use Rattle.std.proofs.Common.{pos, Some, subst}
use Rattle.stapl_syntax.specs.ProgramValues.{trees_of}
use Rattle.play_words.specs.declared.status.Status.TheVariants.{Done}
use Rattle.tool_frame.proofs.AnswerLemmas.{says_within}
use Rattle.play_tool.specs.Answers.{Works}
use Rattle.why_tool.specs.Told.{known_alone}
use Rattle.why_tool.specs.Whys.{HasAnswer}
use Rattle.why_tool.proofs.ExplainLemmas.{told_within}
use Rattle.why_tool.proofs.OutcomeLemmas.{work_outcome}
use Rattle.why_tool.proofs.texts.tell_worked.Goals as goal

pub returns : goal.returns
returns g c =
    let has = c.in_ok-work_status.ensures.status in
    let done = work_outcome c.args.work c.args.program.now.text (trees_of c.args.program.now) has.text _ has.answer in
    says_within _ _ _ _ _ c.tell_done.result (told_within (Done (pos 0)) (rw done at has)) (λ none. none)
    (c.tell_done.ensures (known_alone (Some c.args.program.now.text)))
