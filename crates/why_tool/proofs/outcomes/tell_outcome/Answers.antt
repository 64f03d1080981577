use Rattle.std.proofs.Common.{rules, ◌∙◌, codes, refl, w32, SFits}
use Rattle.std.proofs.lemmas.Int.{to_z-of_z}
use Rattle.tool_frame.proofs.AnswerLemmas.{says_within}
use Rattle.why_tool.proofs.OutcomeLemmas.{misfit_told, place_told, text_of}
use Rattle.why_tool.proofs.outcomes.tell_outcome.Goals as goal

pub returns-in-Done : goal.returns-in-Done
returns-in-Done g c = λ known is. let fits : SFits w32 c.in-Done.code = search rules in rw c.in-Done.is (rw (to_z-of_z w32 c.in-Done.code fits) at c.tell_done.ensures known)

pub returns-in-Fault : goal.returns-in-Fault
returns-in-Fault g c = λ known is. rw c.in-Fault.is (c.tell_fault.ensures known (is.text ∙ text_of (λ p. p.text) (λ program. program.now) c.args.program))

pub returns-in-NoAction : goal.returns-in-NoAction
returns-in-NoAction g c = λ known is. rw c.in-NoAction.is (
    says_within _ _ _ _ _ c.tell_misfit.result
    (record { to = λ said ending t. record { told = misfit_told (codes "action") (codes "action, of the words:") known.program (λ program. program.now) c.args.program refl is.text is.is said t.said_is; done = t.done } })
    (λ none. none) c.tell_misfit.ensures)

pub returns-in-BadChoice : goal.returns-in-BadChoice
returns-in-BadChoice g c = λ known is. rw c.in-BadChoice.is (
    says_within _ _ _ _ _ c.tell_misfit-in-BadChoice.result
    (record { to = λ said ending t. record { told = misfit_told (codes "choice") (codes "choice, of the words:") known.program (λ program. program.now) c.args.program refl is.text is.is said t.said_is; done = t.done } })
    (λ none. none) c.tell_misfit-in-BadChoice.ensures)

pub returns-in-BadPlace : goal.returns-in-BadPlace
returns-in-BadPlace g c = λ known is. rw c.in-BadPlace.is (
    says_within _ _ _ _ _ c.tell_place.result
    (record { to = λ said ending t. record { told = place_told known.board c.args.devices.now is.board said t.said_is; done = t.done } })
    (λ none. none) c.tell_place.ensures)
