use Rattle.std.proofs.Common.{None, Some, refl}
use Rattle.tool_frame.proofs.AnswerLemmas.{says_within}
use Rattle.why_tool.specs.Told.{known_with}
use Rattle.why_tool.proofs.ExplainLemmas.{told_within}
use Rattle.why_tool.proofs.OutcomeLemmas.{play_outcome}
use Rattle.why_tool.proofs.texts.tell_code.Goals as goal

pub tell_outcome-requires-clause-outcome : goal.tell_outcome-requires-clause-outcome
tell_outcome-requires-clause-outcome g c = play_outcome c.in_ok-status.ensures.status.answer

pub returns-clause-says : goal.returns-clause-says
returns-clause-says g c = λ board is.
    says_within _ _ _ _ _ c.tell_outcome.result (told_within c.in_ok-status.status c.in_ok-status.ensures.status) (λ none. none)
    (c.tell_outcome.ensures (known_with board None) (record { board = is; fits = c.requires.devices; text = refl; is = tt }))
