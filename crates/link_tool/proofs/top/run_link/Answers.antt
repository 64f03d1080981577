use Rattle.std.proofs.Common.{sym, subst}
use Rattle.named_files.proofs.ContentLemmas.{of_words_as}
use Rattle.link_tool.specs.Statuses.{IsFault}
use Rattle.link_tool.proofs.AnswerLemmas.{answer_status}
use Rattle.link_tool.proofs.top.run_link.Goals as goal

pub returns-in-Ok-clause-answer : goal.returns-in-Ok-clause-answer
returns-in-Ok-clause-answer g c = λ works. of_words_as (λ contents a. record { wrote = a.written; leaves = λ played. a.rack.leaves played }) c.in-Ok.ensures.answers

pub returns-in-Ok-clause-read : goal.returns-in-Ok-clause-read
returns-in-Ok-clause-read g c = λ e. absurd (answer_status c.in-Ok.ensures.answers.holds.written.answer (subst IsFault (sym e) tt))

pub returns-in-Ok-clause-due : goal.returns-in-Ok-clause-due
returns-in-Ok-clause-due g c = λ e. absurd (answer_status c.in-Ok.ensures.answers.holds.written.answer (subst IsFault (sym e) tt))

pub returns-in-Ok-clause-write : goal.returns-in-Ok-clause-write
returns-in-Ok-clause-write g c = λ e. absurd (answer_status c.in-Ok.ensures.answers.holds.written.answer (subst IsFault (sym e) tt))

pub returns-in-Ok-clause-front : goal.returns-in-Ok-clause-front
returns-in-Ok-clause-front g c = λ e. absurd (answer_status c.in-Ok.ensures.answers.holds.written.answer (subst IsFault (sym e) tt))

pub returns-in-Ok-clause-memory : goal.returns-in-Ok-clause-memory
returns-in-Ok-clause-memory g c = λ e. absurd (answer_status c.in-Ok.ensures.answers.holds.written.answer (subst IsFault (sym e) tt))
