use Rattle.std.proofs.Common.{sym, subst}
use Rattle.play_words.specs.Statuses.{IsFault}
use Rattle.tool_frame.proofs.AnswerLemmas.{wrote_within}
use Rattle.tool_frame.proofs.FileLemmas.{of_files_as}
use Rattle.play_tool.specs.NoFaults.{answer_status}
use Rattle.play_tool.proofs.AloneLemmas.{does_as_alone}
use Rattle.play_tool.proofs.CompiledLemmas.{answers_source}
use Rattle.play_tool.proofs.TracedLemmas.{traced_words}
use Rattle.play_tool.proofs.top.run_tool.Goals as goal

pub returns-in-Ok-clause-answer : goal.returns-in-Ok-clause-answer
returns-in-Ok-clause-answer g c = λ works.
    of_files_as (λ contents a. record {
      wrote = a.written;
      leaves = λ playing played. a.left.rack.leaves playing played;
      alone = λ q. does_as_alone q a.written a.left.rack.leaves;
      compiled = λ q. wrote_within (answers_source c.programs_are_typed.ensures q) a.written;
      traced = λ q. traced_words q a.written a.left.rack.leaves;
    }) c.in-Ok.ensures.ran

pub returns-in-Ok-clause-read : goal.returns-in-Ok-clause-read
returns-in-Ok-clause-read g c = λ e. absurd (answer_status c.in-Ok.ensures.ran.holds.written.answer (subst IsFault (sym e) tt))

pub returns-in-Ok-clause-write : goal.returns-in-Ok-clause-write
returns-in-Ok-clause-write g c = λ e. absurd (answer_status c.in-Ok.ensures.ran.holds.written.answer (subst IsFault (sym e) tt))

pub returns-in-Ok-clause-memory : goal.returns-in-Ok-clause-memory
returns-in-Ok-clause-memory g c = λ e. absurd (answer_status c.in-Ok.ensures.ran.holds.written.answer (subst IsFault (sym e) tt))
