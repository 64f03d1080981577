use Rattle.std.proofs.Common.{◌≡◌, drop, map}
use Rattle.stapl_syntax.specs.ProgramValues.{trees_of}
use Rattle.quiet_tool.proofs.AnswerLemmas.{Continues}
use Rattle.quiet_tool.proofs.actions.answer_actions.Given as goal

-- what is left to answer, after what is answered, gives the whole
abbrev pub invariant-loop-name : goal.invariant-loop-name
invariant-loop-name g l =
    record {
      continues : Continues l.program.text (trees_of l.program) l.task.request.now l.task.devices.now l.names (drop l.name-index l.names) l.text.items l.status;
      kinds : map (λ b. (goal.Device-dyn g (b.vtable, b.value)).kind_of b.value) l.rack.items
          ≡ map (λ b. (goal.Device-dyn g (b.vtable, b.value)).kind_of b.value) l.fn.rack.items;
    }
