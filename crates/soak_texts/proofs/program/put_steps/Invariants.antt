use Rattle.std.proofs.Common.{◌≡◌, ◌++◌}
use Rattle.soak_texts.specs.Steps.{state_after_steps}
use Rattle.soak_texts.specs.Programs.{lines_of_steps}
use Rattle.soak_texts.proofs.program.put_steps.Given as goal

abbrev pub invariant-loop-done : goal.invariant-loop-done
invariant-loop-done l = record {
  state : l.draws.state ≡ state_after_steps l._done l.fn.draws.state;
  lines : l.out.items ≡ l.fn.out.items ++ lines_of_steps l._done l.bits l.fn.draws.state;
}
