use Rattle.std.proofs.Common.{refl, sym}
use Rattle.std.proofs.lemmas.List.{append-nil}
use Rattle.soak_texts.specs.Steps.{state_after_steps}
use Rattle.soak_texts.specs.Programs.{lines_of_steps}
use Rattle.soak_texts.proofs.StepLemmas.{lines_more, state_more}
use Rattle.soak_texts.proofs.program.put_steps.Goals as goal

pub loop-done-init : goal.loop-done-init
unfolding state_after_steps lines_of_steps
loop-done-init c = record { state = refl; lines = sym (append-nil c.args.out.now.items) }

pub loop-done-preserved : goal.loop-done-preserved
loop-done-preserved c =
    let n = c.loop-done._done in
    let s = c.args.draws.now.state in
    record {
      state = state_more n s _ _ c.loop-done.invariant.state c.draw_step-step.ensures.state;
      lines = lines_more n c.args.bits s _ _ _ _ c.loop-done.invariant.lines c.loop-done.invariant.state
          (rw c.draw_step-step.ensures.step at c.in_ok-put_step.ensures);
    }
