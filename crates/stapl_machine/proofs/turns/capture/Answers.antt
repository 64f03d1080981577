use Rattle.std.proofs.Common.{ap, ◌∙◌}
use Rattle.machine_memory.specs.declared.memory.Memory.{Memory}
use Rattle.machine_memory.specs.Acts.{state_in}
use Rattle.machine_memory.specs.Jobs.{job_lands}
use Rattle.written_cable.proofs.DeedLemmas.{capture_failed}
use Rattle.stapl_machine.proofs.turns.capture.Goals as goal

pub returns-in_err-shift_in : goal.returns-in_err-shift_in
returns-in_err-shift_in g c = λ chosen. capture_failed _ _ c.from_residual.result c.from_residual.ensures.0 (c.in_err-shift_in.ensures.did chosen)

pub returns : goal.returns
returns g c = λ chosen.
    let mid = c.shift_in.new.memory in let captured = mid.shifted.captured in let all = c.in_ok-shift_in.ensures.did chosen in
    record {
      captured = record {
        captured = captured;
        did = all.did;
        landed = c.land.ensures chosen ∙ ap (λ (m : Memory). job_lands m.shifted c.args.job (state_in chosen m) captured) c.in_ok-shift_in.ensures.same;
      };
      open_now = all.open_now;
      kept = all.kept;
    }
