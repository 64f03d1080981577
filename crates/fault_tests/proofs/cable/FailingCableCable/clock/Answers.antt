use Rattle.std.proofs.Common.{[], inl, refl}
use Rattle.std.proofs.lemmas.Option.{none-some}
use Rattle.scan_paths.proofs.Parts.{clock_failed}
use Rattle.fault_tests.proofs.cable.FailingCableCable.clock.Goals as goal

pub returns-in_err-count-clause-clocked : goal.returns-in_err-count-clause-clocked
returns-in_err-count-clause-clocked g c =
    clock_failed c.args.tms c.args.tdi c.from_residual.result c.from_residual.ensures.0 (inl (record {
      clocks = [];
      made = tt;
      went_in = refl;
      seen = λ cs t. absurd (none-some cs t);
      cards = λ cs now t u. absurd (none-some cs t);
      untold = λ t. refl;
    }))
