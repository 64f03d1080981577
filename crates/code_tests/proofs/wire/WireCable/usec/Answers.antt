use Rattle.std.proofs.Common.{inl, refl}
use Rattle.scan_paths.proofs.Parts.{signal_failed}
use Rattle.code_tests.proofs.wire.WireCable.usec.Goals as goal

pub returns-in_err-count-clause-signalled : goal.returns-in_err-count-clause-signalled
returns-in_err-count-clause-signalled c =
    signal_failed c.from_residual.result c.from_residual.ensures.0 (record { made = inl tt; cards = refl })
