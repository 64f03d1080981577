use Rattle.std.specs.Prelude.{IsSome}
use Rattle.dev_card.specs.Sound.{card_in}
use Rattle.device_tests.proofs.scans.scans.Given as goal

abbrev pub invariant-loop-tms : goal.invariant-loop-tms
invariant-loop-tms g l = IsSome (card_in (g.D.Device.fitted l.device))

abbrev pub invariant-loop-i : goal.invariant-loop-i
invariant-loop-i g l = IsSome (card_in (g.D.Device.fitted l.device))
