use Rattle.std.specs.Prelude.{IsSome}
use Rattle.dev_card.specs.Sound.{card_in}
use Rattle.device_tests.proofs.blocks.clock_along.Given as goal

abbrev pub invariant-loop-byte : goal.invariant-loop-byte
invariant-loop-byte g l = IsSome (card_in (g.D.Device.fitted l.device))
