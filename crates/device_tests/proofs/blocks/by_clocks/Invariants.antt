use Rattle.std.specs.Prelude.{IsSome}
use Rattle.dev_card.specs.Sound.{card_in}
use Rattle.device_tests.proofs.blocks.by_clocks.Given as goal

abbrev pub invariant-loop-i : goal.invariant-loop-i
invariant-loop-i g l = IsSome (card_in (g.D.Device.fitted l.device))
