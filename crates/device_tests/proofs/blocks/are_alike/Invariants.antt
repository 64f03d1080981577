use Rattle.std.specs.Prelude.{IsSome}
use Rattle.dev_card.specs.Sound.{card_in}
use Rattle.device_tests.proofs.blocks.are_alike.Given as goal

abbrev pub invariant-loop-byte : goal.invariant-loop-byte
invariant-loop-byte g l = record {
  own : IsSome (card_in (g.D.Device.fitted l.device));
  twin : IsSome (card_in (g.D.Device.fitted l.twin));
}
