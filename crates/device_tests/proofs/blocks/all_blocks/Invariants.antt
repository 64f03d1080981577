use Rattle.std.specs.Prelude.{IsSome}
use Rattle.dev_card.specs.Sound.{card_in}
use Rattle.device_tests.proofs.blocks.all_blocks.Given as goal

abbrev pub invariant-loop-i : goal.invariant-loop-i
invariant-loop-i g l = record {
  own : IsSome (card_in (g.D.Device.fitted l.device));
  twin : IsSome (card_in (g.D.Device.fitted l.twin));
}

abbrev pub invariant-loop-n : goal.invariant-loop-n
invariant-loop-n g l = record {
  own : IsSome (card_in (g.D.Device.fitted l.device));
  twin : IsSome (card_in (g.D.Device.fitted l.twin));
}

abbrev pub invariant-loop-last : goal.invariant-loop-last
invariant-loop-last g l = record {
  own : IsSome (card_in (g.D.Device.fitted l.device));
  twin : IsSome (card_in (g.D.Device.fitted l.twin));
}
