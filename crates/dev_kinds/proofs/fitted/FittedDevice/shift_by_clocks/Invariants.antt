use Rattle.std.proofs.Common.{◌≡◌, ◌<◌, ◌+◌, ◌-◌, ◌*◌, ◌^◌}
use Rattle.dev_card.specs.Card.{Card}
use Rattle.dev_card.specs.Blocks.{card_after_block, card_block}
use Rattle.dev_kinds.specs.DataRegisters.{card_with}
use Rattle.dev_kinds.proofs.fitted.FittedDevice.shift_by_clocks.Given as goal

abbrev pub invariant-loop-i : goal.invariant-loop-i
invariant-loop-i g l =
    let now : Card = card_with l.self.logic (g.R.DataRegisters.contents l.self.registers) in
    let first : Card = card_with l.fn.self.logic (g.R.DataRegisters.contents l.fn.self.registers) in
    record {
      below : l.seen < 2 ^ l.i;
      card : card_after_block now l.rest (l.n - l.i) l.last ≡ card_after_block first l.tdi l.n l.last;
      tdo : l.seen + 2 ^ l.i * card_block now l.rest (l.n - l.i) l.last ≡ card_block first l.tdi l.n l.last;
    }
