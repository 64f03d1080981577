use Rattle.std.proofs.Common.{◌≡◌, ◌+◌, length, drop}
use Rattle.dev_card.specs.Reports.{words_text}
use Rattle.dev_card.specs.Sound.{card_in}
use Rattle.chain_sim.specs.Reports.{cells_in, PutsBut}
use Rattle.chain_sim.proofs.report.put_words.Given as goal

abbrev pub invariant-loop-number : goal.invariant-loop-number
invariant-loop-number g l = record {
  end : l.number-end + 1 ≡ length (cells_in (card_in (g.D.Device.fitted l.device)));
  puts : PutsBut g.K.Sink (words_text 0 (drop 1 (cells_in (card_in (g.D.Device.fitted l.device))))) l.fn.out
      (words_text l.number (drop (l.number + 1) (cells_in (card_in (g.D.Device.fitted l.device))))) l.out;
}
