use Rattle.std.proofs.Common.{drop}
use Rattle.dev_card.specs.Reports.{registers_text}
use Rattle.dev_card.specs.Sound.{card_in}
use Rattle.chain_sim.specs.Reports.{cells_in, PutsBut}
use Rattle.chain_sim.proofs.report.put_registers.Given as goal

abbrev pub invariant-loop-i : goal.invariant-loop-i
invariant-loop-i g l = record {
  puts : PutsBut g.K.Sink (registers_text l.registers (cells_in (card_in (g.D.Device.fitted l.device)))) l.fn.out
      (registers_text (drop l.i l.registers) (drop l.i (cells_in (card_in (g.D.Device.fitted l.device))))) l.out;
}
