use Rattle.std.proofs.Common.{arith}
use Rattle.dev_card.specs.Sound.{card_in}
use Rattle.chain_sim.specs.Reports.{cell_in}
use Rattle.chain_sim.proofs.ReportOnes.{ones_up, ones_end}
use Rattle.chain_sim.proofs.report.is_ones.Goals as goal

pub returns-then-word_of-ones : goal.returns-then-word_of-ones
returns-then-word_of-ones g c =
    let bits = cell_in (card_in (g.D.Device.fitted c.args.device.now)) c.args.cell in
    let end = c.up.invariant.end in
    ones_end c.up.at c.min-n.result c.word_of.result c.ones.result bits
    (omega arith) c.word_of.ensures c.ones.ensures c.up.invariant.rest c.if-word_of-ones.true

pub up-preserved : goal.up-preserved
up-preserved g c =
    let bits = cell_in (card_in (g.D.Device.fitted c.args.device.now)) c.args.cell in
    let end = c.up.invariant.end in
    record {
      rest = ones_up c.up.at c.min-n.result c.word_of.result c.ones.result bits
          (omega arith) c.word_of.ensures c.ones.ensures c.up.invariant.rest c.if-word_of-ones.false;
      inside = omega arith;
      end = end;
    }
