use Rattle.std.proofs.Common.{◌≡◌, ◌≤◌, ◌-◌, length, drop}
use Rattle.dev_card.specs.Reports.{are_ones}
use Rattle.dev_card.specs.Sound.{card_in}
use Rattle.chain_sim.specs.Reports.{cell_in}
use Rattle.chain_sim.proofs.report.is_ones.Given as goal

abbrev pub invariant-up : goal.invariant-up
invariant-up g l = record {
  rest : are_ones (cell_in (card_in (g.D.Device.fitted l.device)) l.cell) ≡ are_ones (drop l.at (cell_in (card_in (g.D.Device.fitted l.device)) l.cell));
  inside : l.at ≤ l.len;
  end : l.len ≡ length (cell_in (card_in (g.D.Device.fitted l.device)) l.cell);
}

abbrev pub decreases-up : goal.decreases-up
decreases-up g l = l.len - l.at
