use Rattle.std.proofs.Common.{◌≤◌, length, take}
use Rattle.bit_list.specs.Hexadecimal.{all_hex_digits}
use Rattle.dev_card.specs.Sound.{card_in}
use Rattle.chain_sim.specs.Reports.{cell_in, PutsBut}
use Rattle.chain_sim.proofs.report.put_cell.Given as goal

abbrev pub invariant-down : goal.invariant-down
invariant-down g l = record {
  inside : l.left ≤ length (cell_in (card_in (g.D.Device.fitted l.device)) l.cell);
  puts : PutsBut g.K.Sink (all_hex_digits (cell_in (card_in (g.D.Device.fitted l.device)) l.cell)) l.fn.out
      (all_hex_digits (take l.left (cell_in (card_in (g.D.Device.fitted l.device)) l.cell))) l.out;
}

abbrev pub decreases-down : goal.decreases-down
decreases-down g l = l.left
