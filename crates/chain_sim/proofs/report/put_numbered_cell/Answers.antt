use Rattle.std.proofs.Common.{[], ◌∷◌}
use Rattle.bit_list.specs.Hexadecimal.{all_hex_digits}
use Rattle.dev_card.specs.Sound.{card_in}
use Rattle.tool_io.proofs.PutLemmas.{put_then, put_then_front, front_with, put_failed}
use Rattle.chain_sim.specs.Reports.{cell_in}
use Rattle.chain_sim.proofs.report.put_numbered_cell.Goals as goal

pub returns-in_err-put_count : goal.returns-in_err-put_count
returns-in_err-put_count g c =
    let digits = all_hex_digits (cell_in (card_in (g.D.Device.fitted c.args.device.now)) c.args.cell) in
    put_failed c.from_residual.result c.from_residual.ensures.0
    (front_with digits (front_with (61 ∷ []) c.in_err-put_count.ensures))

pub returns-in_err-put : goal.returns-in_err-put
returns-in_err-put g c =
    let digits = all_hex_digits (cell_in (card_in (g.D.Device.fitted c.args.device.now)) c.args.cell) in
    put_failed c.from_residual-in_err-put.result c.from_residual-in_err-put.ensures.0
    (front_with digits (put_then_front c.in_ok-put_count.ensures c.in_err-put.ensures.put))

pub returns-in_err-put_cell : goal.returns-in_err-put_cell
returns-in_err-put_cell g c =
    put_failed c.from_residual-in_err-put_cell.result c.from_residual-in_err-put_cell.ensures.0
    (put_then_front (put_then c.in_ok-put_count.ensures c.in_ok-put.ensures.put) c.in_err-put_cell.ensures)

pub returns : goal.returns
returns g c =
    put_then (put_then c.in_ok-put_count.ensures c.in_ok-put.ensures.put) c.in_ok-put_cell.ensures
