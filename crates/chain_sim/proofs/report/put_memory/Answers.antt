use Rattle.std.proofs.Common.{drop}
use Rattle.dev_card.specs.Reports.{words_text}
use Rattle.dev_card.specs.Sound.{card_in}
use Rattle.tool_io.proofs.PutLemmas.{put_then, put_then_front, front_with, put_failed, puts_same, front_same}
use Rattle.chain_sim.specs.Reports.{cells_in}
use Rattle.chain_sim.proofs.ReportCards.{memory_parts}
use Rattle.chain_sim.proofs.report.put_memory.Goals as goal

pub returns-in_err-put_named_cell : goal.returns-in_err-put_named_cell
returns-in_err-put_named_cell g c =
    let cells = cells_in (card_in (g.D.Device.fitted c.args.device.now)) in
    put_failed c.from_residual.result c.from_residual.ensures.0
    (front_same (memory_parts cells c.requires.address) (front_with (words_text 0 (drop 1 cells)) c.in_err-put_named_cell.ensures))

pub returns-in_err-put_words : goal.returns-in_err-put_words
returns-in_err-put_words g c =
    let cells = cells_in (card_in (g.D.Device.fitted c.args.device.now)) in
    put_failed c.from_residual-in_err-put_words.result c.from_residual-in_err-put_words.ensures.0
    (front_same (memory_parts cells c.requires.address) (put_then_front c.in_ok-put_named_cell.ensures c.in_err-put_words.ensures))

pub returns : goal.returns
returns g c =
    let cells = cells_in (card_in (g.D.Device.fitted c.args.device.now)) in
    puts_same (memory_parts cells c.requires.address) (put_then c.in_ok-put_named_cell.ensures c.in_ok-put_words.ensures)
