use Rattle.std.proofs.Common.{rules, ◌+◌, drop, refl, get_or, [], arith}
use Rattle.bit_list.specs.Hexadecimal.{all_hex_digits}
use Rattle.dev_card.specs.Reports.{named_text, registers_text}
use Rattle.dev_card.specs.Sound.{card_in}
use Rattle.tool_io.proofs.PutLemmas.{put_failed}
use Rattle.chain_sim.specs.Reports.{cells_in}
use Rattle.chain_sim.proofs.PutParts.{nothing_put, part_put, part_failed, all_put}
use Rattle.chain_sim.proofs.ReportCards.{register_more, registers_end}
use Rattle.chain_sim.proofs.report.put_registers.Goals as goal

pub loop-i-init : goal.loop-i-init
loop-i-init g c =
    let whole = registers_text c.args.registers.now (cells_in (card_in (g.D.Device.fitted c.args.device.now))) in
    record {
      puts = nothing_put whole c.args.out.now whole c.requires.whole refl;
    }

pub put_named_cell-requires-clause-cell : goal.put_named_cell-requires-clause-cell
put_named_cell-requires-clause-cell g c = omega (arith, c.requires.cells)

pub loop-i-preserved : goal.loop-i-preserved
loop-i-preserved g c =
    let cells = cells_in (card_in (g.D.Device.fitted c.args.device.now)) in
    let registers = c.args.registers.now in
    let i = c.loop-i.i in
    record {
      puts = part_put (registers_text registers cells) (registers_text (drop i registers) (drop i cells))
          (named_text c.bytes.result.now (all_hex_digits (get_or cells i [])))
          (registers_text (drop (i + 1) registers) (drop (i + 1) cells))
          (register_more registers cells i c.index-registers-i.result c.bytes.result.now (omega arith) c.requires.cells c.bytes.ensures.value)
          c.loop-i.invariant.puts c.in_ok-put_named_cell.ensures;
    }

pub returns-in_err-put_named_cell : goal.returns-in_err-put_named_cell
returns-in_err-put_named_cell g c =
    let cells = cells_in (card_in (g.D.Device.fitted c.args.device.now)) in
    let registers = c.args.registers.now in
    let i = c.loop-i.i in
    put_failed c.from_residual.result c.from_residual.ensures.0
    (part_failed (registers_text registers cells) (registers_text (drop i registers) (drop i cells))
    (named_text c.bytes.result.now (all_hex_digits (get_or cells i [])))
    (registers_text (drop (i + 1) registers) (drop (i + 1) cells))
    (register_more registers cells i c.index-registers-i.result c.bytes.result.now (omega arith) c.requires.cells c.bytes.ensures.value)
    c.loop-i.invariant.puts c.in_err-put_named_cell.ensures)

pub returns : goal.returns
returns g c =
    let cells = cells_in (card_in (g.D.Device.fitted c.args.device.now)) in
    let registers = c.args.registers.now in
    all_put (registers_text registers cells) (registers_text (drop c.loop-i.i registers) (drop c.loop-i.i cells))
    (registers_end registers cells c.loop-i.i (omega arith)) c.loop-i.invariant.puts
