use Rattle.base.specs.Bits.{low_bits}
use Rattle.bit_list.specs.Hexadecimal.{all_hex_digits}
use Rattle.tool_io.proofs.PutLemmas.{put_then, put_then_front, front_with, put_failed, puts_same, front_same}
use Rattle.chain_sim.proofs.ReportCards.{instruction_fits, instruction_shown}
use Rattle.chain_sim.proofs.report.put_instruction.Goals as goal

pub put_hex-requires-clause-most : goal.put_hex-requires-clause-most
put_hex-requires-clause-most g c =
    (instruction_fits (g.D.Device.fitted c.args.device.now) c.args.desc.now c.instruction-opcode.result c.requires.desc c.instruction-opcode.ensures).1

pub put_hex-requires-clause-fits : goal.put_hex-requires-clause-fits
put_hex-requires-clause-fits g c =
    (instruction_fits (g.D.Device.fitted c.args.device.now) c.args.desc.now c.instruction-opcode.result c.requires.desc c.instruction-opcode.ensures).0

pub returns-in_err-put_name : goal.returns-in_err-put_name
returns-in_err-put_name g c =
    let opcode = c.instruction-opcode in
    let shown = instruction_shown (g.D.Device.fitted c.args.device.now) c.args.desc.now opcode.result c.requires.desc opcode.ensures in
    put_failed c.from_residual.result c.from_residual.ensures.0
    (front_same shown (front_with (all_hex_digits (low_bits c.args.desc.now.ir_len c.instruction-opcode.result)) c.in_err-put_name.ensures))

pub returns-in_err-put_hex : goal.returns-in_err-put_hex
returns-in_err-put_hex g c =
    let opcode = c.instruction-opcode in
    let shown = instruction_shown (g.D.Device.fitted c.args.device.now) c.args.desc.now opcode.result c.requires.desc opcode.ensures in
    put_failed c.from_residual-in_err-put_hex.result c.from_residual-in_err-put_hex.ensures.0
    (front_same shown (put_then_front c.in_ok-put_name.ensures c.in_err-put_hex.ensures))

pub returns : goal.returns
returns g c =
    let opcode = c.instruction-opcode in
    let shown = instruction_shown (g.D.Device.fitted c.args.device.now) c.args.desc.now opcode.result c.requires.desc opcode.ensures in
    puts_same shown (put_then c.in_ok-put_name.ensures c.in_ok-put_hex.ensures)
