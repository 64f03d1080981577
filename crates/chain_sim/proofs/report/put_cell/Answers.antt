use Rattle.std.proofs.Common.{rules, ◌/◌, ◌-◌, ◌*◌, ℕ, take, refl, arith}
use Rattle.base.specs.Bits.{low_bits}
use Rattle.bit_list.specs.Hexadecimal.{all_hex_digits}
use Rattle.dev_card.specs.Sound.{card_in}
use Rattle.bit_list.proofs.HexDigits.{word_fits, digits_down, none_left, all_left}
use Rattle.tool_io.proofs.PutLemmas.{put_failed}
use Rattle.chain_sim.specs.Reports.{cell_in}
use Rattle.chain_sim.proofs.PutParts.{nothing_put, part_put, part_failed, all_put}
use Rattle.chain_sim.proofs.report.put_cell.Goals as goal

pub down-init : goal.down-init
down-init g c =
    let bits = cell_in (card_in (g.D.Device.fitted c.args.device.now)) c.args.cell in
    let len : ℕ = c.length_of-left.result in
    record {
      inside = omega arith;
      puts = nothing_put (all_hex_digits bits) c.args.out.now (all_hex_digits (take len bits)) c.requires.whole (all_left len bits c.length_of-left.ensures);
    }

pub put_hex-requires-clause-fits : goal.put_hex-requires-clause-fits
put_hex-requires-clause-fits g c =
    let bits = cell_in (card_in (g.D.Device.fitted c.args.device.now)) c.args.cell in
    let left : ℕ = c.down.left in
    let low : ℕ = (left - 1) / 64 * 64 in
    word_fits low (left - low) c.word_of.result bits (omega (arith, c.down.invariant.inside)) c.word_of.ensures

pub down-preserved : goal.down-preserved
down-preserved g c =
    let bits = cell_in (card_in (g.D.Device.fitted c.args.device.now)) c.args.cell in
    let left : ℕ = c.down.left in
    let low : ℕ = (left - 1) / 64 * 64 in
    let inside = c.down.invariant.inside in
    record {
      inside = omega arith;
      puts = part_put (all_hex_digits bits) (all_hex_digits (take left bits))
          (all_hex_digits (low_bits (left - low) c.word_of.result)) (all_hex_digits (take low bits))
          (digits_down left low c.word_of.result bits (omega arith) inside (omega arith) c.word_of.ensures)
          c.down.invariant.puts c.in_ok-put_hex.ensures;
    }

pub returns-in_err-put_hex : goal.returns-in_err-put_hex
returns-in_err-put_hex g c =
    let bits = cell_in (card_in (g.D.Device.fitted c.args.device.now)) c.args.cell in
    let left : ℕ = c.down.left in
    let low : ℕ = (left - 1) / 64 * 64 in
    put_failed c.from_residual.result c.from_residual.ensures.0
    (part_failed (all_hex_digits bits) (all_hex_digits (take left bits))
    (all_hex_digits (low_bits (left - low) c.word_of.result)) (all_hex_digits (take low bits))
    (digits_down left low c.word_of.result bits (omega arith) c.down.invariant.inside
    (omega arith) c.word_of.ensures) c.down.invariant.puts c.in_err-put_hex.ensures)

pub returns : goal.returns
returns g c =
    let bits = cell_in (card_in (g.D.Device.fitted c.args.device.now)) c.args.cell in
    all_put (all_hex_digits bits) (all_hex_digits (take c.down.left bits)) (none_left c.down.left bits (omega arith)) c.down.invariant.puts
