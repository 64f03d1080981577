use Rattle.std.proofs.Common.{◌≡◌, ℕ, Bool, List, ◌-◌, ◌*◌, ◌/◌, ◌++◌, take, refl, sym, arith}
use Rattle.base.specs.Bits.{low_bits}
use Rattle.bit_list.specs.Hexadecimal.{all_hex_digits}
use Rattle.bit_list.proofs.HexDigits.{word_fits, digits_down}
use Rattle.tool_io.proofs.PutLemmas.{put_failed}
use Rattle.stapl_meaning.specs.Values.{span_bits}
use Rattle.machine_memory.specs.Arrays.{span_in}
use Rattle.machine_memory.proofs.SpanLemmas.{length_span}
use Rattle.written_cable.proofs.DigitLemmas.{no_word, word_more, word_front, digits_put}
use Rattle.written_cable.proofs.line_writer.put_digits.Goals as goal

pub down-init : goal.down-init
down-init g c =
    let span = c.args.span in let bits = c.args.bits.now in
    record {
      below = omega arith;
      puts = no_word (span_bits (span_in span) bits) c.args.out.now span.count c.requires.whole (sym (length_span span bits c.requires.inside));
    }

pub put_hex-requires-clause-fits : goal.put_hex-requires-clause-fits
put_hex-requires-clause-fits g c =
    let span = c.args.span in let bits = c.args.bits.now in let left : ℕ = c.down.left in let at : ℕ = (left - 1) / 64 * 64 in
    word_fits at (left - at) c.part_word.result (span_bits (span_in span) bits)
    (omega (arith, c.down.invariant.below, length_span span bits c.requires.inside)) c.part_word.ensures

pub down-preserved : goal.down-preserved
down-preserved g c =
    let span = c.args.span in let bits = c.args.bits.now in let list : List Bool = span_bits (span_in span) bits in
    let left : ℕ = c.down.left in let at : ℕ = (left - 1) / 64 * 64 in
    record {
      below = omega (arith, c.down.invariant.below);
      puts = word_more list left at (all_hex_digits (low_bits (left - at) c.part_word.result))
          (digits_down left at c.part_word.result list (omega arith)
          (omega (arith, c.down.invariant.below, length_span span bits c.requires.inside)) (omega arith) c.part_word.ensures)
          c.down.invariant.puts c.in_ok-put_hex.ensures;
    }

pub returns-in_err-put_hex : goal.returns-in_err-put_hex
returns-in_err-put_hex g c =
    let span = c.args.span in let bits = c.args.bits.now in let list : List Bool = span_bits (span_in span) bits in
    let left : ℕ = c.down.left in let at : ℕ = (left - 1) / 64 * 64 in
    put_failed c.from_residual.result c.from_residual.ensures.0
    (word_front list left at (all_hex_digits (low_bits (left - at) c.part_word.result))
    (digits_down left at c.part_word.result list (omega arith)
    (omega (arith, c.down.invariant.below, length_span span bits c.requires.inside)) (omega arith) c.part_word.ensures)
    c.down.invariant.puts c.in_err-put_hex.ensures)

pub returns : goal.returns
returns g c = digits_put (span_bits (span_in c.args.span) c.args.bits.now) c.down.left (omega arith) c.down.invariant.puts
