use Rattle.std.proofs.Common.{◌≤◌}
use Rattle.bit_list.specs.Hexadecimal.{all_hex_digits}
use Rattle.stapl_meaning.specs.Values.{span_bits}
use Rattle.machine_memory.specs.Arrays.{span_in}
use Rattle.written_cable.specs.HexTexts.{PutsDigits}
use Rattle.written_cable.proofs.line_writer.put_digits.Given as goal

abbrev pub invariant-down : goal.invariant-down
invariant-down g l = record {
  below : l.left ≤ l.span.count;
  puts : PutsDigits g.K.Sink (span_bits (span_in l.span) l.bits) (all_hex_digits (span_bits (span_in l.span) l.bits)) l.fn.out l.left l.out;
}

abbrev pub decreases-down : goal.decreases-down
decreases-down g l = l.left
