use Rattle.stapl_meaning.specs.Values.{span_bits}
use Rattle.machine_memory.specs.Arrays.{span_in}
use Rattle.bit_list.specs.Hexadecimal.{all_hex_digits}
use Rattle.tool_io.proofs.PutLemmas.{put_then, put_then_front, front_with, put_failed}
use Rattle.written_cable.proofs.line_writer.put_inside.Goals as goal

pub returns-in_err-put : goal.returns-in_err-put
returns-in_err-put g c =
    put_failed c.from_residual.result c.from_residual.ensures.0
    (front_with (all_hex_digits (span_bits (span_in c.args.span) c.args.bits.now)) c.in_err-put.ensures.put)

pub returns-in_err-put_digits : goal.returns-in_err-put_digits
returns-in_err-put_digits g c =
    put_failed c.from_residual-in_err-put_digits.result c.from_residual-in_err-put_digits.ensures.0
    (put_then_front c.in_ok-put.ensures.put c.in_err-put_digits.ensures)

pub returns : goal.returns
returns g c = put_then c.in_ok-put.ensures.put c.in_ok-put_digits.ensures
