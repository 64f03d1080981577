use Rattle.base.specs.Bits.{low_bits}
use Rattle.bit_list.specs.Hexadecimal.{all_hex_digits}
use Rattle.tool_io.proofs.PutLemmas.{put_then, put_then_front, front_with, put_failed}
use Rattle.written_cable.proofs.line_writer.put_number_text.Goals as goal

pub returns-in_err-put : goal.returns-in_err-put
returns-in_err-put g c =
    put_failed c.from_residual.result c.from_residual.ensures.0
    (front_with (all_hex_digits (low_bits c.args.len c.args.number)) c.in_err-put.ensures.put)

pub returns-in_err-put_hex : goal.returns-in_err-put_hex
returns-in_err-put_hex g c =
    put_failed c.from_residual-in_err-put_hex.result c.from_residual-in_err-put_hex.ensures.0
    (put_then_front c.in_ok-put.ensures.put c.in_err-put_hex.ensures)

pub returns : goal.returns
returns g c = put_then c.in_ok-put.ensures.put c.in_ok-put_hex.ensures
