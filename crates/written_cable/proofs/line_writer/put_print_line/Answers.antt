use Rattle.std.proofs.Common.{[], ◌∷◌}
use Rattle.tool_io.specs.Texts.{escaped}
use Rattle.tool_io.proofs.PutLemmas.{put_then, put_then_front, front_with, put_failed}
use Rattle.written_cable.proofs.line_writer.put_print_line.Goals as goal

pub returns-in_err-put : goal.returns-in_err-put
returns-in_err-put g c =
    put_failed c.from_residual.result c.from_residual.ensures.0
    (front_with (10 ∷ []) (front_with (escaped c.args.bytes.now) c.in_err-put.ensures.put))

pub returns-in_err-put_escaped : goal.returns-in_err-put_escaped
returns-in_err-put_escaped g c =
    put_failed c.from_residual-in_err-put_escaped.result c.from_residual-in_err-put_escaped.ensures.0
    (front_with (10 ∷ []) (put_then_front c.in_ok-put.ensures.put c.in_err-put_escaped.ensures))

pub returns-in_err-put-2 : goal.returns-in_err-put-2
returns-in_err-put-2 g c =
    put_failed c.from_residual-in_err-put-2.result c.from_residual-in_err-put-2.ensures.0
    (put_then_front (put_then c.in_ok-put.ensures.put c.in_ok-put_escaped.ensures) c.in_err-put-2.ensures.put)

pub returns : goal.returns
returns g c = put_then (put_then c.in_ok-put.ensures.put c.in_ok-put_escaped.ensures) c.in_ok-put-2.ensures.put
