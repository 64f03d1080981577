use Rattle.std.proofs.Common.{rules, w64, SFits}
use Rattle.std.specs.Fmt.{signed_decimal}
use Rattle.std.proofs.lemmas.Int.{to_z-of_z}
use Rattle.tool_io.proofs.PutLemmas.{put_then, put_then_front, front_with, put_failed}
use Rattle.tool_io.proofs.texts.put_labelled.Goals as goal

pub returns-in_err-put : goal.returns-in_err-put
returns-in_err-put g c =
    put_failed c.from_residual.result c.from_residual.ensures.0 (front_with (signed_decimal c.args.n) c.in_err-put.ensures.put)

pub returns-in_err-put_int : goal.returns-in_err-put_int
returns-in_err-put_int g c =
    let fits : SFits w64 c.args.n = search rules in
    put_failed c.from_residual-in_err-put_int.result c.from_residual-in_err-put_int.ensures.0
    (put_then_front c.in_ok-put.ensures.put (rw (to_z-of_z w64 c.args.n fits) at c.in_err-put_int.ensures.put))

pub returns : goal.returns
returns g c =
    let fits : SFits w64 c.args.n = search rules in
    (put_then c.in_ok-put.ensures.put (rw (to_z-of_z w64 c.args.n fits) at c.in_ok-put_int.ensures.put))
