use Rattle.std.proofs.Common.{[], ◌∷◌, rules, w64, SFits}
use Rattle.std.proofs.lemmas.Int.{to_z-of_z}
use Rattle.tool_io.proofs.PutLemmas.{put_then, put_then_front, front_with, put_failed}
use Rattle.tool_io.proofs.texts.put_number_line.Goals as goal

pub returns-in_err-put_labelled : goal.returns-in_err-put_labelled
returns-in_err-put_labelled g c =
    let fits : SFits w64 c.args.n = search rules in
    put_failed c.from_residual.result c.from_residual.ensures.0
    (front_with (10 ∷ []) (rw (to_z-of_z w64 c.args.n fits) at c.in_err-put_labelled.ensures))

pub returns-in_err-put : goal.returns-in_err-put
returns-in_err-put g c =
    let fits : SFits w64 c.args.n = search rules in
    put_failed c.from_residual-in_err-put.result c.from_residual-in_err-put.ensures.0
    (put_then_front (rw (to_z-of_z w64 c.args.n fits) at c.in_ok-put_labelled.ensures) c.in_err-put.ensures.put)

pub returns : goal.returns
returns g c =
    let fits : SFits w64 c.args.n = search rules in
    (put_then (rw (to_z-of_z w64 c.args.n fits) at c.in_ok-put_labelled.ensures) c.in_ok-put.ensures.put)
