use Rattle.std.specs.Prelude.{codes, pos, [], ◌∷◌}
use Rattle.tool_io.specs.Texts.{labelled}
use Rattle.scan_accounts.specs.AccountTexts.{passage_name}
use Rattle.tool_io.proofs.PutLemmas.{put_then, put_then_front, front_with, put_failed, puts_same, front_same}
use Rattle.account_lines.proofs.lines.put_front.Goals as goal

pub returns-in_err-put_count : goal.returns-in_err-put_count
returns-in_err-put_count g c =
    put_failed c.from_residual.result c.from_residual.ensures.0
    (front_with (labelled (codes " ") (pos c.args.at.count))
    (front_with (passage_name c.args.turn.scans c.args.at.ir)
    (front_with (codes " ")
    (front_with (labelled (codes " line ") (pos c.args.turn.line))
    c.in_err-put_count.ensures))))

pub returns-in_err-put_count-2 : goal.returns-in_err-put_count-2
returns-in_err-put_count-2 g c =
    put_failed c.from_residual-in_err-put_count-2.result c.from_residual-in_err-put_count-2.ensures.0
    (front_with (labelled (codes " ") (pos c.args.at.count))
    (front_with (passage_name c.args.turn.scans c.args.at.ir)
    (front_with (codes " ")
    (put_then_front c.in_ok-put_count.ensures c.in_err-put_count-2.ensures))))

pub returns-in_err-put : goal.returns-in_err-put
returns-in_err-put g c =
    put_failed c.from_residual-in_err-put.result c.from_residual-in_err-put.ensures.0
    (front_with (labelled (codes " ") (pos c.args.at.count))
    (front_with (passage_name c.args.turn.scans c.args.at.ir)
    (put_then_front (put_then c.in_ok-put_count.ensures c.in_ok-put_count-2.ensures) c.in_err-put.ensures.put)))

pub returns-in_err-put-2 : goal.returns-in_err-put-2
returns-in_err-put-2 g c =
    put_failed c.from_residual-in_err-put-2.result c.from_residual-in_err-put-2.ensures.0
    (front_with (labelled (codes " ") (pos c.args.at.count))
    (put_then_front (put_then (put_then c.in_ok-put_count.ensures c.in_ok-put_count-2.ensures) c.in_ok-put.ensures.put) (front_same c.name.ensures c.in_err-put-2.ensures.put)))

pub returns-in_err-put_count-3 : goal.returns-in_err-put_count-3
returns-in_err-put_count-3 g c =
    put_failed c.from_residual-in_err-put_count-3.result c.from_residual-in_err-put_count-3.ensures.0
    (put_then_front (put_then (put_then (put_then c.in_ok-put_count.ensures c.in_ok-put_count-2.ensures) c.in_ok-put.ensures.put) (puts_same c.name.ensures c.in_ok-put-2.ensures.put)) c.in_err-put_count-3.ensures)

pub returns : goal.returns
returns g c = put_then (put_then (put_then (put_then c.in_ok-put_count.ensures c.in_ok-put_count-2.ensures) c.in_ok-put.ensures.put) (puts_same c.name.ensures c.in_ok-put-2.ensures.put)) c.in_ok-put_count-3.ensures
