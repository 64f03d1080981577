use Rattle.std.specs.Prelude.{codes, pos, [], ◌∷◌}
use Rattle.tool_io.specs.Texts.{labelled, number_line}
use Rattle.tool_io.proofs.PutLemmas.{put_then, put_then_front, front_with, put_failed}
use Rattle.account_lines.proofs.lines.put_sums.Goals as goal

pub returns-in_err-put_count : goal.returns-in_err-put_count
returns-in_err-put_count g c =
    put_failed c.from_residual.result c.from_residual.ensures.0
    (front_with (number_line (codes " drscans ") (pos c.args.sums.dr_scans))
    (front_with (labelled (codes " irscans ") (pos c.args.sums.ir_scans))
    (front_with (labelled (codes " usec ") (pos c.args.sums.usec))
    (front_with (labelled (codes " clocks ") (pos c.args.sums.clocks))
    c.in_err-put_count.ensures))))

pub returns-in_err-put_size : goal.returns-in_err-put_size
returns-in_err-put_size g c =
    put_failed c.from_residual-in_err-put_size.result c.from_residual-in_err-put_size.ensures.0
    (front_with (number_line (codes " drscans ") (pos c.args.sums.dr_scans))
    (front_with (labelled (codes " irscans ") (pos c.args.sums.ir_scans))
    (front_with (labelled (codes " usec ") (pos c.args.sums.usec))
    (put_then_front c.in_ok-put_count.ensures c.in_err-put_size.ensures))))

pub returns-in_err-put_size-2 : goal.returns-in_err-put_size-2
returns-in_err-put_size-2 g c =
    put_failed c.from_residual-in_err-put_size-2.result c.from_residual-in_err-put_size-2.ensures.0
    (front_with (number_line (codes " drscans ") (pos c.args.sums.dr_scans))
    (front_with (labelled (codes " irscans ") (pos c.args.sums.ir_scans))
    (put_then_front (put_then c.in_ok-put_count.ensures c.in_ok-put_size.ensures) c.in_err-put_size-2.ensures)))

pub returns-in_err-put_size-3 : goal.returns-in_err-put_size-3
returns-in_err-put_size-3 g c =
    put_failed c.from_residual-in_err-put_size-3.result c.from_residual-in_err-put_size-3.ensures.0
    (front_with (number_line (codes " drscans ") (pos c.args.sums.dr_scans))
    (put_then_front (put_then (put_then c.in_ok-put_count.ensures c.in_ok-put_size.ensures) c.in_ok-put_size-2.ensures) c.in_err-put_size-3.ensures))

pub returns-in_err-put_size_line : goal.returns-in_err-put_size_line
returns-in_err-put_size_line g c =
    put_failed c.from_residual-in_err-put_size_line.result c.from_residual-in_err-put_size_line.ensures.0
    (put_then_front (put_then (put_then (put_then c.in_ok-put_count.ensures c.in_ok-put_size.ensures) c.in_ok-put_size-2.ensures) c.in_ok-put_size-3.ensures) c.in_err-put_size_line.ensures)

pub returns : goal.returns
returns g c = put_then (put_then (put_then (put_then c.in_ok-put_count.ensures c.in_ok-put_size.ensures) c.in_ok-put_size-2.ensures) c.in_ok-put_size-3.ensures) c.in_ok-put_size_line.ensures
