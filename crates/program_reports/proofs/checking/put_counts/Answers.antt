use Rattle.std.proofs.Common.{codes, map, sym}
use Rattle.std.proofs.lemmas.List.{length-map}
use Rattle.stapl_syntax.specs.Trees.{stmt_tree}
use Rattle.program_reports.specs.declared.checking.StatementKind.TheVariants.{Action}
use Rattle.program_reports.specs.Checks.{labelled_count, block_counts}
use Rattle.tool_io.proofs.PutLemmas.{put_then, put_then_front, front_with, put_failed, put_then_put}
use Rattle.program_reports.proofs.checking.put_counts.Goals as goal

pub returns-in_err-put_size : goal.returns-in_err-put_size
returns-in_err-put_size g c =
    let program = map stmt_tree c.args.program.now in
    let as_many = sym (length-map c.args.program.now stmt_tree) in
    put_failed c.from_residual.result c.from_residual.ensures.0
    (front_with (block_counts program)
    (front_with (labelled_count (codes " actions ") Action program) (rw as_many at c.in_err-put_size.ensures)))

pub returns-in_err-put_count_of : goal.returns-in_err-put_count_of
returns-in_err-put_count_of g c =
    let as_many = sym (length-map c.args.program.now stmt_tree) in
    put_failed c.from_residual-in_err-put_count_of.result c.from_residual-in_err-put_count_of.ensures.0
    (front_with (block_counts (map stmt_tree c.args.program.now))
    (put_then_front (rw as_many at c.in_ok-put_size.ensures) c.in_err-put_count_of.ensures))

pub returns : goal.returns
returns g c =
    let as_many = sym (length-map c.args.program.now stmt_tree) in
    put_then_put _ _ c.put_block_counts.result
    (put_then (rw as_many at c.in_ok-put_size.ensures) c.in_ok-put_count_of.ensures)
    c.put_block_counts.ensures
