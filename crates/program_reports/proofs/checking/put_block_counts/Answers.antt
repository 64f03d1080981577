use Rattle.std.proofs.Common.{[], ◌∷◌, codes, map}
use Rattle.stapl_syntax.specs.Trees.{stmt_tree}
use Rattle.program_reports.specs.declared.checking.StatementKind.TheVariants.{Data}
use Rattle.program_reports.specs.Checks.{labelled_count}
use Rattle.tool_io.proofs.PutLemmas.{put_then, put_then_front, front_with, put_failed, put_then_put}
use Rattle.program_reports.proofs.checking.put_block_counts.Goals as goal

pub returns-in_err-put_count_of : goal.returns-in_err-put_count_of
returns-in_err-put_count_of g c =
    put_failed c.from_residual.result c.from_residual.ensures.0
    (front_with (10 ∷ [])
    (front_with (labelled_count (codes " data ") Data (map stmt_tree c.args.program.now)) c.in_err-put_count_of.ensures))

pub returns-in_err-put_count_of-2 : goal.returns-in_err-put_count_of-2
returns-in_err-put_count_of-2 g c =
    put_failed c.from_residual-in_err-put_count_of-2.result c.from_residual-in_err-put_count_of-2.ensures.0
    (front_with (10 ∷ [])
    (put_then_front c.in_ok-put_count_of.ensures c.in_err-put_count_of-2.ensures))

pub returns : goal.returns
returns g c =
    put_then_put _ _ c.put.result (put_then c.in_ok-put_count_of.ensures c.in_ok-put_count_of-2.ensures)
    c.put.ensures.put
