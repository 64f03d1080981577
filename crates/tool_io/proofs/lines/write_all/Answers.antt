use Rattle.std.proofs.lemmas.List.{take_rest}
use Rattle.tool_io.proofs.BytesLemmas.{on_err, moves_then_front, moves_more}
use Rattle.tool_io.proofs.CauseLemmas.{kept_then, rose_after, cause_of_rose}
use Rattle.tool_io.proofs.lines.write_all.Goals as goal

pub returns-in_err-n-clause-front : goal.returns-in_err-n-clause-front
returns-in_err-n-clause-front g c =
    on_err c.from_residual.result (moves_then_front c.turns.invariant.moves c.in_err-n.ensures.front)

pub returns-in_err-n-clause-cause : goal.returns-in_err-n-clause-cause
returns-in_err-n-clause-cause g c =
    cause_of_rose c.from_residual.result (kept_then c.turns.invariant.kept c.in_err-n.ensures.cause.kept)
    (rose_after c.turns.invariant.kept c.in_err-n.ensures.cause.failed)

pub turns-preserved : goal.turns-preserved
turns-preserved g c = record {
  moves = rw take_rest (moves_more c.in_ok-n.n c.turns.invariant.moves c.in_ok-n.ensures.taken);
  kept = kept_then c.turns.invariant.kept c.in_ok-n.ensures.cause.kept;
}
