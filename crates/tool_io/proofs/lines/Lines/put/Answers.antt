use Rattle.std.proofs.Common.{length, ◌<◌, ◌∙◌, refl, arith}
use Rattle.std.proofs.lemmas.Grind.{common_steps}
use Rattle.std.proofs.lemmas.List.{take_rest}
use Rattle.tool_io.proofs.BytesLemmas.{regathered_length}
use Rattle.tool_io.proofs.PutLemmas.{put_failed, put_then, puts_gathered, part_more, part_front}
use Rattle.tool_io.proofs.lines.Lines.put.Goals as goal

pub returns-in_err-make_room-clause-put : goal.returns-in_err-make_room-clause-put
returns-in_err-make_room-clause-put g c =
    put_failed c.from_residual.result c.from_residual.ensures.0 (part_front c.turns.invariant.puts c.in_err-make_room.ensures.put)

pub turns-preserved : goal.turns-preserved
turns-preserved g c = record {
  puts = rw take_rest (part_more c.gather-n.result c.turns.invariant.puts
      (put_then c.in_ok-make_room.ensures.put (puts_gathered c.in_ok-make_room.ensures.put.whole refl refl c.gather-n.ensures.gathers)));
  gathers = λ h.
      let before = c.turns.invariant.gathers h in
      let some : 0 < length c.turns.rest.now = grind (arith, common_steps) in
      let same = c.make_room.ensures.same (omega (arith, before.1, h, some)) in
      (same.1 ∙ before.0, rw (take_rest, c.gather-n.ensures.gathers, regathered_length, same.2) (before.1));
}
