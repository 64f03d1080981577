use Rattle.std.specs.List.{flat_map}
use Rattle.std.proofs.Common.{map}
use Rattle.tool_io.specs.Texts.{word_line}
use Rattle.tool_io.proofs.PutLemmas.{front_with, put_failed, put_then_put}
use Rattle.why_tool.proofs.told.put_told.Goals as goal

pub returns-in_err-put_front : goal.returns-in_err-put_front
returns-in_err-put_front g c =
    put_failed c.from_residual.result c.from_residual.ensures.0
    (front_with (flat_map word_line (map (λ line. line.now) c.args.said.now)) c.in_err-put_front.ensures)

pub returns : goal.returns
returns g c = put_then_put _ _ c.put_paragraphs.result c.in_ok-put_front.ensures c.put_paragraphs.ensures
