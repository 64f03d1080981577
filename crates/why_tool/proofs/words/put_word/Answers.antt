use Rattle.std.specs.Option.{option_map}
use Rattle.tool_io.proofs.PutLemmas.{front_with, put_failed, put_then_put}
use Rattle.why_tool.specs.Texts.{shown_or_missing}
use Rattle.why_tool.proofs.words.put_word.Goals as goal

pub returns-in_err-put_count : goal.returns-in_err-put_count
returns-in_err-put_count g c =
    put_failed c.from_residual.result c.from_residual.ensures.0
    (front_with (shown_or_missing (option_map (λ word. word.now) c.args.word)) c.in_err-put_count.ensures)

pub returns : goal.returns
returns g c = put_then_put _ _ c.put_word_or_none.result c.in_ok-put_count.ensures c.put_word_or_none.ensures
