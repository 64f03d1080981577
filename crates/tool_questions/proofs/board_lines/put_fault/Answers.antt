use Rattle.std.specs.List.{flat_map}
use Rattle.tool_io.specs.Texts.{word_line}
use Rattle.tool_io.proofs.PutLemmas.{front_with, put_failed, put_then_put}
use Rattle.tool_questions.specs.Explanations.{board_reason_paragraphs}
use Rattle.tool_questions.proofs.board_lines.put_fault.Goals as goal

pub returns-in_err-put_board_refusal : goal.returns-in_err-put_board_refusal
returns-in_err-put_board_refusal g c =
    put_failed c.from_residual.result c.from_residual.ensures.0
    (front_with (flat_map word_line (board_reason_paragraphs c.args.reason)) c.in_err-put_board_refusal.ensures)

pub returns : goal.returns
returns g c =
    put_then_put _ _ c.put_paragraphs.result c.in_ok-put_board_refusal.ensures (rw c.requires.why at c.put_paragraphs.ensures)
