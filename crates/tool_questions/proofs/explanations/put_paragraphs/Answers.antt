use Rattle.std.proofs.Common.{map, []}
use Rattle.std.proofs.lemmas.List.{length-map}
use Rattle.tool_io.specs.Texts.{word_line}
use Rattle.tool_io.proofs.PutLemmas.{puts_item, puts_item_front, put_failed}
use Rattle.program_reports.proofs.ListLemmas.{all_put}
use Rattle.tool_questions.proofs.explanations.put_paragraphs.Goals as goal

pub returns-in_err-put_paragraph : goal.returns-in_err-put_paragraph
returns-in_err-put_paragraph g c =
    put_failed c.from_residual.result c.from_residual.ensures.0
    (puts_item_front word_line (map (λ line. line.now) c.args.paragraphs.now) c.loop-i.i []
    (rw (length-map c.args.paragraphs.now (λ line. line.now)) c.loop-i-test.true)
    c.loop-i.invariant.puts c.in_err-put_paragraph.ensures)

pub loop-i-preserved : goal.loop-i-preserved
loop-i-preserved g c = record {
  puts = puts_item word_line (map (λ line. line.now) c.args.paragraphs.now) c.loop-i.i []
      (rw (length-map c.args.paragraphs.now (λ line. line.now)) c.loop-i-test.true)
      c.loop-i.invariant.puts c.in_ok-put_paragraph.ensures;
}

pub returns : goal.returns
returns g c =
    all_put word_line (map (λ line. line.now) c.args.paragraphs.now) c.loop-i.i
    (rw (length-map c.args.paragraphs.now (λ line. line.now)) c.loop-i-test.false) c.loop-i.invariant.puts
