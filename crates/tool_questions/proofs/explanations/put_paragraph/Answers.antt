use Rattle.std.proofs.Common.{[], sym, ◌∙◌}
use Rattle.std.proofs.Math.ListN.{get_or-map}
use Rattle.tool_questions.proofs.explanations.put_paragraph.Goals as goal

pub returns : goal.returns
returns g c =
    let e = c.as_bytes.ensures.value ∙ sym (get_or-map (λ line. line.now) c.args.paragraphs.now c.args.i (record { ref_ptr = (0, 0); now = [] })) in
    rw e at c.put_word_line.ensures
