use Rattle.std.proofs.Common.{◌∙◌, arith, sym}
use Rattle.std.proofs.lemmas.List.{take_rest, length-drop}
use Rattle.stapl_lexer.proofs.RunLemmas.{blank_more}
use Rattle.stapl_lexer.proofs.run.blank_len.Goals as goal

pub blanks-preserved : goal.blanks-preserved
blanks-preserved c =
    let within = rw take_rest at c.segment_len-at.ensures.within in
    record {
      within = omega (arith, within, length-drop c.blanks.at c.args.bytes.now);
      blank = blank_more c.args.bytes.now c.blanks.at c.segment_len-at.result c.blanks.invariant.blank
          (rw take_rest at c.segment_len-at.ensures.segment) (sym c.is_blank_start.ensures ∙ c.if-is_blank_start.true);
    }
