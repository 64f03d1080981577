use Rattle.std.proofs.Common.{◌∙◌, ap, arith}
use Rattle.stapl_syntax.specs.Parts.{comma}
use Rattle.canonical_text.specs.PrintedTokens.{Seen}
use Rattle.canonical_writer.specs.Written.{Written, written}
use Rattle.canonical_writer.proofs.WriterLemmas.{item_first, item_next}
use Rattle.canonical_writer.proofs.writer.Writer.put_list.Goals.{then-i-gt0+in_ok-put_mark, else-i-gt0}
use Rattle.canonical_writer.proofs.writer.Writer.put_list.Goals as goal

pub loop-i-preserved : goal.loop-i-preserved
loop-i-preserved g c =
    let put = c.in_ok-put_on.ensures in
    let item = c.index-items-i.result in
    elim c.if-i-gt0.branch [
      | then-i-gt0+in_ok-put_mark w ↦
          item_next g.T.ListItem.tokens (Seen comma) c.loop-i.i c.args.items.now item c.loop-i-test.true c.index-items-i.is c.loop-i.self _ c.put_on.new.writer c.loop-i.invariant
          w.if-i-gt0.true (put ∙ ap (λ (v : Written). written v (g.T.ListItem.tokens item)) (w.self-is ∙ w.in_ok-put_mark.ensures))
      | else-i-gt0 w ↦
          item_first g.T.ListItem.tokens (Seen comma) c.loop-i.i c.args.items.now item c.loop-i-test.true c.index-items-i.is c.loop-i.self _ c.put_on.new.writer c.loop-i.invariant
          (omega (arith, w.if-i-gt0.false)) (put ∙ ap (λ (v : Written). written v (g.T.ListItem.tokens item)) w.self-is)
    ]
