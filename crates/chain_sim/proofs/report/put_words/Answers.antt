use Rattle.std.proofs.Common.{rules, ◌+◌, drop, refl, get_or, [], arith}
use Rattle.dev_card.specs.Reports.{word_text, words_text}
use Rattle.dev_card.specs.Sound.{card_in}
use Rattle.tool_io.proofs.PutLemmas.{put_failed}
use Rattle.chain_sim.specs.Reports.{cells_in}
use Rattle.chain_sim.proofs.PutParts.{nothing_put, part_put, part_failed, all_put}
use Rattle.chain_sim.proofs.ReportCards.{word_more, words_end}
use Rattle.chain_sim.proofs.report.put_words.Goals as goal

pub loop-number-init : goal.loop-number-init
loop-number-init g c =
    let whole = words_text 0 (drop 1 (cells_in (card_in (g.D.Device.fitted c.args.device.now)))) in
    record {
      end = omega arith;
      puts = nothing_put whole c.args.out.now whole c.requires.whole refl;
    }

pub put_word-requires-clause-cell : goal.put_word-requires-clause-cell
put_word-requires-clause-cell g c = omega (arith, c.loop-number.invariant.end)

pub loop-number-preserved : goal.loop-number-preserved
loop-number-preserved g c =
    let cells = cells_in (card_in (g.D.Device.fitted c.args.device.now)) in
    let a = c.loop-number.number in
    record {
      end = c.loop-number.invariant.end;
      puts = part_put (words_text 0 (drop 1 cells)) (words_text a (drop (a + 1) cells))
          (word_text a (get_or cells (a + 1) [])) (words_text (a + 1) (drop (a + 1 + 1) cells))
          (word_more cells a (omega (arith, c.loop-number.invariant.end))) c.loop-number.invariant.puts c.in_ok-put_word.ensures;
    }

pub returns-in_err-put_word : goal.returns-in_err-put_word
returns-in_err-put_word g c =
    let cells = cells_in (card_in (g.D.Device.fitted c.args.device.now)) in
    let a = c.loop-number.number in
    put_failed c.from_residual.result c.from_residual.ensures.0
    (part_failed (words_text 0 (drop 1 cells)) (words_text a (drop (a + 1) cells))
    (word_text a (get_or cells (a + 1) [])) (words_text (a + 1) (drop (a + 1 + 1) cells))
    (word_more cells a (omega (arith, c.loop-number.invariant.end))) c.loop-number.invariant.puts c.in_err-put_word.ensures)

pub returns : goal.returns
returns g c =
    let cells = cells_in (card_in (g.D.Device.fitted c.args.device.now)) in
    let a = c.loop-number.number in
    (all_put (words_text 0 (drop 1 cells)) (words_text a (drop (a + 1) cells))
    (words_end cells a (omega (arith, c.loop-number.invariant.end))) c.loop-number.invariant.puts)
