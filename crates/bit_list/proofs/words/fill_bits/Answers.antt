use Rattle.std.proofs.Common.{arith}
use Rattle.bit_list.proofs.WordMoves.{filled_more}
use Rattle.bit_list.proofs.words.fill_bits.Goals as goal

pub loop-done-preserved : goal.loop-done-preserved
loop-done-preserved c = (
  omega arith,
  filled_more c.args.bit c.args.at c.loop-done.done c.min-len.result c.word_of-word.result c.args.words.now
      c.loop-done.words c.set_word.new.words (omega arith) c.loop-done.invariant.1
      (c.word_of-word.ensures c.min-len.result (omega arith)) c.set_word.ensures,
)
