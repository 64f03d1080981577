use Rattle.std.proofs.Common.{◌∙◌, arith}
use Rattle.dev_kinds.proofs.CommonBits.{common_more, common_end}
use Rattle.dev_kinds.proofs.bit_copies.keep_common.Goals as goal

pub loop-done-preserved : goal.loop-done-preserved
loop-done-preserved c = record {
  within = omega arith;
  way = common_more c.args.bits.now c.args.other.now c.loop-done.bits c.set_word.new.self c.loop-done.done
      c.min-n.result c.word.result c.word-in-loop-done.result c.requires (omega arith)
      c.loop-done.invariant.way c.word.ensures.bits c.word-in-loop-done.ensures.bits c.set_word.ensures.bits;
  length = c.set_word.ensures.length ∙ c.loop-done.invariant.length;
}

pub returns : goal.returns
returns c = common_end c.args.bits.now c.args.other.now c.loop-done.bits c.loop-done.done c.requires (omega arith) c.loop-done.invariant.way
