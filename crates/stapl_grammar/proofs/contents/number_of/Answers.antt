use Rattle.std.proofs.Common.{arith}
use Rattle.stapl_grammar.proofs.ContentLemmas.{number_more}
use Rattle.stapl_grammar.proofs.contents.number_of.Goals as goal

pub loop-digit-preserved : goal.loop-digit-preserved
loop-digit-preserved c = record {
  number = number_more c.args.digits.now c.loop-digit.digit-index c.loop-digit.number c.unwrap-value.result _ _ _
      (omega arith) c.loop-digit.invariant.number c.to_digit.ensures.value c.unwrap-value.ensures c.from.ensures;
  below = omega arith;
}
