use Rattle.std.proofs.Common.{refl, arith}
use Rattle.std.proofs.lemmas.Bool.{false≢true}
use Rattle.board_text.proofs.OpcodeLemmas.{apart_more, not_apart, all_apart}
use Rattle.board_text.proofs.opcodes.are_apart.Goals as goal

pub returns-then-contains : goal.returns-then-contains
returns-then-contains c =
    (λ never. absurd (false≢true never), λ apart. absurd (not_apart c.args.opcodes.now c.loop-i.i c.contains.result c.loop-i-test.true c.contains.ensures.value c.if-contains.true apart))

pub loop-i-preserved : goal.loop-i-preserved
loop-i-preserved c = apart_more c.args.opcodes.now c.loop-i.i c.contains.result c.loop-i-test.true c.loop-i.invariant c.contains.ensures.value c.if-contains.false

pub returns : goal.returns
returns c = (λ _. all_apart c.args.opcodes.now c.loop-i.i (omega arith) (omega arith) c.loop-i.invariant, λ _. refl)
