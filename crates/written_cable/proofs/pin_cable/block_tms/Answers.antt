use Rattle.std.proofs.lemmas.Nat.Bits.{bit_at-zero}
use Rattle.written_cable.proofs.BlockLemmas.{marked_tms, words_of_block}
use Rattle.written_cable.proofs.pin_cable.block_tms.Goals as goal

pub returns-then-last : goal.returns-then-last
returns-then-last c = λ tdi. words_of_block c.args.n _ tdi c.args.last
    (λ i h. rw c.if-last.true (marked_tms c.args.n i c.requires.some c.requires.most h))

pub returns-else-last : goal.returns-else-last
returns-else-last c = λ tdi. words_of_block c.args.n 0 tdi c.args.last (λ i h. rw c.if-last.false (bit_at-zero i))
