use Rattle.std.proofs.Common.{ap, sym, ◌∙◌, List, Bool, length, replicate, set, arith}
use Rattle.std.proofs.lemmas.List.Edits.{map_over_more}
use Rattle.dev_kinds.proofs.memory.fill_words.Goals as goal

pub loop-i-preserved : goal.loop-i-preserved
loop-i-preserved c =
    let now = c.loop-i.words in
    let i = c.loop-i.i in
    ap (set now i) c.fill_bits.ensures ∙ ap (λ (word : List Bool). set now i (replicate (length word) c.args.bit)) (sym c.index-words-i.is)
    ∙ map_over_more (λ (word : List Bool). replicate
    (length word) c.args.bit) c.args.words.now now i c.index-words-i.result
    (omega arith) c.loop-i.invariant c.index-words-i.is
