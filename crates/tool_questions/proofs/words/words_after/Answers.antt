use Rattle.std.proofs.Common.{◌∙◌, ◌∷◌, ◌-◌, map, take, drop, length, string_bytes, Global, sym, ap}
use Rattle.std.proofs.lemmas.Bool.{both_ways}
use Rattle.std.proofs.lemmas.Slice.Eq.{bytes_eq-Decides}
use Rattle.tool_questions.proofs.WordLemmas.{after_first, same_first}
use Rattle.tool_questions.proofs.words.words_after.Goals as goal

pub returns-then-eq-clause-some : goal.returns-then-eq-clause-some
returns-then-eq-clause-some c =
    let words = c.args.words.now in
    after_first (string_bytes {Z = Global}) words c.word-item.result c.in-len1-up.len_at_least c.word-item.is
    ∙ ap (λ w. w ∷ map (string_bytes {Z = Global}) (take (length words - 1) (drop 1 words))) (sym c.as_str.ensures.value ∙ (bytes_eq-Decides c.as_str.result.now c.args.first.now).0 (sym c.eq.ensures ∙ c.if-eq.true))

pub returns-else-eq-clause-none : goal.returns-else-eq-clause-none
returns-else-eq-clause-none c = λ rest e.
    let parts = after_first (string_bytes {Z = Global}) c.args.words.now c.word-item.result c.in-len1-up.len_at_least c.word-item.is in
    both_ways c.eq.result c.if-eq.false (c.eq.ensures ∙ (bytes_eq-Decides c.as_str.result.now c.args.first.now).1 (c.as_str.ensures.value ∙ same_first _ _ _ _ (sym parts ∙ e)))
