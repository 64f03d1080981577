use Rattle.std.proofs.Common.{◌∙◌, sym, ap, subst}
use Rattle.std.specs.List.{list_any}
use Rattle.stapl_lexer.specs.Depth.{IsTooDeep}
use Rattle.stapl_lexer.specs.PieceFaults.{is_long_word}
use Rattle.stapl_lexer.proofs.ReasonLemmas.{long_word_first, large_number_first, deep_first, bad_token_first, good_tokens}
use Rattle.stapl_lexer.proofs.token_fault.reason_of_tokens.Goals as goal

pub returns-then-has_long_word : goal.returns-then-has_long_word
returns-then-has_long_word c = λ text piece r.
    long_word_first text piece c.args.lexed.now.tokens.items c.args.lexed.now.good c.args.lexed.now.large r
    (ap (list_any is_long_word) (sym c.deref.ensures.value) ∙ sym c.has_long_word.ensures ∙ c.if-has_long_word.true)

pub returns-then-lexed : goal.returns-then-lexed
returns-then-lexed c = λ text piece r.
    large_number_first text piece c.args.lexed.now.tokens.items c.args.lexed.now.good c.args.lexed.now.large r
    (ap (list_any is_long_word) (sym c.deref.ensures.value) ∙ sym c.has_long_word.ensures ∙ c.if-has_long_word.false) c.if-lexed.true

pub returns-then-is_too_deep : goal.returns-then-is_too_deep
returns-then-is_too_deep c = λ text piece r.
    deep_first text piece c.args.lexed.now.tokens.items c.args.lexed.now.good c.args.lexed.now.large r
    (ap (list_any is_long_word) (sym c.deref.ensures.value) ∙ sym c.has_long_word.ensures ∙ c.if-has_long_word.false) c.if-lexed.false
    (subst IsTooDeep c.deref-2.ensures.value (c.is_too_deep.ensures.yes c.if-is_too_deep.true))

pub returns-then-not-lexed : goal.returns-then-not-lexed
returns-then-not-lexed c = λ text piece r.
    bad_token_first text piece c.args.lexed.now.tokens.items c.args.lexed.now.good c.args.lexed.now.large r
    (ap (list_any is_long_word) (sym c.deref.ensures.value) ∙ sym c.has_long_word.ensures ∙ c.if-has_long_word.false) c.if-lexed.false
    (λ deep. c.is_too_deep.ensures.no c.if-is_too_deep.false (subst IsTooDeep (sym c.deref-2.ensures.value) deep)) c.if-not-lexed.true

pub returns : goal.returns
returns c = λ text piece r.
    good_tokens text piece c.args.lexed.now.tokens.items c.args.lexed.now.good c.args.lexed.now.large r
    (ap (list_any is_long_word) (sym c.deref.ensures.value) ∙ sym c.has_long_word.ensures ∙ c.if-has_long_word.false) c.if-lexed.false
    (λ deep. c.is_too_deep.ensures.no c.if-is_too_deep.false (subst IsTooDeep (sym c.deref-2.ensures.value) deep)) c.if-not-lexed.false
