use Rattle.std.proofs.Common.{◌∙◌, ◌+◌, ap, ℕ, sym, drop}
use Rattle.stapl_lexer.proofs.DepthLemmas.{open_at, open_at_end, open_found, opens_many, brackets_found, no_brackets}
use Rattle.stapl_lexer.proofs.depth.has_open_brackets.Goals as goal

pub returns-then-depth-gt-MOST_OPEN-clause-yes : goal.returns-then-depth-gt-MOST_OPEN-clause-yes
returns-then-depth-gt-MOST_OPEN-clause-yes c = λ _.
    brackets_found c.args.tokens.now
    (c.loop-token.invariant.same ∙ open_at c.loop-token.depth c.loop-token.token-index c.args.tokens.now _ c.loop-token.invariant.few c.loop-token-test.true
    ∙ ap (λ (n : ℕ). opens_many n (drop (c.loop-token.token-index + 1) c.args.tokens.now)) (sym c.open_after-depth.ensures)
    ∙ open_found c.open_after-depth.result (drop (c.loop-token.token-index + 1) c.args.tokens.now) c.if-depth-gt-MOST_OPEN.true)

pub returns-clause-no : goal.returns-clause-no
returns-clause-no c = λ _. no_brackets c.args.tokens.now
    (c.loop-token.invariant.same ∙ open_at_end c.loop-token.depth c.loop-token.token-index c.args.tokens.now c.loop-token.invariant.few c.loop-token-test.false)
