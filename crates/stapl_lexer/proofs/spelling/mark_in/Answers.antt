use Rattle.std.proofs.Common.{◌∙◌, sym, ap, ℕ, List}
use Rattle.std.specs.Str.{bytes_eq}
use Rattle.stapl_lexer.proofs.SpellingLemmas.{row_found, row_passed, no_row_left}
use Rattle.stapl_lexer.proofs.spelling.mark_in.Goals as goal

pub returns-then-eq : goal.returns-then-eq
returns-then-eq c =
    sym (c.loop-mark.invariant ∙ row_found (λ mark. bytes_eq mark c.args.own.now) c.args.marks.now c.loop-mark.mark-index _ c.loop-mark-test.true
    (ap (λ (v : List ℕ). bytes_eq v c.args.own.now) (sym c.as_bytes.ensures.value) ∙ sym c.eq.ensures ∙ c.if-eq.true))

pub loop-mark-preserved : goal.loop-mark-preserved
loop-mark-preserved c =
    c.loop-mark.invariant ∙ row_passed (λ mark. bytes_eq mark c.args.own.now) c.args.marks.now c.loop-mark.mark-index _ c.loop-mark-test.true
    (ap (λ (v : List ℕ). bytes_eq v c.args.own.now) (sym c.as_bytes.ensures.value) ∙ sym c.eq.ensures ∙ c.if-eq.false)

pub returns : goal.returns
returns c = sym (c.loop-mark.invariant ∙ no_row_left (λ mark. bytes_eq mark c.args.own.now) c.args.marks.now c.loop-mark.mark-index c.loop-mark-test.false)
