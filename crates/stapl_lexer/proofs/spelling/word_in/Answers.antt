use Rattle.std.proofs.Common.{◌∙◌, sym}
use Rattle.stapl_lexer.specs.ReservedWords.{spells_word}
use Rattle.stapl_lexer.proofs.SpellingLemmas.{row_found, row_passed, no_row_left}
use Rattle.stapl_lexer.proofs.spelling.word_in.Goals as goal

pub returns-then-spells_word : goal.returns-then-spells_word
returns-then-spells_word c =
    sym (c.loop-word.invariant ∙ row_found (λ word. spells_word word c.args.own.now) c.args.words.now c.loop-word.word-index _ c.loop-word-test.true
    (sym c.spells_word.ensures ∙ c.if-spells_word.true))

pub loop-word-preserved : goal.loop-word-preserved
loop-word-preserved c =
    c.loop-word.invariant ∙ row_passed (λ word. spells_word word c.args.own.now) c.args.words.now c.loop-word.word-index _ c.loop-word-test.true (sym c.spells_word.ensures ∙ c.if-spells_word.false)

pub returns : goal.returns
returns c = sym (c.loop-word.invariant ∙ no_row_left (λ word. spells_word word c.args.own.now) c.args.words.now c.loop-word.word-index c.loop-word-test.false)
