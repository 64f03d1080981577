use Rattle.std.proofs.Common.{◌≡◌, drop}
use Rattle.stapl_lexer.specs.ReservedWords.{spells_word}
use Rattle.stapl_lexer.specs.Terminals.{terminal_in}
use Rattle.stapl_lexer.proofs.SpellingLemmas.{rows_in}
use Rattle.stapl_lexer.proofs.spelling.word_in.Given as goal

abbrev pub invariant-loop-word : goal.invariant-loop-word
invariant-loop-word l =
    terminal_in (λ word. spells_word word l.own) (rows_in l.words)
    ≡ terminal_in (λ word. spells_word word l.own) (rows_in (drop l.word-index l.words))
