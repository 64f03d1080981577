use Rattle.std.proofs.Common.{◌≡◌, ◌++◌, length}
use Rattle.board_text.specs.Lines.{words_of, texts}
use Rattle.board_text.proofs.lines.words_of.Given as goal

abbrev pub invariant-words : goal.invariant-words
invariant-words l = texts l.words.items ++ words_of l.rest ≡ words_of l.line

abbrev pub decreases-words : goal.decreases-words
decreases-words l = length l.rest
