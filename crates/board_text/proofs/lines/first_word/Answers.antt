use Rattle.std.proofs.lemmas.List.{take_rest}
use Rattle.board_text.proofs.WordLemmas.{some_word, no_word}
use Rattle.board_text.proofs.lines.first_word.Goals as goal

pub returns-clause-some : goal.returns-clause-some
returns-clause-some c =
    some_word c.args.line.now _ _ _ c.blanks_len.result c.word_len.result c.blanks_len.ensures.place (take_rest c.args.line.now c.blanks_len.result) c.word_len.ensures.place
    c.split_at.ensures.front c.split_at.ensures.back

pub returns-clause-none : goal.returns-clause-none
returns-clause-none c =
    no_word c.args.line.now _ _ _ c.blanks_len.result c.word_len.result c.blanks_len.ensures.place (take_rest c.args.line.now c.blanks_len.result) c.word_len.ensures.place
    c.split_at.ensures.front c.split_at.ensures.back
