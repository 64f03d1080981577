use Rattle.std.proofs.Common.{string_bytes, Global}
use Rattle.named_files.specs.Words.{no_board, no_file, too_many}
use Rattle.named_files.proofs.WordLemmas.{both_words, three_words}
use Rattle.named_files.proofs.words.read_words.Goals as goal

pub returns-in_default-clause-usage : goal.returns-in_default-clause-usage
returns-in_default-clause-usage c = no_board c.in_default.ensures.none

pub returns-in_default-path_at-clause-usage : goal.returns-in_default-path_at-clause-usage
returns-in_default-path_at-clause-usage c = no_file c.in-Some.board.now c.in-Some.ensures.some c.in_default-path_at.ensures.none

pub returns-then-words-gt2-clause-usage : goal.returns-then-words-gt2-clause-usage
returns-then-words-gt2-clause-usage c =
    too_many c.in-Some.board.now c.in-Some-path_at.file.now c.in-Some.ensures.some c.in-Some-path_at.ensures.some
    (three_words (string_bytes {Z = Global}) c.args.words.now c.if-words-gt2.true)

pub returns-clause-request : goal.returns-clause-request
returns-clause-request c = record {
  board = c.in-Some.ensures.some;
  file = c.in-Some-path_at.ensures.some;
  two = both_words c.args.key.now (string_bytes {Z = Global}) c.args.words.now c.in-Some-path_at.file.now c.in-Some-path_at.ensures.some c.if-words-gt2.false;
}
