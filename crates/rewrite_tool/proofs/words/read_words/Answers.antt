use Rattle.std.proofs.Common.{map, string_bytes, Global}
use Rattle.rewrite_tool.specs.Words.{no_program, no_board, no_place}
use Rattle.rewrite_tool.proofs.WordLemmas.{is_run, more_than_three, three_words, four_words}
use Rattle.rewrite_tool.proofs.words.read_words.Goals as goal

pub returns-in_default-clause-usage : goal.returns-in_default-clause-usage
returns-in_default-clause-usage c = no_program c.in_default.ensures.none

pub returns-in_default-path_at-clause-usage : goal.returns-in_default-path_at-clause-usage
returns-in_default-path_at-clause-usage c = no_board c.in-Some.program.now c.in-Some.ensures.some c.in_default-path_at.ensures.none

pub returns-in_default-named_run-clause-usage : goal.returns-in_default-named_run-clause-usage
returns-in_default-named_run-clause-usage c =
    no_place c.in-Some.program.now c.in-Some-path_at.board.now c.in-Some.ensures.some c.in-Some-path_at.ensures.some c.in_default-named_run.ensures.none

pub returns-then-words-gt3-clause-usage : goal.returns-then-words-gt3-clause-usage
returns-then-words-gt3-clause-usage c =
    more_than_three (map (string_bytes {Z = Global}) c.args.words.now) c.in-Some.program.now c.in-Some-path_at.board.now _
    c.in-Some.ensures.some c.in-Some-path_at.ensures.some c.in-Some-named_run.ensures.some
    (four_words (string_bytes {Z = Global}) c.args.words.now c.if-words-gt3.true)

pub returns-clause-request : goal.returns-clause-request
returns-clause-request c = record {
  program = c.in-Some.ensures.some;
  board = c.in-Some-path_at.ensures.some;
  place = c.in-Some-named_run.ensures.some;
  three = three_words (string_bytes {Z = Global}) c.args.words.now _ c.in-Some-named_run.ensures.some c.if-words-gt3.false;
}

pub returns-clause-run : goal.returns-clause-run
returns-clause-run c = is_run (map (string_bytes {Z = Global}) c.args.words.now) _ c.in-Some-named_run.ensures.some
