use Rattle.std.proofs.Common.{string_bytes, Global}
use Rattle.wave_tool.specs.Words.{no_trace, too_many}
use Rattle.wave_tool.proofs.WordLemmas.{one_word, two_words}
use Rattle.wave_tool.proofs.words.read_words.Goals as goal

pub returns-in_default-clause-usage : goal.returns-in_default-clause-usage
returns-in_default-clause-usage c = no_trace c.in_default.ensures.none

pub returns-then-words-gt1-clause-usage : goal.returns-then-words-gt1-clause-usage
returns-then-words-gt1-clause-usage c =
    too_many c.in-Some.trace.now c.in-Some.ensures.some (two_words (string_bytes {Z = Global}) c.args.words.now c.if-words-gt1.true)

pub returns-clause-request : goal.returns-clause-request
returns-clause-request c = record {
  trace = c.in-Some.ensures.some;
  one = one_word (string_bytes {Z = Global}) c.args.words.now c.in-Some.trace.now c.in-Some.ensures.some c.if-words-gt1.false;
}
