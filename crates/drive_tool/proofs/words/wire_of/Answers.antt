use Rattle.std.proofs.Common.{string_bytes, Global}
use Rattle.drive_tool.specs.Words.{waits_said, waits_unsaid, no_send, no_receive}
use Rattle.drive_tool.proofs.WordLemmas.{third_word, second_word}
use Rattle.drive_tool.proofs.words.wire_of.Goals as goal

pub returns-in_default-clause-usage : goal.returns-in_default-clause-usage
returns-in_default-clause-usage c = no_send c.in_default.ensures.none

pub returns-in_default-path_at-clause-usage : goal.returns-in_default-path_at-clause-usage
returns-in_default-path_at-clause-usage c = no_receive c.in-Some.send.now c.in-Some.ensures.some c.in_default-path_at.ensures.none

pub returns-in-Some-answer_at-clause-named : goal.returns-in-Some-answer_at-clause-named
returns-in-Some-answer_at-clause-named c = record {
  sends = c.in-Some.ensures.some;
  receives = c.in-Some-path_at.ensures.some;
  waits = waits_said _ c.in-Some-answer_at.ensures.some;
}

pub returns-in-Some-answer_at-clause-within : goal.returns-in-Some-answer_at-clause-within
returns-in-Some-answer_at-clause-within c = third_word (string_bytes {Z = Global}) c.args.words.now _ c.in-Some-answer_at.ensures.some

pub returns-in-None-clause-named : goal.returns-in-None-clause-named
returns-in-None-clause-named c = record {
  sends = c.in-Some.ensures.some;
  receives = c.in-Some-path_at.ensures.some;
  waits = waits_unsaid c.in-None.ensures.none;
}

pub returns-in-None-clause-within : goal.returns-in-None-clause-within
returns-in-None-clause-within c = second_word (string_bytes {Z = Global}) c.args.words.now _ c.in-Some-path_at.ensures.some
