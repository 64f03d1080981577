use Rattle.scans_tool.proofs.WordLemmas.{asked_or_refused, one_asked, one_refused, not_both}
use Rattle.scans_tool.proofs.laws.words_ask_for_a_play_or_are_refused.Goals as goal

pub returns-clause-each : goal.returns-clause-each
returns-clause-each c = asked_or_refused

pub returns-clause-one_play : goal.returns-clause-one_play
returns-clause-one_play c = one_asked

pub returns-clause-one_word : goal.returns-clause-one_word
returns-clause-one_word c = one_refused

pub returns-clause-not_both : goal.returns-clause-not_both
returns-clause-not_both c = not_both
