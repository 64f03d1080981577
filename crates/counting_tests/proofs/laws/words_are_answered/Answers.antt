use Rattle.counting_tests.proofs.WordLemmas.{named_or_none}
use Rattle.counting_tests.proofs.EveryAnswer.{words_answered}
use Rattle.counting_tests.proofs.laws.words_are_answered.Goals as goal

pub returns : goal.returns
returns c = λ words bytes. words_answered words bytes (named_or_none words) (c.every_text_is_a_board_or_has_a_fault.ensures bytes)
