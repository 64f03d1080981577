use Rattle.print_tool.proofs.WordLemmas.{named_or_refused}
use Rattle.print_tool.proofs.EveryAnswer.{words_answered}
use Rattle.print_tool.proofs.laws.words_are_answered.Goals as goal

pub returns : goal.returns
returns c = λ words bytes. let a = words_answered words bytes (named_or_refused words) in (a.text, a.status, a.answer)
