use Rattle.wave_tool.proofs.OneAnswer.{every_words}
use Rattle.wave_tool.proofs.laws.words_are_answered.Goals as goal

pub returns : goal.returns
returns c = every_words
