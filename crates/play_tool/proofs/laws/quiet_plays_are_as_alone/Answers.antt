use Rattle.play_tool.proofs.AloneLemmas.{answers_alone}
use Rattle.play_tool.proofs.laws.quiet_plays_are_as_alone.Goals as goal

pub returns : goal.returns
returns c = λ words contents_of q text status a. (answers_alone q).to text status a
