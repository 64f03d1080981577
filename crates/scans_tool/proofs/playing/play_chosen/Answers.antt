use Rattle.scans_tool.proofs.AnswerLemmas.{chosen_said, chosen_failed}
use Rattle.scans_tool.proofs.playing.play_chosen.Goals as goal

pub returns-in_err-ending-clause-says : goal.returns-in_err-ending-clause-says
returns-in_err-ending-clause-says g c = chosen_failed g.K.Sink _ _ _ _ _ _ _ _ c.from_residual.result c.from_residual.ensures.1 c.in_err-ending.ensures.says

pub returns-clause-says : goal.returns-clause-says
returns-clause-says g c = chosen_said c.status_of.ensures c.in_ok-ending.ensures.says
