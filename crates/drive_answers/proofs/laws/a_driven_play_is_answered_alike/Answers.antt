use Rattle.drive_answers.proofs.DrivenPlans.{words_answered_alike}
use Rattle.drive_answers.proofs.laws.a_driven_play_is_answered_alike.Goals as goal

pub returns : goal.returns
returns c = words_answered_alike
