use Rattle.drive_answers.proofs.DrivenAnswers.{driven_answer}
use Rattle.drive_answers.proofs.laws.a_play_over_a_link_is_answered_alike.Goals as goal

pub returns : goal.returns
returns c = λ asked contents plays sleeps events ending answers status q.
    driven_answer asked.request contents plays q sleeps events ending answers status
