use Rattle.drive_laws.proofs.LinkedPlays.{hears, run_answers, session_answers_are}
use Rattle.drive_laws.proofs.laws.a_link_answers_the_play_on_its_board.Goals as goal

pub returns : goal.returns
returns c = record { hears = hears; run = run_answers; session = session_answers_are }
