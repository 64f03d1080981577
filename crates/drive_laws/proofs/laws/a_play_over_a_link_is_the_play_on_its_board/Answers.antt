use Rattle.drive_laws.proofs.LinkedPlays.{gone_on_run, gone_on_session}
use Rattle.drive_laws.proofs.laws.a_play_over_a_link_is_the_play_on_its_board.Goals as goal

pub returns : goal.returns
returns c = record { run = gone_on_run; session = gone_on_session }
