use Rattle.padded_plays.proofs.SameTexts.{text_of_run}
use Rattle.padded_plays.proofs.laws.a_quiet_play_of_a_run_has_the_text_of_its_devices.Goals as goal

pub returns : goal.returns
returns c = text_of_run
