use Rattle.drive_laws.proofs.AlikePlays.{play_alike}
use Rattle.drive_laws.proofs.laws.a_play_hears_nothing_but_its_clocks.Goals as goal

pub returns : goal.returns
returns c = play_alike
