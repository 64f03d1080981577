use Rattle.effect_laws.proofs.Later.{goes_by}
use Rattle.effect_laws.proofs.laws.scans.scans_go_by_what_was_set.Goals as goal

pub returns : goal.returns
returns c = goes_by
