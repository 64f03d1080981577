use Rattle.padded_plays.proofs.Reasoned.{no_reason, one_reason, deed_decided}
use Rattle.padded_plays.proofs.laws.a_deed_is_quiet_or_has_one_reason.Goals as goal

pub returns : goal.returns
returns c = record { none = no_reason; some = deed_decided; one = one_reason }
