use Rattle.padded_plays.proofs.Firsts.{none_if_quiet, first_or_quiet}
use Rattle.padded_plays.proofs.laws.a_play_is_quiet_or_has_a_first_deed_that_is_not.Goals as goal

pub returns : goal.returns
returns c = record { none = λ program chosen n run q f. none_if_quiet program chosen run n q f; some = λ program chosen n run. first_or_quiet program chosen run n }
