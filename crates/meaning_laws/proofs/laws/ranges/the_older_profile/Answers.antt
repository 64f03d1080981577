use Rattle.meaning_laws.proofs.RangePartLemmas.{profiles_agree, one_reversed, no_index}
use Rattle.meaning_laws.proofs.laws.ranges.the_older_profile.Goals as goal

pub returns : goal.returns
returns c = record { agree = profiles_agree; reversed = one_reversed; outside = no_index }
