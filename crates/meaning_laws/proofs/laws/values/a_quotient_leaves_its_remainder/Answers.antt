use Rattle.std.proofs.Common.{refl}
use Rattle.meaning_laws.proofs.DivisionLemmas.{division, wraps_round}
use Rattle.meaning_laws.proofs.OneQuotient.{one_division}
use Rattle.meaning_laws.proofs.laws.values.a_quotient_leaves_its_remainder.Goals as goal

pub returns : goal.returns
returns c = record { division = division; wraps = (wraps_round, refl); one = one_division }
