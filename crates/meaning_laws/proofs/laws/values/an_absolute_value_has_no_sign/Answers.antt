use Rattle.std.proofs.Common.{refl}
use Rattle.std.specs.Int.{int_wrap}
use Rattle.meaning_laws.proofs.laws.values.an_absolute_value_has_no_sign.Goals as goal

pub returns-clause-wraps : goal.returns-clause-wraps
unfolding int_wrap
returns-clause-wraps c = refl
