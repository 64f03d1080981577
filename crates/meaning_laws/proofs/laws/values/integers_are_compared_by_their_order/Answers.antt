use Rattle.std.proofs.Common.{refl, not}
use Rattle.std.specs.Int.RustNames.{int_lt, int_le}
use Rattle.std.specs.Ordering.{int_eq}
use Rattle.meaning_laws.proofs.OrderLemmas.{below_so, at_most_so, at_least_so, equal_so, apart_so}
use Rattle.meaning_laws.proofs.laws.values.integers_are_compared_by_their_order.Goals as goal

pub returns : goal.returns
returns c = record {
  less = λ a b. record { bit = int_lt a b; is = refl; holds = below_so a b };
  at_most = λ a b. record { bit = int_le a b; is = refl; holds = at_most_so a b };
  greater = λ a b. record { bit = int_lt b a; is = refl; holds = below_so b a };
  at_least = λ a b. record { bit = int_le b a; is = refl; holds = at_least_so a b };
  equal = λ a b. record { bit = int_eq a b; is = refl; holds = equal_so a b };
  not_equal = λ a b. record { bit = not (int_eq a b); is = refl; holds = apart_so a b };
}
