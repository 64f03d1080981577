use Rattle.std.proofs.Common.{◌+ℤ◌, ◌-ℤ◌, ◌*ℤ◌, neg_ℤ, refl}
use Rattle.std.specs.Int.{w32, int_wrap}
use Rattle.meaning_laws.proofs.NumberLemmas.{wrapped_so, wrapped_negative, one_left}
use Rattle.meaning_laws.proofs.laws.values.exact_results_wrap_around.Goals as goal

pub returns : goal.returns
returns c = record {
  sum = λ a b. record { number = int_wrap w32 (a +ℤ b); is = refl; holds = wrapped_so (a +ℤ b) };
  difference = λ a b. record { number = int_wrap w32 (a -ℤ b); is = refl; holds = wrapped_so (a -ℤ b) };
  product = λ a b. record { number = int_wrap w32 (a *ℤ b); is = refl; holds = wrapped_so (a *ℤ b) };
  negated = λ a. record { number = int_wrap w32 (neg_ℤ a); is = refl; holds = wrapped_negative a };
  one = one_left;
}
