use Rattle.std.proofs.Common.{◌-ℤ◌, negsuc, refl}
use Rattle.meaning_laws.proofs.BitLemmas.{has_both, has_either, has_just_one, has_turned, one_with_bits}
use Rattle.meaning_laws.proofs.laws.values.operators_of_integers_go_bit_by_bit.Goals as goal

pub returns : goal.returns
returns c = record {
  both = has_both;
  either = has_either;
  just_one = has_just_one;
  turned = λ a fits. record { number = negsuc 0 -ℤ a; is = refl; holds = has_turned a fits };
  one = one_with_bits;
}
