use Rattle.meaning_laws.proofs.DivisionLemmas.{shifted_left, shifted_right, left_outside, right_outside}
use Rattle.meaning_laws.proofs.OneQuotient.{one_rounded}
use Rattle.meaning_laws.proofs.laws.values.shifts_go_by_powers_of_two.Goals as goal

pub returns : goal.returns
returns c = record {
  to_left = shifted_left;
  to_right = shifted_right;
  outside = λ a n out. (left_outside a n out, right_outside a n out);
  one = one_rounded;
}
