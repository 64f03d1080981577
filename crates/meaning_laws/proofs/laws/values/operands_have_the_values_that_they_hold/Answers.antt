use Rattle.std.proofs.Common.{refl}
use Rattle.meaning_laws.proofs.OperandLemmas.{integer_held, bit_held, integer_at, bit_at}
use Rattle.meaning_laws.proofs.laws.values.operands_have_the_values_that_they_hold.Goals as goal

pub returns : goal.returns
returns c = record {
  number = λ look variables z. refl;
  bits = λ look variables. (refl, refl);
  integer = integer_held;
  boolean = bit_held;
  of_integers = integer_at;
  of_bits = bit_at;
}
