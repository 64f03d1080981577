use Rattle.std.proofs.Common.{refl}
use Rattle.bit_list.specs.Integers.{bits_of_int}
use Rattle.stapl_syntax.specs.Trees.{int, literal, whole, range}
use Rattle.stapl_meaning.specs.Values.{value_of}
use Rattle.meaning_laws.proofs.ArrayValueLemmas.{integer_with, has_own_bits, of_whole, of_range, of_integer}
use Rattle.meaning_laws.proofs.BitLemmas.{bits_length}
use Rattle.meaning_laws.proofs.laws.values.an_array_and_an_integer_have_the_same_bits.Goals as goal

pub returns : goal.returns
returns c = record {
  literal = λ look variables kind bits. integer_with (value_of look variables kind (int (literal bits))) bits refl;
  whole = λ look variables kind name bits e.
      integer_with (value_of look variables kind (int (whole name))) bits (of_whole look variables kind name bits e);
  range = λ look variables kind name first second x y bits d e f.
      integer_with (value_of look variables kind (int (range name first second))) bits
      (of_range look variables kind name first second x y bits d e f);
  to_bits = λ look variables a z fits. (bits_of_int z, refl, bits_length z, has_own_bits z fits);
  back = of_integer;
}
