use Rattle.std.proofs.Common.{◌≡◌, ◌<◌, ◌-◌, ◌/◌, ◌%◌, ◌^◌, ℕ, length, get_or}
use Rattle.bit_list.specs.Hexadecimal.{hex_digit}
use Rattle.bit_list.proofs.hexadecimal.word_digits.Given as goal

abbrev pub invariant-loop-k : goal.invariant-loop-k
invariant-loop-k l = record {
  count : length l.digits ≡ 16;
  done : (j : ℕ) → j < l.k → get_or l.digits j 0 ≡ hex_digit (l.word / 16 ^ (15 - j) % 16);
}
