-- On the bits of parts of arrays, in the order of the parts.
use Rattle.std.proofs.Common.{◌≡◌, ◌≤◌, ℕ, ◌+◌, ◌-◌, Bool, true, false, List, length, take, drop, reverse, refl, sym, ap, subst, ◌∙◌, arith}
use Rattle.std.specs.Prelude.{min, not, if◌then◌else◌}
use Rattle.std.specs.Bool.{beq}
use Rattle.std.proofs.lemmas.List.{drop-drop, drop_at, take_at, take_all, take-take, length-reverse, length-take-le, reverse-append, reverse-reverse}
use Rattle.base.specs.Bits.{number_of}
use Rattle.bit_list.specs.Ranges.{taken, spliced}
use Rattle.bit_list.proofs.Padding.{first_of_first}
use Rattle.bit_list.proofs.Splices.{length_taken, taken_joined, taken_of_first, taken_written, spliced_over}
use Rattle.stapl_meaning.specs.Values.{turned, first_places, span_bits, span_put}
use Rattle.machine_memory.specs.declared.parts.Span.{Span}
use Rattle.machine_memory.specs.Arrays.{span_in, first_bits}

pub length_turned : (falls : Bool) (xs : List Bool) → length (turned falls xs) ≡ length xs
length_turned true xs = length-reverse xs
length_turned false xs = refl

pub length_span : (span : Span) (bits : List Bool) → span.low + span.count ≤ length bits → length (span_bits (span_in span) bits) ≡ span.count
length_span span bits inside = length_turned span.falls (taken span.low span.count bits) ∙ length_taken span.low span.count bits inside

-- the first bits of a part that falls are its highest ones
falling_first : (low count n : ℕ) (bits : List Bool) → n ≤ count → low + count ≤ length bits →
    take n (reverse (taken low count bits)) ≡ reverse (taken (low + (count - n)) n bits)
falling_first low count n bits few inside =
    let high : List Bool = taken (low + (count - n)) n bits in let rest : List Bool = taken low (count - n) bits in
    let whole : count - n + n ≡ count = omega arith in
    ap (λ k. take n (reverse (taken low k bits))) (sym whole)
    ∙ ap (λ z. take n (reverse z)) (sym (taken_joined low (count - n) n bits))
    ∙ ap (take n) (reverse-append rest high)
    ∙ take_at (reverse high) (reverse rest) n (length-reverse high ∙ length_taken (low + (count - n)) n bits (omega arith))

-- the bits of a part from one of its places on
falling_read : (low count at n : ℕ) (bits : List Bool) → at + n ≤ count → low + count ≤ length bits →
    taken at n (reverse (taken low count bits)) ≡ reverse (taken (low + (count - at - n)) n bits)
falling_read low count at n bits few inside =
    let high : List Bool = taken (low + (count - at)) at bits in let rest : List Bool = taken low (count - at) bits in
    let whole : count - at + at ≡ count = omega arith in
    ap (λ k. taken at n (reverse (taken low k bits))) (sym whole)
    ∙ ap (λ z. taken at n (reverse z)) (sym (taken_joined low (count - at) at bits))
    ∙ ap (taken at n) (reverse-append rest high)
    ∙ ap (take n) (drop_at (reverse high) (reverse rest) at (length-reverse high ∙ length_taken (low + (count - at)) at bits (omega arith)))
    ∙ falling_first low (count - at) n bits (omega arith) (omega arith)

rising_read : (low count at n : ℕ) (bits : List Bool) → at + n ≤ count → taken at n (taken low count bits) ≡ taken (low + at) n bits
rising_read low count at n bits few = taken_of_first count at n (drop low bits) few ∙ ap (take n) (drop-drop at low bits)

-- a number that was read of a part
module _ (span : Span) (at n word : ℕ) (bits : List Bool) (few : at + n ≤ span.count) (inside : span.low + span.count ≤ length bits) where
  abbrev Read : Bool → Type 0
  Read falls = word ≡ number_of (taken at n (turned falls (taken span.low span.count bits)))

  pub word_falls : span.falls ≡ true → word ≡ number_of (reverse (taken (span.low + (span.count - at - n)) n bits)) → Read span.falls
  word_falls falls is = subst Read (sym falls) (is ∙ ap number_of (sym (falling_read span.low span.count at n bits few inside)))

  pub word_rises : span.falls ≡ false → word ≡ number_of (taken (span.low + at) n bits) → Read span.falls
  word_rises rises is = subst Read (sym rises) (is ∙ ap number_of (sym (rising_read span.low span.count at n bits few)))

-- the first bits of a part lie in its first places
first_read : (falls : Bool) (low count n : ℕ) (bits : List Bool) → n ≤ count → low + count ≤ length bits →
    take n (turned falls (taken low count bits)) ≡ turned falls (taken (if falls then low + count - n else low) n bits)
first_read true low count n bits few inside =
    let place : low + (count - n) ≡ low + count - n = omega arith in
    falling_first low count n bits few inside ∙ ap (λ k. reverse (taken k n bits)) place
first_read false low count n bits few inside = take-take n count (drop low bits) few

pub first_bits_read : (n : ℕ) (span : Span) (bits : List Bool) → n ≤ span.count → span.low + span.count ≤ length bits →
    first_bits n span bits ≡ turned span.falls (taken (first_places (span_in span) n) n bits)
first_bits_read n span bits few inside = first_read span.falls span.low span.count n bits few inside

-- these lie inside the part
pub first_inside : (n : ℕ) (span : Span) → n ≤ span.count → first_places (span_in span) n + n ≤ span.low + span.count
first_inside n span few = by span.falls
  where
    by : (falls : Bool) → (if falls then span.low + span.count - n else span.low) + n ≤ span.low + span.count
    by true = omega (arith, few)
    by false = omega (arith, few)

-- as many bits as a part has fill it
pub whole_put : (span : Span) (new old : List Bool) → length new ≡ span.count →
    span_put (span_in span) new old ≡ spliced span.low (turned span.falls new) old
whole_put span new old size = by span.falls
  where
    by : (falls : Bool) → spliced (if falls then span.low + span.count - length new else span.low) (turned falls new) old
        ≡ spliced span.low (turned falls new) old
    by true = let place : span.low + span.count - length new ≡ span.low = omega (arith, size) in ap (λ k. spliced k (reverse new) old) place
    by false = refl

-- bits that were written are put in the other order where they lie
pub turned_after : (falls : Bool) (low n : ℕ) (part old : List Bool) → length part ≡ n → low + n ≤ length old →
    spliced low (turned falls (taken low n (spliced low part old))) (spliced low part old) ≡ spliced low (turned falls part) old
turned_after falls low n part old size inside =
    ap (λ p. spliced low (turned falls p) (spliced low part old)) (taken_written low n part old size (omega arith))
    ∙ spliced_over low part (turned falls part) old (sym (length_turned falls part)) (omega (arith, size))

-- ---- bits that are written to a part

pub part_set : (span : Span) (part old mid new : List Bool) → length part ≡ span.count → span.low + span.count ≤ length old →
    mid ≡ spliced span.low part old → new ≡ spliced span.low (turned span.falls (taken span.low span.count mid)) mid →
    new ≡ span_put (span_in span) part old
part_set span part old mid new size inside written is =
    is ∙ ap (λ z. spliced span.low (turned span.falls (taken span.low span.count z)) z) written
    ∙ turned_after span.falls span.low span.count part old size inside ∙ sym (whole_put span part old size)

turned_both : (a b : Bool) (xs : List Bool) → turned (not (beq a b)) xs ≡ turned a (turned b xs)
turned_both true true xs = sym (reverse-reverse xs)
turned_both true false xs = refl
turned_both false true xs = refl
turned_both false false xs = refl

-- the first bits of one part go to another one
module _ (span from : Span) (low : ℕ) (other old : List Bool) (few : span.count ≤ from.count) (source : from.low + from.count ≤ length other)
    (low_is : low ≡ first_places (span_in from) span.count) where
  length_first : length (first_bits span.count from other) ≡ span.count
  length_first = length-take-le span.count (span_bits (span_in from) other) (omega (arith, few, length_span from other source))

  pub source_inside : low + span.count ≤ length other
  source_inside = omega (arith, low_is, first_inside span.count from few, source)

  pub part_copied : (new : List Bool) → new ≡ spliced span.low (turned (not (beq span.falls from.falls)) (taken low span.count other)) old →
      new ≡ span_put (span_in span) (first_bits span.count from other) old
  part_copied new is =
      is ∙ ap (λ p. spliced span.low p old)
      (turned_both span.falls from.falls (taken low span.count other)
      ∙ ap (turned span.falls) (ap (λ k. turned from.falls (taken k span.count other)) low_is ∙ sym (first_bits_read span.count from other few source)))
      ∙ sym (whole_put span (first_bits span.count from other) old length_first)

  pub part_moved : (mid new : List Bool) → span.low + span.count ≤ length old → mid ≡ spliced span.low (taken low span.count other) old →
      new ≡ spliced span.low (turned (not (beq span.falls from.falls)) (taken span.low span.count mid)) mid →
      new ≡ span_put (span_in span) (first_bits span.count from other) old
  part_moved mid new inside written is =
      part_copied new
      (is ∙ ap (λ z. spliced span.low (turned (not (beq span.falls from.falls)) (taken span.low span.count z)) z) written
      ∙ turned_after (not (beq span.falls from.falls)) span.low span.count (taken low span.count other) old
      (length_taken low span.count other source_inside) inside)

-- the lowest bits of a part, of which there are at most 32
pub lowest_word : (m : ℕ) (span : Span) (bits : List Bool) → m ≡ min span.count 32 → span.low + span.count ≤ length bits →
    taken 0 m (span_bits (span_in span) bits) ≡ first_bits 32 span bits
lowest_word m span bits least inside =
    first_of_first m span.count 32 (span_bits (span_in span) bits) least
    ∙ ap (take 32) (take_all span.count (span_bits (span_in span) bits) (omega (arith, length_span span bits inside)))
