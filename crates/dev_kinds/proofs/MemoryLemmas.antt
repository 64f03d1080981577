-- The memory of a Flash: addresses and words.
use Rattle.std.proofs.Common.{◌≡◌, ◌<◌, ◌+◌, ◌^◌, ℕ, Bool, true, false, ◌&&◌, List, [], ◌∷◌, length, take, set, get_or, map, replicate, cond, All, refl, sym, ap, subst, ◌∙◌, arith}
use Rattle.std.specs.Prelude.{ℤ, Vec, ◌==◌, not, slice_get, slice_index_or, Some}
use Rattle.std.specs.Vec.{with_items}
use Rattle.std.proofs.lemmas.Option.{get_or_from_slice_get}
use Rattle.std.specs.Int.{w32, cast_signed, cast_unsigned}
use Rattle.std.proofs.lemmas.Int.{of_z-to_z}
use Rattle.std.proofs.lemmas.List.{take_all, length-map, length-replicate, length-set, with_items_is}
use Rattle.std.proofs.lemmas.List.Elements.{All-head, All-tail, All-replicate, All-get_or, All-set}
use Rattle.base.specs.Bits.{low_bits, number_of}
use Rattle.base.proofs.NumberBits.{lowest_bits, length-low_bits, number_of-below}
use Rattle.bit_list.specs.Integers.{int_of, bits_of_int}
use Rattle.bit_list.specs.Ranges.{taken, spliced}
use Rattle.dev_card.specs.declared.desc.FlashDesc.{FlashDesc}
use Rattle.dev_card.specs.Card.{and_bits, flash_erase}
use Rattle.dev_kinds.specs.Logic.{Logic}
use Rattle.dev_kinds.specs.Memories.{MemoryStore, IsStore, IsUpdated, fresh_store}
use Rattle.bit_list.proofs.Splices.{spliced_whole}
use Rattle.dev_kinds.proofs.CommonBits.{length-and_bits}

-- the number of an address, and the next address
pub address_below : (now : List Bool) → length now ≡ 16 → number_of now < 65536
address_below now e = subst (λ n. number_of now < 2 ^ n) e (number_of-below now)

pub number_read : (now : List Bool) (z : ℤ) (r : ℕ) → length now ≡ 16 → z ≡ int_of (taken 0 16 now) →
    r ≡ cast_unsigned w32 (cast_signed w32 (cast_unsigned w32 z)) → r ≡ number_of now
number_read now z r e i c =
    let whole : take 16 now ≡ now = take_all 16 now (omega (arith, e)) in
    let small : number_of now < 2 ^ 32 = let b = address_below now e in omega (arith, b) in
    let same : cast_unsigned w32 z ≡ number_of now =
    ap (cast_unsigned w32) (i ∙ ap (λ l. cast_signed w32 (number_of l)) whole)
    ∙ of_z-to_z w32 (number_of now) small in
    c ∙ ap (λ n. cast_unsigned w32 (cast_signed w32 n)) same ∙ of_z-to_z w32 (number_of now) small

pub raised : (old new : List Bool) (n : ℕ) (z : ℤ) → length old ≡ 16 → n ≡ number_of old + 1 → n < 65537 → z ≡ cast_signed w32 n →
    new ≡ spliced 0 (take 16 (bits_of_int (cast_signed w32 (cast_unsigned w32 z)))) old → new ≡ low_bits 16 (number_of old + 1)
raised old new n z e v b i s =
    let small : n < 2 ^ 32 = omega (arith, b) in
    let number : cast_unsigned w32 (cast_signed w32 (cast_unsigned w32 z)) ≡ n =
    ap (λ m. cast_unsigned w32 (cast_signed w32 m)) (ap (cast_unsigned w32) i ∙ of_z-to_z w32 n small) ∙ of_z-to_z w32 n small in
    let part : take 16 (bits_of_int (cast_signed w32 (cast_unsigned w32 z))) ≡ low_bits 16 n =
    lowest_bits 16 32 (cast_unsigned w32 (cast_signed w32 (cast_unsigned w32 z))) (omega arith) ∙ ap (low_bits 16) number in
    let size : length (low_bits 16 n) ≡ length old = length-low_bits 16 n ∙ sym e in
    s ∙ ap (λ l. spliced 0 l old) part ∙ spliced_whole (low_bits 16 n) old size ∙ ap (low_bits 16) v

-- words of one bit
pub words_filled : (words : List (List Bool)) (width count : ℕ) (b : Bool) → All (λ word. length word ≡ width) words → length words ≡ count →
    map (λ (word : List Bool). replicate (length word) b) words ≡ replicate count (replicate width b)
words_filled [] width count b h e = ap (λ n. replicate n (replicate width b)) e
words_filled (w ∷ words) width count b h e =
    let P : List Bool → Type 0 = λ word. length word ≡ width in
    let first : replicate (length w) b ≡ replicate width b = ap (λ n. replicate n b) (All-head P w words h) in
    ap (λ x. x ∷ map (λ (word : List Bool). replicate (length word) b) words) first
    ∙ ap (λ l. replicate width b ∷ l) (words_filled words width (length words) b (All-tail P w words h) refl) ∙ ap (λ n. replicate n (replicate width b)) e

-- a memory stays one when its words become one bit, and its address one of the same length
pub filled_store : (f : FlashDesc) (address address' buffer : List Bool) (words words' : List (List Bool)) (b : Bool) →
    IsStore f address words buffer → length address' ≡ 16 →
    words' ≡ replicate f.words (replicate f.width b) → IsStore f address' words' buffer
filled_store f address address' buffer words words' b h a e =
    let P : List Bool → Type 0 = λ word. length word ≡ f.width in
    record {
      good = h.good;
      address_length = a;
      count = ap length e ∙ length-replicate f.words (replicate f.width b);
      widths = subst (All P) (sym e) (All-replicate P f.words (replicate f.width b) (length-replicate f.width b));
      buffer_length = h.buffer_length;
    }

pub filled_items : {Z : Type 0} (v : Vec (List Bool) Z) (f : FlashDesc) (address buffer : List Bool)
    (lent new : List (List Bool)) (b : Bool) → IsStore f address v.items buffer → lent ≡ v.items → length lent ≡ v.len →
    new ≡ map (λ (word : List Bool). replicate (length word) b) lent → (with_items v new).items ≡ replicate f.words (replicate f.width b)
filled_items v f address buffer lent new b h l n e =
    let size : length new ≡ v.len = ap length e ∙ length-map lent (λ (word : List Bool). replicate (length word) b) ∙ n in
    with_items_is v new size ∙ e ∙ ap (map (λ (word : List Bool). replicate (length word) b)) l ∙ words_filled v.items f.width f.words b h.widths h.count

pub store_is_fresh : (f g : FlashDesc) (address : List Bool) (words : List (List Bool)) → f ≡ g →
    address ≡ replicate 16 false → words ≡ replicate f.words (replicate f.width f.fill) →
    record { shape = f; address = address; words = words; busy = 0 } ≡ fresh_store g
store_is_fresh f g address words e a w =
    ap (λ x. record { shape = f; address = x; words = words; busy = 0 }) a
    ∙ ap (λ x. record { shape = f; address = replicate 16 false; words = x; busy = 0 }) w ∙ ap fresh_store e

-- an update of the register that erases, with 1, while the memory isn't busy
erases_now : (a b : Bool) → a ≡ true → b ≡ false → (a && not b) ≡ true
erases_now a b e f = ap (λ x. x && not b) e ∙ ap (λ x. true && not x) f

pub erased : (k : Logic) (m old : MemoryStore) (words : List (List Bool)) (low busy : Bool) → m ≡ old → slice_get k.dr_list 0
    ≡ Some low → low ≡ true → busy ≡ not (old.busy == 0) → busy ≡ false →
    words ≡ replicate m.shape.words (replicate m.shape.width true) →
    IsUpdated k old (record { shape = m.shape; address = m.address; words = words; busy = m.shape.busy })
    (flash_erase old.shape)
erased k m old words low busy is l t b f w =
    let new : MemoryStore = record { shape = m.shape; address = m.address; words = words; busy = m.shape.busy } in
    let now : (slice_index_or k.dr_list 0 false && not (not (m.busy == 0))) ≡ true =
    erases_now (slice_index_or k.dr_list 0 false) (not (m.busy == 0)) (get_or_from_slice_get k.dr_list 0 low false l
    ∙ t) (ap (λ (o : MemoryStore). not (o.busy == 0)) is ∙ sym b ∙ f) in
    subst (λ o. IsUpdated k o new (flash_erase o.shape)) is (record {
      shape = refl;
      cells = ap (λ x. m.address ∷ x) w ∙ sym (ap (λ x. cond x (m.address ∷ replicate m.shape.words (replicate m.shape.width true)) (m.address ∷ m.words)) now);
      busy = sym (ap (λ x. cond x m.shape.busy m.busy) now);
    })

-- a memory stays one when one of its words is written, and with another buffer and address of the same lengths
pub written_store : (f : FlashDesc) (address address' buffer buffer' : List Bool) (words : List (List Bool)) (place : ℕ)
    (word : List Bool) → IsStore f address words buffer → length address' ≡ 16 → length buffer' ≡ f.width →
    length word ≡ f.width → IsStore f address' (set words place word) buffer'
written_store f address address' buffer buffer' words place word h a b w = record {
  good = h.good;
  address_length = a;
  count = length-set words place word ∙ h.count;
  widths = All-set (λ x. length x ≡ f.width) words place word w h.widths;
  buffer_length = b;
}

pub kept_store : (f : FlashDesc) (address address' buffer buffer' : List Bool) (words : List (List Bool)) →
    IsStore f address words buffer → length address' ≡ 16 → length buffer' ≡ f.width → IsStore f address' words buffer'
kept_store f address address' buffer buffer' words h a b = record { good = h.good; address_length = a; count = h.count; widths = h.widths; buffer_length = b }

-- the width of a word that is programmed
pub programmed_width : (f : FlashDesc) (address buffer : List Bool) (words : List (List Bool)) (place : ℕ)
    (word bits new : List Bool) → IsStore f address words buffer → place < length words →
    word ≡ get_or words place word →
    length bits ≡ f.width → new ≡ and_bits word bits → length new ≡ f.width
programmed_width f address buffer words place word bits new h p r b e =
    let width : length word ≡ f.width = ap length r ∙ All-get_or (λ x. length x ≡ f.width) words place word p h.widths in
    ap length e ∙ length-and_bits word bits (b ∙ sym width) ∙ width
