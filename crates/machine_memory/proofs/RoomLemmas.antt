-- Bits in memory that is taken at once.
use Rattle.std.proofs.Common.{◌≡◌, ◌≤◌, ◌+◌, ℕ, ℤ, Bool, false, List, ◌++◌, length, take, drop, replicate, sym, ap, subst, ◌∙◌, arith}
use Rattle.std.specs.Prelude.{IsTrue, ◌↔◌}
use Rattle.std.proofs.lemmas.List.{get_or-take, length-replicate, length-take-le}
use Rattle.std.proofs.Math.Seq.{take-append_seam}
use Rattle.std.specs.Int.{w32, cast_unsigned}
use Rattle.base.proofs.NumberBits.{length-low_bits}
use Rattle.bit_list.specs.Integers.{bits_of_int}
use Rattle.bit_list.specs.Ranges.{AgreeUnderMask, spliced}
use Rattle.scan_paths.specs.declared.pads.Pads.{Pads}
use Rattle.stapl_meaning.specs.Scans.{scan_limit, padding_limit}
use Rattle.machine_memory.specs.PadSettings.{HasPadRoom}
use Rattle.machine_memory.specs.Rooms.{IsScanRoom}

agree_takes : (n : ℕ) (m x y : List Bool) → AgreeUnderMask m n x y ↔ AgreeUnderMask (take n m) n (take n x) (take n y)
agree_takes n m x y = (
  (λ h i b e. get_or-take n x i false b ∙ h i b (sym (get_or-take n m i false b) ∙ e) ∙ sym (get_or-take n y i false b)),
  (λ h i b e. sym (get_or-take n x i false b) ∙ h i b (get_or-take n m i false b ∙ e) ∙ get_or-take n y i false b),
)

pub agree_seen : (r : Bool) (n : ℕ) (m x y mask bits other : List Bool) → take n x ≡ bits → take (length other) y ≡ other → take (length mask) m ≡ mask → n ≡ length bits →
    length other ≡ length bits → length mask ≡ length bits → (IsTrue r ↔ AgreeUnderMask m n x y) → IsTrue r ↔ AgreeUnderMask mask (length bits) bits other
agree_seen r n m x y mask bits other e f g h p q is =
    let other_is : take n y ≡ other = ap (λ k. take k y) (h ∙ sym p) ∙ f in
    let mask_is : take n m ≡ mask = ap (λ k. take k m) (h ∙ sym q) ∙ g in
    let same : AgreeUnderMask m n x y ↔ AgreeUnderMask (take n m) n (take n x) (take n y) = agree_takes n m x y in
    let whole : IsTrue r ↔ AgreeUnderMask (take n m) n (take n x) (take n y) = ((λ t. same.0 (is.0 t)), (λ a. is.1 (same.1 a))) in
    rw (← e, ← other_is, ← mask_is) (subst (λ k. IsTrue r ↔ AgreeUnderMask (take n m) k (take n x) (take n y)) (h ∙ ap length (sym e)) whole)

pub new_room : (n : ℕ) (bits : List Bool) → scan_limit ≤ n → bits ≡ replicate n false → IsScanRoom 0 bits
new_room n bits h e = record { inside = omega arith; room = omega (arith, h, ap length e, length-replicate n false) }

-- the lowest bits were replaced
pub front_replaced : (n : ℕ) (part old : List Bool) → length part ≡ n → take n (spliced 0 part old) ≡ part
front_replaced n part old e =
    ap (λ k. take k (part ++ drop (0 + length part) old)) (sym e) ∙ take-append_seam part (drop (0 + length part) old)

pub integer_taken : (n : ℕ) (z w : ℤ) (old new : List Bool) → w ≡ z → n ≤ 32 → new ≡ spliced 0 (take n (bits_of_int w)) old → take n new ≡ take n (bits_of_int z)
integer_taken n z w old new same few is =
    let enough : length (take n (bits_of_int w)) ≡ n = length-take-le n (bits_of_int w) (omega (arith, few, length-low_bits 32 (cast_unsigned w32 w))) in
    ap (take n) is ∙ front_replaced n (take n (bits_of_int w)) old enough ∙ ap (λ x. take n (bits_of_int x)) same

pub count_of_room : (count : ℕ) (room now : List Bool) → take count room ≡ now → IsScanRoom count room → count ≡ length now
count_of_room count room now e h = sym (length-take-le count room (omega (arith, h.inside, h.room))) ∙ ap length e

pub new_pads : (n : ℕ) (pads : Pads) → padding_limit ≤ n → pads.pre ≡ 0 → pads.post ≡ 0 → pads.pre_bits ≡ replicate n false → pads.post_bits ≡ replicate n false → HasPadRoom pads
new_pads n pads h p q e f = record {
  pre = omega (arith, p);
  post = omega (arith, q);
  pre_room = omega (arith, h, ap length e, length-replicate n false);
  post_room = omega (arith, h, ap length f, length-replicate n false);
}
