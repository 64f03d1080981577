-- Shift registers in rings.
use Rattle.std.proofs.Common.{◌≡◌, ◌<◌, ◌≤◌, ℕ, suc, ◌+◌, Bool, true, false, List, [], ◌∷◌, ◌++◌, length, take, drop, set, cond, ◌==◌, refl, sym, ap, ◌∙◌, append_assoc, drop-cons, arith, add-one}
use Rattle.std.proofs.Math.Seq.{take-set-lt, take-length, drop-length}
use Rattle.std.proofs.lemmas.List.{take_more_set, drop-set-lt, length-take-le, length-set, append-nil}
use Rattle.std.proofs.lemmas.Bool.{eqb-true}
use Rattle.dev_card.specs.Card.{shifted}
use Rattle.dev_kinds.specs.ShiftRegister.{rotated, next_in_ring}

-- a ring that is written at its first place, and begins at the place after it
rotated-set : (head : ℕ) (ring : List Bool) (b : Bool) → head < length ring → rotated (head + 1) (set ring head b) ≡ shifted (rotated head ring) b
rotated-set head ring b h =
    let t : take (head + 1) (set ring head b) ≡ take head ring ++ b ∷ [] = take_more_set ring head b h in
    let d : drop (head + 1) (set ring head b) ≡ drop (head + 1) ring = drop-set-lt (head + 1) ring head b (omega arith) in
    let old : drop head ring ≡ _ = drop-cons ring head false h in
    rw (t, d, old, add-one) (sym (append_assoc (drop (suc head) ring) (take head ring) (b ∷ [])))

-- a ring that begins after its end begins at its front
pub rotated-length : (ring : List Bool) → rotated (length ring) ring ≡ rotated 0 ring
rotated-length ring = rw (drop-length ring, take-length ring) (sym (append-nil ring))

ring_moved : (head : ℕ) (ring : List Bool) (b : Bool) (at_end : Bool) → (head + 1 == length ring) ≡ at_end → head < length ring →
    rotated (cond at_end 0 (head + 1)) (set ring head b) ≡ shifted (rotated head ring) b
ring_moved head ring b true e h =
    let after : length (set ring head b) ≡ head + 1 = length-set ring head b ∙ sym (eqb-true (head + 1) (length ring) e) in
    sym (rotated-length (set ring head b)) ∙ ap (λ n. rotated n (set ring head b)) after ∙ rotated-set head ring b h
ring_moved head ring b false e h = rotated-set head ring b h

-- a ring in front of unused room loses its first bit and gets one as its last
pub ring_shifted : (head len : ℕ) (buf : List Bool) (b : Bool) → head < len → len ≤ length buf →
    rotated (next_in_ring head len) (take len (set buf head b)) ≡ shifted (rotated head (take len buf)) b
ring_shifted head len buf b h w =
    let size : length (take len buf) ≡ len = length-take-le len buf w in
    let inside : head < length (take len buf) = omega arith in
    ap (λ z. rotated (next_in_ring head len) z) (take-set-lt len buf head b h)
    ∙ ap (λ n. rotated (next_in_ring head n) (set (take len buf) head b)) (sym size)
    ∙ ring_moved head (take len buf) b (head + 1 == length (take len buf)) refl inside
