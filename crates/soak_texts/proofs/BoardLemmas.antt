-- On boards.
use Rattle.std.proofs.Common.{◌≡◌, ℕ, ◌+◌, ◌-◌, ◌/◌, ◌%◌, ◌<◌, ◌≤◌, List, [], ◌∷◌, ◌++◌, map, length, get_or, refl, ap, sym}
use Rattle.std.proofs.Common.{◌∙◌, arith}
use Rattle.std.proofs.lemmas.List.FromFn.{map-range_with_len_more, length-map-range_with_len, get_or-map-range_with_len}
use Rattle.std.specs.List.{range_with_len}
use Rattle.soak_texts.specs.Draws.{next_state, state_after}
use Rattle.soak_texts.specs.Boards.{soak_devices, soak_place, register_length, device_lines, lines_of_devices, soak_board, place_length}
use Rattle.soak_texts.specs.Programs.{program_text}
use Rattle.soak_texts.specs.Soak.{soak_program}
use Rattle.soak_texts.proofs.DrawLemmas.{answer_after, draw_below}
use Rattle.soak_texts.proofs.ListLemmas.{numbered_more}

-- each board has a device
pub some_device : (seed : ℕ) → 0 < soak_devices seed
unfolding soak_devices
some_device seed = omega arith

-- and each register a bit
pub some_bit : (seed i : ℕ) → 0 < register_length seed i
unfolding register_length
some_bit seed i = omega arith

-- what is drawn for the board
pub devices_drawn : (s d : ℕ) → d ≡ next_state s / 65536 % 16 → 1 + d ≡ soak_devices s
unfolding soak_devices state_after
devices_drawn s d e = ap (λ n. 1 + n) (e ∙ answer_after 0 1 16 s s refl refl)

pub length_drawn : (s t i b : ℕ) → t ≡ state_after (1 + i) s → b ≡ next_state t / 65536 % 57 →
    8 + b ≡ register_length s (i + 1)
unfolding register_length
length_drawn s t i b e f = ap (λ n. 8 + n) (f ∙ answer_after (1 + i) (1 + (i + 1)) 57 s t e (omega arith))

pub place_drawn : (s t p d : ℕ) → t ≡ state_after (1 + soak_devices s) s → d ≡ soak_devices s →
    p ≡ next_state t / 65536 % d → 1 + p ≡ soak_place s
unfolding soak_place
place_drawn s t p d e f g =
    let last = answer_after (1 + soak_devices s) (2 + soak_devices s) (soak_devices s) s t e (omega arith) in
    ap (λ n. 1 + n) (g ∙ rw f last)

-- one device more
pub text_more : (s i bits : ℕ) (was now : List ℕ) → was ≡ lines_of_devices i s → bits ≡ register_length s (i + 1) →
    now ≡ was ++ device_lines (i + 1) bits → now ≡ lines_of_devices (i + 1) s
unfolding lines_of_devices
text_more s i bits was now e f g =
    g ∙ rw (e, f) (numbered_more (λ k. device_lines k (register_length s k)) [] 1 i (i + 1) (omega arith))

pub lengths_more : (s i bits : ℕ) (was now : List ℕ) → was ≡ map (register_length s) (range_with_len 1 i) →
    bits ≡ register_length s (i + 1) → now ≡ was ++ bits ∷ [] → now ≡ map (register_length s) (range_with_len 1 (i + 1))
lengths_more s i bits was now e f g =
    g ∙ rw (e, f) (sym (map-range_with_len_more (register_length s) 1 i (i + 1) (omega arith)))

-- all devices are the board
pub whole_board : (s i : ℕ) (text : List ℕ) → text ≡ lines_of_devices i s → i ≡ soak_devices s → text ≡ soak_board s
unfolding soak_board
whole_board s i text e f = rw (← f) e

pub few_devices : (seed : ℕ) → soak_devices seed ≤ 16
unfolding soak_devices
few_devices seed = omega (arith, draw_below 1 16 seed (omega arith))

-- the lengths of all devices, and the one at a place
pub count_of_lengths : (s : ℕ) (lengths : List ℕ) →
    lengths ≡ map (register_length s) (range_with_len 1 (soak_devices s)) → length lengths ≡ soak_devices s
count_of_lengths s lengths e = rw e (length-map-range_with_len (register_length s) 1 (soak_devices s))

pub length_at : (s t d p bits : ℕ) (lengths : List ℕ) →
    lengths ≡ map (register_length s) (range_with_len 1 (soak_devices s)) → d ≡ soak_devices s → t ≡ state_after (1 + soak_devices s) s → p ≡ next_state t / 65536 % d →
    bits ≡ get_or lengths (1 + p - 1) bits → bits ≡ place_length s
unfolding place_length
length_at s t d p bits lengths e f state g h =
    let i : 1 + p - 1 ≡ p = omega arith in
    let lt : p < soak_devices s = omega (arith, some_device s) in
    let place = place_drawn s t p d state f g in
    h ∙ rw (i, e) (get_or-map-range_with_len (register_length s) 1 (soak_devices s) p (soak_place s) bits lt place)

pub some_length : (s : ℕ) → 0 < place_length s
unfolding place_length
some_length s = some_bit s (soak_place s)

-- the program of the board
pub program_is : (s bits t : ℕ) (text : List ℕ) → text ≡ program_text 2000 bits t → bits ≡ place_length s →
    t ≡ state_after (2 + soak_devices s) s → text ≡ soak_program s
unfolding soak_program
program_is s bits t text e f g = e ∙ rw (f, g) refl
