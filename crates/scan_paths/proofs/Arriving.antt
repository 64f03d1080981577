-- The inputs of moves and stays, clock by clock, and the states to which they and five ones lead.
use Rattle.std.proofs.Common.{◌≡◌, ◌<◌, ◌≤◌, ◌+◌, ◌-◌, ◌/◌, ◌%◌, ℕ, suc, zero, nat_eq, Bool, true, false, List, [], ◌∷◌, ◌++◌, replicate, Option, Some, None, refl, sym, ap, subst, ◌∙◌, arith}
use Rattle.std.specs.Option.{option_map}
use Rattle.base.specs.Bits.{low_bits}
use Rattle.base.proofs.NumberBits.{low_bits_of_zero}
use Rattle.tap_states.specs.declared.Tap.{Tap}
use Rattle.tap_states.specs.declared.Tap.TheVariants.{Reset}
use Rattle.tap_states.specs.Tap.{next_of, is_stable_state}
use Rattle.tap_states.specs.Path.{walk, five_ones}
use Rattle.dev_card.specs.Card.{Card}
use Rattle.dev_card.specs.Board.{Input, board_after, AllIn}
use Rattle.dev_card.specs.Blocks.{block_inputs}
use Rattle.dev_card.specs.Clocks.{with_zero, rest_tms, move_inputs, part_inputs}
use Rattle.dev_card.proofs.Reaching.{walk_in, rests}
use Rattle.dev_card.proofs.Resetting.{five_ones_reset}
use Rattle.dev_card.proofs.ScanLines.{move_leads}
use Rattle.scan_paths.specs.Cables.{WhereTold}
use Rattle.std.proofs.lemmas.Option.{same_Some}
use Rattle.std.proofs.lemmas.List.{map-append, replicate-append-replicate}

pub minus_zero : (n : ℕ) → n ≡ n - 0
minus_zero n = omega arith

-- all TMS values
pub all_bits : (n bits : ℕ) → with_zero (low_bits n bits) ≡ with_zero (low_bits (n - 0) bits)
all_bits n bits = ap (λ m. with_zero (low_bits m bits)) (minus_zero n)

pub all_same : (n : ℕ) (b : Bool) → with_zero (replicate n b) ≡ with_zero (replicate (n - 0) b)
all_same n b = ap (λ m. with_zero (replicate m b)) (minus_zero n)

-- the next TMS and the rest
pub next_bit : (n k rest : ℕ) → k < n →
    with_zero (low_bits (n - k) rest) ≡ record { tms = nat_eq (rest % 2) 1; tdi = false } ∷ with_zero (low_bits (n - (k + 1)) (rest / 2))
next_bit n k rest h = let e : n - k ≡ suc (n - (k + 1)) = omega arith in ap (λ m. with_zero (low_bits m rest)) e

pub no_bits : (n k rest : ℕ) → n ≤ k → with_zero (low_bits (n - k) rest) ≡ []
no_bits n k rest h = let e : n - k ≡ 0 = omega arith in ap (λ m. with_zero (low_bits m rest)) e

abbrev zero_input : Bool → Input
zero_input m = record { tms = m; tdi = false }

still_same : (n : ℕ) → part_inputs false (replicate n false) ≡ with_zero (replicate n false)
still_same zero = refl
still_same (suc n) = ap (λ z. record { tms = false; tdi = false } ∷ z) (still_same n)

-- a block of the same TMS values, with 1 only at one clock
block_same : (len : ℕ) (b : Bool) → 1 ≤ len → (b ≡ true → len ≤ 1) → block_inputs 0 len b ≡ with_zero (replicate len b)
block_same len true some one = let e : len ≡ 1 = omega (arith, some, one refl) in rw e refl
block_same len false some one = ap (part_inputs false) (low_bits_of_zero len) ∙ still_same len

-- the next of the same TMS values, and the rest
pub next_same : (n at len : ℕ) (b : Bool) → 1 ≤ len → (b ≡ true → len ≤ 1) → at + len ≤ n →
    with_zero (replicate (n - at) b) ≡ block_inputs 0 len b ++ with_zero (replicate (n - (at + len)) b)
next_same n at len b some one h =
    let e : n - at ≡ len + (n - (at + len)) = omega (arith, h) in
    ap (λ k. with_zero (replicate k b)) e
    ∙ ap with_zero (sym (replicate-append-replicate len (n - (at + len)) b))
    ∙ map-append zero_input (replicate len b) (replicate (n - (at + len)) b)
    ∙ ap (λ z. z ++ with_zero (replicate (n - (at + len)) b)) (sym (block_same len b some one))

pub none_same : (n k : ℕ) (b : Bool) → n ≤ k → with_zero (replicate (n - k) b) ≡ []
none_same n k b h = let e : n - k ≡ 0 = omega arith in ap (λ m. with_zero (replicate m b)) e

none≢some : {X : Type 0} {x : X} → None ≡ Some x → ⊥
none≢some e = cc

-- a fact of the board after some clocks, where the board is told
pub told_then : (old new : Option (List Card)) (change : List Card → List Card) (P Q : List Card → Type 0) → new ≡ option_map change old →
    WhereTold old P → ((cs : List Card) → P cs → Q (change cs)) → WhereTold new Q
told_then None new change P Q e h f cs t = absurd (none≢some (sym e ∙ t))
told_then (Some bs) new change P Q e h f cs t = subst Q (same_Some _ _ (sym e ∙ t)) (f bs (h bs refl))

-- after a move
pub told_moved : (old new : Option (List Card)) (at to : Tap) → new ≡ option_map (λ cs. board_after cs (move_inputs at to)) old →
    WhereTold old (AllIn at) → WhereTold new (AllIn to)
told_moved old new at to e h = told_then old new (λ cs. board_after cs (move_inputs at to)) (AllIn at) (AllIn to) e h (λ cs a. move_leads at to cs a)

-- after five clocks with TMS 1, whatever is known before
pub told_reset : (old new : Option (List Card)) → new ≡ option_map (λ cs. board_after cs (with_zero five_ones)) old → WhereTold new (AllIn Reset)
told_reset old new e = told_then old new (λ cs. board_after cs (with_zero five_ones)) (λ cs. Unit {0}) (AllIn Reset) e (λ cs t. tt) (λ cs a. five_ones_reset cs)

rests_long : (s : Tap) (n : ℕ) → next_of s (rest_tms s) ≡ s → walk s (replicate n (rest_tms s)) ≡ s
rests_long s zero h = refl
rests_long s (suc n) h = ap (λ t. walk t (replicate n (rest_tms s))) h ∙ rests_long s n h

-- after a stay
pub told_stayed : (old new : Option (List Card)) (at : Tap) (n : ℕ) → is_stable_state at ≡ true →
    new ≡ option_map (λ cs. board_after cs (with_zero (replicate n (rest_tms at)))) old → WhereTold old (AllIn at) → WhereTold new (AllIn at)
told_stayed old new at n st e h =
    let ms : List Bool = replicate n (rest_tms at) in
    told_then old new (λ cs. board_after cs (with_zero ms)) (AllIn at) (AllIn at) e h
    (λ cs a. subst (λ t. AllIn t (board_after cs (with_zero ms))) (rests_long at n (rests at st)) (walk_in at cs ms a))
