-- A block clock by clock.
use Rattle.std.proofs.Common.{◌≡◌, ◌<◌, ◌≤◌, ◌+◌, ◌-◌, ◌*◌, ◌/◌, ◌%◌, ◌^◌, ◌&&◌, ℕ, nat_eq, Bool, sym, ap, ◌∙◌, add-one, arith}
use Rattle.std.proofs.Math.Nat.{pow-succ'}
use Rattle.base.specs.Bits.{number_of, bit_value}
use Rattle.dev_card.specs.Card.{Card, step, tdo_of}
use Rattle.dev_card.specs.Blocks.{card_after, card_tdos, card_block, card_after_block}
use Rattle.dev_card.proofs.BlockSteps.{next_of_block}

pub card_at_first : (c : Card) (tdi n : ℕ) (last : Bool) → card_after_block c tdi (n - 0) last ≡ card_after_block c tdi n last
card_at_first c tdi n last = let e : n - 0 ≡ n = omega arith in ap (λ m. card_after_block c tdi m last) e

pub tdo_at_first : (c : Card) (tdi n : ℕ) (last : Bool) → 0 + 2 ^ 0 * card_block c tdi (n - 0) last ≡ card_block c tdi n last
tdo_at_first c tdi n last =
    let e : n - 0 ≡ n = omega arith in let one : 0 + 1 * card_block c tdi n last ≡ card_block c tdi n last = omega arith in
    ap (λ m. 0 + 1 * card_block c tdi m last) e ∙ one

pub card_at_next : (c next : Card) (n i x : ℕ) (last : Bool) → i < n → next ≡ step c (last && nat_eq (i + 1) n) (nat_eq (x % 2) 1) →
    card_after_block next (x / 2) (n - (i + 1)) last ≡ card_after_block c x (n - i) last
card_at_next c next n i x last h e =
    ap (λ k. card_after_block k (x / 2) (n - (i + 1)) last) e ∙ ap (card_after c) (sym (next_of_block last n i x h))

regrouped : (s v p r : ℕ) → s + v * p + 2 * p * r ≡ s + p * (v + 2 * r)
regrouped s v p r = omega arith

next_number : (s v i r : ℕ) → s + v * 2 ^ i + 2 ^ (i + 1) * r ≡ s + 2 ^ i * (v + 2 * r)
next_number s v i r =
    let p : 2 ^ (i + 1) ≡ 2 * 2 ^ i = ap (λ m. 2 ^ m) (add-one i) ∙ pow-succ' 2 i in
    ap (λ q. s + v * 2 ^ i + q * r) p ∙ regrouped s v (2 ^ i) r

pub tdo_at_next : (c next : Card) (n i x s t : ℕ) (last b : Bool) → i < n → next ≡ step c (last && nat_eq (i + 1) n)
    (nat_eq (x % 2) 1) → b ≡ tdo_of c → t ≡ s + bit_value b * 2 ^ i →
    t + 2 ^ (i + 1) * card_block next (x / 2) (n - (i + 1)) last ≡ s + 2 ^ i * card_block c x (n - i) last
tdo_at_next c next n i x s t last b h e seen v =
    let rest : Card → ℕ = λ k. card_block k (x / 2) (n - (i + 1)) last in
    ap (λ k. t + 2 ^ (i + 1) * rest k) e
    ∙ ap (λ u. u + 2 ^ (i + 1) * rest (step c (last && nat_eq (i + 1) n) (nat_eq (x % 2) 1))) v
    ∙ next_number s (bit_value b) i (rest (step c (last && nat_eq (i + 1) n) (nat_eq (x % 2) 1)))
    ∙ ap (λ u. s + 2 ^ i * (bit_value u + 2 * rest (step c (last && nat_eq (i + 1) n) (nat_eq (x % 2) 1)))) seen
    ∙ ap (λ is. s + 2 ^ i * number_of (card_tdos c is)) (sym (next_of_block last n i x h))

pub card_at_last : (c : Card) (n i x : ℕ) (last : Bool) → n ≤ i → c ≡ card_after_block c x (n - i) last
card_at_last c n i x last h = let e : n - i ≡ 0 = omega arith in ap (λ m. card_after_block c x m last) (sym e)

pub tdo_at_last : (c : Card) (n i x s : ℕ) (last : Bool) → n ≤ i → s ≡ s + 2 ^ i * card_block c x (n - i) last
tdo_at_last c n i x s last h =
    let e : n - i ≡ 0 = omega arith in let none : s ≡ s + 2 ^ i * 0 = omega arith in
    none ∙ ap (λ m. s + 2 ^ i * card_block c x m last) (sym e)
