-- On what is drawn.
use Rattle.std.proofs.Common.{◌≡◌, ℕ, suc, ◌+◌, ◌*◌, ◌/◌, ◌%◌, ◌^◌, ◌<◌, refl, ap, ◌∙◌, arith}
use Rattle.std.proofs.Math.Nat.{mod-add-mod}
use Rattle.soak_texts.specs.Draws.{next_state, state_after, nth_draw}

-- a product and a sum that wrap
pub wrapped : (s : ℕ) → (s * 1664525 % 2 ^ 32 + 1013904223) % 2 ^ 32 ≡ (1664525 * s + 1013904223) % 2 ^ 32
wrapped s =
    let e : s * 1664525 + 1013904223 ≡ 1664525 * s + 1013904223 = omega arith in
    mod-add-mod (s * 1664525) (2 ^ 32) 1013904223 ∙ ap (λ n. n % 2 ^ 32) e

-- the draw after n draws is the next one
pub next_after : (n m s t : ℕ) → t ≡ state_after n s → n + 1 ≡ m → next_state t ≡ state_after m s
unfolding state_after
next_after n m s t e f =
    let k : m ≡ suc n = omega arith in
    rw (k, e) refl

pub answer_after : (n m k s t : ℕ) → t ≡ state_after n s → n + 1 ≡ m → next_state t / 65536 % k ≡ nth_draw m k s
unfolding nth_draw
answer_after n m k s t e f = ap (λ u. u / 65536 % k) (next_after n m s t e f)

-- an answer is below what it is drawn of
pub draw_below : (n k s : ℕ) → 0 < k → nth_draw n k s < k
unfolding nth_draw
draw_below n k s h = omega arith
