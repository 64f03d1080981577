-- The numbers that are drawn from a seed. The rule is this profile's.
use Rattle.std.specs.Prelude.{ℕ, zero, suc, ◌+◌, ◌*◌, ◌/◌, ◌%◌, ◌^◌}

-- the state that follows a state
unfoldable pub next_state : ℕ → ℕ
next_state s = (1664525 * s + 1013904223) % 2 ^ 32

-- the state after so many draws from a state on; the seed is the first state
unfoldable pub state_after : ℕ → ℕ → ℕ
state_after zero s = s
state_after (suc n) s = next_state (state_after n s)

-- the n-th draw from a state on, counted from 1: a number below k, made of the upper half of the state after it
unfoldable pub nth_draw : (n k s : ℕ) → ℕ
nth_draw n k s = state_after n s / 65536 % k
