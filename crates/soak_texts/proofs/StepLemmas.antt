-- On steps.
use Rattle.std.proofs.Common.{◌≡◌, ℕ, ◌+◌, ◌/◌, ◌%◌, List, ◌++◌, refl, ap, sym, ◌∙◌, arith, add-one}
use Rattle.std.proofs.lemmas.Bool.Decides.{nat_tests}
use Rattle.soak_texts.specs.declared.step.Step.{Step}
use Rattle.soak_texts.specs.declared.step.Step.TheVariants.{Scan, Multiply, Mix, Raise}
use Rattle.soak_texts.specs.Steps.{step_of_kind, four_draws, drawn_step, draws_of, state_after_step, state_after_steps}
use Rattle.soak_texts.specs.Steps.{nth_step, step_lines}
use Rattle.soak_texts.specs.Programs.{lines_of_steps}
use Rattle.soak_texts.proofs.ListLemmas.{numbered_more}
use Rattle.soak_texts.specs.Draws.{next_state, state_after, nth_draw}

-- the fourth kind
pub last_kind : (kind number : ℕ) (shifted : List ℕ) → (kind ≡ 0 → ⊥) → (kind ≡ 1 → ⊥) → (kind ≡ 2 → ⊥) →
    step_of_kind kind number shifted ≡ Raise number
last_kind kind number shifted a b c = grind (arith, nat_tests)

-- one step more
pub one_step_more : (n s : ℕ) → state_after_step (state_after_steps n s) ≡ state_after_steps (n + 1) s
unfolding state_after_steps
one_step_more n s = rw add-one refl

-- the step of two draws, of the state u after them
pub step_is : (s t u kind number : ℕ) (step : Step) → kind ≡ next_state s / 65536 % 4 → t ≡ next_state s →
    number ≡ next_state t / 65536 % 100 → u ≡ next_state t → step_of_kind kind number (four_draws u) ≡ step →
    step ≡ drawn_step s
unfolding drawn_step nth_draw state_after
step_is s t u kind number step a b d e f =
    let second : number ≡ next_state (next_state s) / 65536 % 100 = d ∙ ap (λ v. next_state v / 65536 % 100) b in
    let after : u ≡ next_state (next_state s) = e ∙ ap next_state b in
    rw (← a, ← second, ← after) (sym f)

pub scan_kind : (kind number : ℕ) (shifted : List ℕ) → kind ≡ 0 → step_of_kind kind number shifted ≡ Scan shifted
scan_kind kind number shifted e = rw e refl

pub multiply_kind : (kind number : ℕ) (shifted : List ℕ) → kind ≡ 1 → step_of_kind kind number shifted ≡ Multiply number
multiply_kind kind number shifted e = rw e refl

pub mix_kind : (kind number : ℕ) (shifted : List ℕ) → kind ≡ 2 → step_of_kind kind number shifted ≡ Mix number
mix_kind kind number shifted e = rw e refl

-- the state after a step of so many draws
pub state_is : (s t : ℕ) (step : Step) → step ≡ drawn_step s → t ≡ state_after (draws_of step) s →
    t ≡ state_after_step s
unfolding state_after_step
state_is s t step e f = rw (← e) f

-- two draws
pub after_two : (s t u : ℕ) → t ≡ next_state s → u ≡ next_state t → u ≡ state_after 2 s
unfolding state_after
after_two s t u e f = f ∙ ap next_state e

-- and four more
pub after_six : (s t u v : ℕ) → t ≡ next_state s → u ≡ next_state t → v ≡ state_after 4 u → v ≡ state_after 6 s
unfolding state_after
after_six s t u v e f g = g ∙ ap (λ w. state_after 4 w) (f ∙ ap next_state e)

-- the lines of one step more
pub lines_more : (n bits s t : ℕ) (start was now : List ℕ) → was ≡ start ++ lines_of_steps n bits s →
    t ≡ state_after_steps n s → now ≡ was ++ step_lines bits (drawn_step t) → now ≡ start ++ lines_of_steps (n + 1) bits s
unfolding lines_of_steps nth_step
lines_more n bits s t start was now e f g =
    g ∙ rw (e, f) (numbered_more (λ k. step_lines bits (nth_step k s)) start 0 n n (omega arith))

pub state_more : (n s t u : ℕ) → t ≡ state_after_steps n s → u ≡ state_after_step t → u ≡ state_after_steps (n + 1) s
state_more n s t u e f = f ∙ ap state_after_step e ∙ one_step_more n s
