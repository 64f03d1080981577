-- The tests of instructions agree with what the rules say of these.
use Rattle.std.proofs.Common.{◌≡◌, ℕ, ◌-◌, ◌⊎◌, inl, inr, Bool, true, false, List, [], ◌∷◌, ◌++◌, Option, Some, None, length, suc, arith, refl, sym, ap, subst, ◌∙◌}
use Rattle.std.specs.Prelude.{slice_get, ◌&&◌}
use Rattle.std.proofs.lemmas.Bool.{and_parts}
use Rattle.tap_states.specs.declared.Tap.{Tap}
use Rattle.tap_states.specs.Tap.{is_stable_state}
use Rattle.stapl_code.specs.declared.instr.Instr.{Instr}
use Rattle.stapl_code.specs.declared.instr.Instr.TheVariants.{Turn, Push, PushBit, Store, SetBits, SetInts, For, Next, Call, Jump, JumpIfZero, EndProc, Exit, Stop, State as GoThrough, Wait}
use Rattle.stapl_code.specs.Machine.{gives, goes_to}
use Rattle.stapl_code.specs.Kinds.{clears}
use Rattle.stapl_code.specs.Valid.{is_turn, is_end, sets_up, departs, is_stable_if, rests_well}
use Rattle.code_rules.specs.Instructions.{IsTurnInstr, IsEndProc, SetsUp, Empties, Departs, HasTarget, WantsStable}

-- a test says exactly whether this holds
pub record Agrees (P : Type 0) (b : Bool) : Type 0 where
  pub yes : b ≡ true → P
  pub is : P → b ≡ true

pub agreed : {P : Type 0} → P → Agrees P true
agreed p = record { yes = λ e. p; is = λ q. refl }

pub refused : {P : Type 0} → (P → ⊥) → Agrees P false
refused n = record { yes = λ e. absurd cc; is = λ p. absurd (n p) }

pub denied : {P : Type 0} {b : Bool} → Agrees P b → b ≡ false → P → ⊥
denied a e p = let is = a.is p in cc

-- a test that is passed, or is not
pub decided : (b : Bool) → (b ≡ true) ⊎ (b ≡ false)
decided true = inl refl
decided false = inr refl

pub one_false : (a b : Bool) → a && b ≡ false → (a ≡ false) ⊎ (b ≡ false)
one_false true b e = inr e
one_false false b e = inl refl

pub turn_agrees : (x : Instr) → Agrees (IsTurnInstr x) (is_turn (Some x))
turn_agrees (Turn piece) = agreed tt
turn_agrees _ = refused (λ h. h)

pub end_agrees : (x : Instr) → Agrees (IsEndProc x) (is_end x)
end_agrees EndProc = agreed tt
end_agrees _ = refused (λ h. h)

pub set_up_agrees : (x : Instr) → Agrees (SetsUp x) (sets_up x)
set_up_agrees (Push z) = agreed tt
set_up_agrees (PushBit b) = agreed tt
set_up_agrees (Store n) = agreed tt
set_up_agrees (SetBits n literal) = agreed tt
set_up_agrees (SetInts n values) = agreed tt
set_up_agrees _ = refused (λ h. h)

pub departs_agrees : (x : Instr) → Agrees (Departs x) (departs x)
departs_agrees (Jump to) = agreed tt
departs_agrees (For n body) = agreed tt
departs_agrees (Next n) = agreed tt
departs_agrees (Call p) = agreed tt
departs_agrees Exit = agreed tt
departs_agrees _ = refused (λ h. h)

pub clears_agrees : (x : Instr) → Agrees (IsTurnInstr x ⊎ Empties x) (clears x)
clears_agrees (Turn piece) = agreed (inl tt)
clears_agrees (Jump to) = agreed (inr tt)
clears_agrees (JumpIfZero to) = agreed (inr tt)
clears_agrees (For n body) = agreed (inr tt)
clears_agrees (Next n) = agreed (inr tt)
clears_agrees (Call p) = agreed (inr tt)
clears_agrees EndProc = agreed (inr tt)
clears_agrees Exit = agreed (inr tt)
clears_agrees _ = refused (λ h. elim h [ inl a ↦ a | inr b ↦ b ])

-- what leaves no operand gives none
pub gives_nothing : (x : Instr) → clears x ≡ true → gives x ≡ []
gives_nothing (Turn piece) e = refl
gives_nothing (Jump to) e = refl
gives_nothing (JumpIfZero to) e = refl
gives_nothing (For n body) e = refl
gives_nothing (Next n) e = refl
gives_nothing (Call p) e = refl
gives_nothing EndProc e = refl
gives_nothing Exit e = refl
gives_nothing _ e = absurd cc

pub names_goes : (x : Instr) (to : ℕ) → HasTarget x to → goes_to x ≡ Some to
names_goes (Jump target) to h = ap Some h
names_goes (JumpIfZero target) to h = ap Some h
names_goes (For n body) to h = ap Some h
names_goes _ to h = absurd h

pub goes_names : (x : Instr) (to : ℕ) → goes_to x ≡ Some to → HasTarget x to
goes_names (Jump target) to e = cc
goes_names (JumpIfZero target) to e = cc
goes_names (For n body) to e = cc
goes_names _ to e = absurd cc

-- the last one of some states
last_of : (before : List Tap) (t : Tap) → slice_get (before ++ (t ∷ [])) (length (before ++ (t ∷ [])) - 1) ≡ Some t
last_of [] t = refl
last_of (s ∷ []) t = refl
last_of (s ∷ u ∷ before) t =
    let shorter : length (s ∷ u ∷ before ++ (t ∷ [])) - 1 ≡ suc (length (u ∷ before ++ (t ∷ [])) - 1) = omega arith in
    subst (λ (n : ℕ). slice_get (s ∷ u ∷ before ++ (t ∷ [])) n ≡ Some t) (sym shorter) (last_of (u ∷ before) t)

in_front : (s : Tap) (states : List Tap) (t : Tap) → ((before : List Tap) × (states ≡ before ++ (t ∷ []))) →
    (before : List Tap) × (s ∷ states ≡ before ++ (t ∷ []))
in_front s states t r = (s ∷ r.0, ap (λ l. s ∷ l) r.1)

split_last : (states : List Tap) (t : Tap) → slice_get states (length states - 1) ≡ Some t →
    (before : List Tap) × (states ≡ before ++ (t ∷ []))
split_last [] t e = absurd cc
split_last (s ∷ []) t e = ([], cc)
split_last (s ∷ u ∷ more) t e =
    let shorter : length (s ∷ u ∷ more) - 1 ≡ suc (length (u ∷ more) - 1) = omega arith in
    in_front s (u ∷ more) t (split_last (u ∷ more) t (subst (λ (n : ℕ). slice_get (s ∷ u ∷ more) n ≡ Some t) shorter e))

-- a state that has to be stable and is not
abbrev pub HasUnstable : Instr → Type 0
HasUnstable x = (t : Tap) × WantsStable x t × (is_stable_state t ≡ false)

moves_unstable : (states : List Tap) (o : Option Tap) → slice_get states (length states - 1) ≡ o → is_stable_if o ≡ false →
    (t : Tap) × ((before : List Tap) × (states ≡ before ++ (t ∷ []))) × (is_stable_state t ≡ false)
moves_unstable states None at e = absurd cc
moves_unstable states (Some t) at e = (t, split_last states t at, e)

pub unstable_found : (x : Instr) → rests_well x ≡ false → HasUnstable x
unstable_found (GoThrough states) e = moves_unstable states (slice_get states (length states - 1)) refl e
unstable_found (Stop register tap) e = (tap, refl, e)
unstable_found (Wait at kind last) e =
    elim (one_false (is_stable_state at) (is_stable_state last) e) [ inl a ↦ (at, inl refl, a) | inr b ↦ (last, inr refl, b) ]
unstable_found _ e = absurd cc

pub none_unstable : (x : Instr) → rests_well x ≡ true → HasUnstable x → ⊥
none_unstable (GoThrough states) e (t, w, u) =
    let last : slice_get states (length states - 1) ≡ Some t =
    subst (λ l. slice_get l (length l - 1) ≡ Some t) (sym w.1) (last_of w.0 t) in
    let stable : is_stable_state t ≡ true = ap is_stable_if (sym last) ∙ e in
    cc
none_unstable (Stop register tap) e (t, w, u) = let same = ap is_stable_state w in cc
none_unstable (Wait at kind last) e (t, w, u) = wait w
  where
    parts : (is_stable_state at ≡ true) × (is_stable_state last ≡ true)
    parts = and_parts (is_stable_state at) (is_stable_state last) e

    wait : (at ≡ t) ⊎ (last ≡ t) → ⊥
    wait (inl a) = let same = ap is_stable_state a in let p = parts in cc
    wait (inr b) = let same = ap is_stable_state b in let p = parts in cc
none_unstable _ e (t, w, u) = absurd w
