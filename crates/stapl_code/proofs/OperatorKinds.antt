-- What the operators make of values of their sides.
use Rattle.std.proofs.Common.{◌≡◌, ℕ, zero, suc, ◌<◌, Bool, true, false, List, [], ◌∷◌, Option, Some, None, length, arith, refl}
use Rattle.std.specs.Prelude.{ℤ, pos, negsuc, nat_lt, slice_get, if◌then◌else◌}
use Rattle.stapl_meaning.specs.declared.events.RunFault.TheVariants.{ShiftCount}
use Rattle.stapl_meaning.specs.declared.values.Value.{Value}
use Rattle.stapl_meaning.specs.declared.values.Value.TheVariants.{Int}
use Rattle.stapl_meaning.specs.declared.values.ValueKind.{ValueKind}
use Rattle.stapl_meaning.specs.declared.values.ValueKind.TheVariants as kinds
use Rattle.stapl_meaning.specs.Values.{Got, Known, Faults, Stuck, divided_by, shifted_by, combined}
use Rattle.stapl_code.specs.declared.operators.Operator.{Operator}
use Rattle.stapl_code.specs.Operators.{operator_table, unary_kinds, unary_results}
use Rattle.stapl_code.proofs.Operands.{kind_of, EachOf}

-- a value of a kind, or a fault
abbrev pub GotOf : Option ValueKind → Got Value → Type 0
GotOf o (Known v) = o ≡ Some (kind_of v)
GotOf o (Faults k) = Unit {0}
GotOf o Stuck = ⊥

-- what an operator makes of two values of its sides is of its result
abbrev pub Combines : Operator → Type 0
Combines o = EachOf (Some o.sides) (λ x. EachOf (Some o.sides) (λ y. GotOf (Some o.result) (combined o.op x y)))

abbrev AllCombine : List Operator → Type 0
AllCombine [] = Unit {0}
AllCombine (o ∷ os) = Combines o × AllCombine os

abbrev pub CombinesAt : Option Operator → Type 0
CombinesAt None = ⊥
CombinesAt (Some o) = Combines o

combines_at : (os : List Operator) (n : ℕ) → AllCombine os → n < length os → CombinesAt (slice_get os n)
combines_at [] n all h = absurd (omega arith)
combines_at (o ∷ os) zero all h = all.0
combines_at (o ∷ os) (suc n) all h = combines_at os n all.1 (omega arith)

divided : (b outcome : ℤ) → GotOf (Some kinds.Int) (divided_by b outcome)
divided (pos zero) outcome = tt
divided (pos (suc n)) outcome = refl
divided (negsuc n) outcome = refl

counted : (b : Bool) (outcome : ℤ) → GotOf (Some kinds.Int) (if b then Known (Int outcome) else Faults ShiftCount)
counted true outcome = refl
counted false outcome = tt

shifted : (b : ℤ) (outcome : ℕ → ℤ) → GotOf (Some kinds.Int) (shifted_by b outcome)
shifted (pos n) outcome = counted (nat_lt n 32) (outcome n)
shifted (negsuc n) outcome = tt

also : {A B : Type 0} → A → B → A × B
also one more = (one, more)

-- each operator of the table, in its order: only quotients, remainders and shifts may fault
table_combines : AllCombine operator_table
table_combines =
    also (λ a b. refl) (also (λ a b. refl) (also (λ a b. refl) (also (λ a b. divided b _) (also (λ a b. divided b _)
    (also (λ a b. refl) (also (λ a b. refl) (also (λ a b. refl) (also (λ a b. shifted b _) (also (λ a b. shifted b _)
    (also (λ a b. refl) (also (λ a b. refl) (also (λ a b. refl) (also (λ a b. refl) (also (λ a b. refl)
    (also (λ a b. refl) (also (λ a b. refl) (also (λ a b. refl) (also (λ a b. refl) (also (λ a b. refl)
    (also (λ a b. refl) (also (λ a b. refl) (also (λ a b. refl) tt))))))))))))))))))))))

-- each number of the table names an operator that combines
pub combined_good : (n : ℕ) → n < length operator_table → CombinesAt (slice_get operator_table n)
combined_good n h = combines_at operator_table n table_combines h

-- what an operator before a value makes of a value of its kind is of that kind
abbrev pub Signs : Option ValueKind → Option (Value → Got Value) → Type 0
Signs (Some k) (Some result) = EachOf (Some k) (λ x. GotOf (Some k) (result x))
Signs _ _ = ⊥

-- each number of the table names an operator that does so
pub signed_good : (n : ℕ) → n < length unary_kinds → Signs (slice_get unary_kinds n) (slice_get unary_results n)
signed_good zero h = λ z. refl
signed_good (suc zero) h = λ z. refl
signed_good (suc (suc zero)) h = λ z. refl
signed_good (suc (suc (suc zero))) h = λ b. refl
signed_good (suc (suc (suc (suc n)))) h = absurd (omega arith)
