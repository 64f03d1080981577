-- Kinds of operands that are taken off by parts, and what parts want.
use Rattle.std.proofs.Common.{◌≡◌, Bool, true, false, List, [], ◌∷◌, ◌++◌, Option, Some, None, refl, ap, ◌∙◌}
use Rattle.std.specs.Prelude.{◌&&◌}
use Rattle.std.specs.List.{list_all}
use Rattle.stapl_meaning.specs.declared.values.ValueKind.{ValueKind}
use Rattle.stapl_code.specs.declared.raw.VarDef.{VarDef}
use Rattle.stapl_code.specs.Machine.{Slot, Want}
use Rattle.stapl_code.specs.Kinds.{then_kinds, taken_off, slot_kind, is_met, all_off}

then_twice : (o : Option (List ValueKind)) (f g : List ValueKind → Option (List ValueKind)) →
    then_kinds (then_kinds o f) g ≡ then_kinds o (λ ks. then_kinds (f ks) g)
then_twice None f g = refl
then_twice (Some ks) f g = refl

-- the slots after others are taken off first
pub off_both : (variables : List VarDef) (first second : List Slot) (ks : List ValueKind) →
    all_off variables (first ++ second) ks ≡ then_kinds (all_off variables second ks) (all_off variables first)
off_both variables [] second ks = by (all_off variables second ks)
  where
    by : (o : Option (List ValueKind)) → o ≡ then_kinds o (λ left. Some left)
    by None = refl
    by (Some left) = refl
off_both variables (slot ∷ first) second ks =
    ap (λ o. then_kinds o (taken_off (slot_kind variables slot))) (off_both variables first second ks)
    ∙ then_twice (all_off variables second ks) (all_off variables first) (taken_off (slot_kind variables slot))

-- a test of two lists is one of each
pub all_both : (variables : List VarDef) (first second : List Want) →
    list_all (is_met variables) (first ++ second) ≡ (list_all (is_met variables) first && list_all (is_met variables) second)
all_both variables [] second = refl
all_both variables (want ∷ first) second = by (is_met variables want) (all_both variables first second)
  where
    by : (b : Bool) → list_all (is_met variables) (first ++ second) ≡ (list_all (is_met variables) first && list_all (is_met variables) second) →
        (b && list_all (is_met variables) (first ++ second)) ≡ ((b && list_all (is_met variables) first) && list_all (is_met variables) second)
    by true more = more
    by false more = refl

pub all_one : (variables : List VarDef) (want : Want) → list_all (is_met variables) (want ∷ []) ≡ is_met variables want
all_one variables want = by (is_met variables want)
  where
    by : (b : Bool) → (b && true) ≡ b
    by true = refl
    by false = refl
