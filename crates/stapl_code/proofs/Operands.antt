-- Operands by the slots that want them.
use Rattle.std.proofs.Common.{◌≡◌, ℕ, suc, ◌+◌, Bool, List, [], ◌∷◌, ◌++◌, Option, Some, None, length, arith, refl, ap, ◌∙◌}
use Rattle.std.specs.Prelude.{ℤ}
use Rattle.stapl_meaning.specs.declared.values.Value.{Value}
use Rattle.stapl_meaning.specs.declared.values.Value.TheVariants.{Int, Bit}
use Rattle.stapl_meaning.specs.declared.values.ValueKind.{ValueKind}
use Rattle.stapl_meaning.specs.declared.values.ValueKind.TheVariants as kinds
use Rattle.stapl_code.specs.declared.raw.VarDef.{VarDef}
use Rattle.stapl_code.specs.Machine.{Slot, taken_onto}
use Rattle.stapl_code.specs.Kinds.{taken_off, slot_kind, all_off}
use Rattle.stapl_code.proofs.KindCounts.{then_some}

abbrev pub kind_of : Value → ValueKind
kind_of (Int z) = kinds.Int
kind_of (Bit b) = kinds.Bit

abbrev pub kinds_of : List Value → List ValueKind
kinds_of [] = []
kinds_of (v ∷ vs) = kind_of v ∷ kinds_of vs

-- this holds of all values of a kind
abbrev pub EachOf : Option ValueKind → (Value → Type 0) → Type 0
EachOf None P = Unit {0}
EachOf (Some kinds.Int) P = (z : ℤ) → P (Int z)
EachOf (Some kinds.Bit) P = (b : Bool) → P (Bit b)

pub each_of : (o : Option ValueKind) (P : Value → Type 0) → ((v : Value) → o ≡ Some (kind_of v) → P v) → EachOf o P
each_of None P all = tt
each_of (Some kinds.Int) P all = λ z. all (Int z) refl
each_of (Some kinds.Bit) P all = λ b. all (Bit b) refl

pub each_more : (o : Option ValueKind) (P Q : Value → Type 0) → ((v : Value) → P v → Q v) → EachOf o P → EachOf o Q
each_more None P Q f all = tt
each_more (Some kinds.Int) P Q f all = λ z. f (Int z) (all z)
each_more (Some kinds.Bit) P Q f all = λ b. f (Bit b) (all b)

of_each : (o : Option ValueKind) (P : Value → Type 0) → EachOf o P → (v : Value) → o ≡ Some (kind_of v) → P v
of_each None P all v e = absurd cc
of_each (Some kinds.Int) P all (Int z) e = all z
of_each (Some kinds.Bit) P all (Bit b) e = all b
of_each (Some kinds.Int) P all (Bit b) e = absurd (let k : kinds.Int ≡ kinds.Bit = cc in cc)
of_each (Some kinds.Bit) P all (Int z) e = absurd (let k : kinds.Bit ≡ kinds.Int = cc in cc)

none_off : (o : Option ValueKind) (below : List ValueKind) → taken_off o [] ≡ Some below → ⊥
none_off None below e = cc
none_off (Some k) below e = cc

one_off : (o : Option ValueKind) (v : Value) (ks below : List ValueKind) → taken_off o (kind_of v ∷ ks) ≡ Some below →
    (o ≡ Some (kind_of v)) × (ks ≡ below)
one_off None v ks below e = absurd cc
one_off (Some kinds.Int) (Int z) ks below e = (refl, cc)
one_off (Some kinds.Bit) (Bit b) ks below e = (refl, cc)
one_off (Some kinds.Int) (Bit b) ks below e = absurd cc
one_off (Some kinds.Bit) (Int z) ks below e = absurd cc

module _ (variables : List VarDef) where
  -- this holds of all lists of values that fill the slots
  abbrev pub Each : List Slot → (List Value → Type 0) → Type 0
  Each [] P = P []
  Each (slot ∷ slots) P = EachOf (slot_kind variables slot) (λ v. Each slots (λ vs. P (v ∷ vs)))

  -- values that fill the slots
  abbrev pub Fill : List Slot → List Value → Type 0
  Fill [] [] = Unit {0}
  Fill (slot ∷ slots) (v ∷ vs) = (slot_kind variables slot ≡ Some (kind_of v)) × Fill slots vs
  Fill _ _ = ⊥

  pub each_at : (slots : List Slot) (P : List Value → Type 0) → Each slots P → (vs : List Value) → Fill slots vs → P vs
  each_at [] P all [] fill = all
  each_at [] P all (v ∷ vs) fill = absurd fill
  each_at (slot ∷ slots) P all [] fill = absurd fill
  each_at (slot ∷ slots) P all (v ∷ vs) fill =
      let here = of_each (slot_kind variables slot) (λ v. Each slots (λ vs. P (v ∷ vs))) all v fill.0 in
      each_at slots (λ vs. P (v ∷ vs)) here vs fill.1

  pub each_map : (slots : List Slot) (P Q : List Value → Type 0) → ((vs : List Value) → P vs → Q vs) →
      Each slots P → Each slots Q
  each_map [] P Q f all = f [] all
  each_map (slot ∷ slots) P Q f all =
      each_more (slot_kind variables slot) (λ v. Each slots (λ vs. P (v ∷ vs))) (λ v. Each slots (λ vs. Q (v ∷ vs)))
      (λ v. each_map slots (λ vs. P (v ∷ vs)) (λ vs. Q (v ∷ vs)) (λ vs. f (v ∷ vs))) all

  -- what holds of all values that fill the slots
  pub each_filled : (slots : List Slot) (P : List Value → Type 0) → ((vs : List Value) → Fill slots vs → P vs) → Each slots P
  each_filled [] P all = all [] tt
  each_filled (slot ∷ slots) P all =
      each_of (slot_kind variables slot) (λ v. Each slots (λ vs. P (v ∷ vs))) (λ v e. each_filled slots (λ vs. P (v ∷ vs)) (λ vs fill. all (v ∷ vs) (e, fill)))

  pub filled_count : (slots : List Slot) (vs : List Value) → Fill slots vs → length vs ≡ length slots
  filled_count [] [] fill = refl
  filled_count [] (v ∷ vs) fill = absurd fill
  filled_count (slot ∷ slots) [] fill = absurd fill
  filled_count (slot ∷ slots) (v ∷ vs) fill = ap suc (filled_count slots vs fill.1)

  -- values that fill slots and others fill each
  pub record FillBoth (first second : List Slot) (vs : List Value) : Type 0 where
    pub front : List Value
    pub back : List Value
    pub whole : vs ≡ front ++ back
    pub fill_front : Fill first front
    pub fill_back : Fill second back

  pub fill_parts : (first second : List Slot) (vs : List Value) → Fill (first ++ second) vs → FillBoth first second vs
  fill_parts [] second vs fill = record { front = []; back = vs; whole = refl; fill_front = tt; fill_back = fill }
  fill_parts (slot ∷ first) second [] fill = absurd fill
  fill_parts (slot ∷ first) second (v ∷ vs) fill =
      let rest = fill_parts first second vs fill.1 in
      record {
        front = v ∷ rest.front;
        back = rest.back;
        whole = ap (λ l. v ∷ l) rest.whole;
        fill_front = (fill.0, rest.fill_front);
        fill_back = rest.fill_back;
      }

  -- operands that fill the slots were taken off
  pub record Taken (wanted : List Slot) (m : ℕ) (done ops : List Value) (below : List ValueKind) : Type 0 where
    pub values : List Value
    pub rest : List Value
    pub are : taken_onto (length wanted + m) done ops ≡ taken_onto m (values ++ done) rest
    pub fill : Fill wanted values
    pub left : kinds_of rest ≡ below

  pub taken_as : (wanted : List Slot) (m : ℕ) (done ops : List Value) (below : List ValueKind) →
      all_off variables wanted (kinds_of ops) ≡ Some below → Taken wanted m done ops below
  taken_as [] m done ops below e =
      let n : 0 + m ≡ m = omega arith in
      record { values = []; rest = ops; are = ap (λ (n : ℕ). taken_onto n done ops) n; fill = tt; left = cc }
  taken_as (slot ∷ wanted) m done ops below e =
      let t = then_some (all_off variables wanted (kinds_of ops)) (taken_off (slot_kind variables slot)) below e in
      one_more t.0 (taken_as wanted (suc m) done ops t.0 t.1) t.2
    where
      top : (values rest : List Value) →
          taken_onto (length wanted + suc m) done ops ≡ taken_onto (suc m) (values ++ done) rest → Fill wanted values →
          taken_off (slot_kind variables slot) (kinds_of rest) ≡ Some below → Taken (slot ∷ wanted) m done ops below
      top values [] are fill e = absurd (none_off (slot_kind variables slot) below e)
      top values (v ∷ rest) are fill e =
          let both = one_off (slot_kind variables slot) v (kinds_of rest) below e in
          let n : length (slot ∷ wanted) + m ≡ length wanted + suc m = omega arith in
          record {
            values = v ∷ values;
            rest = rest;
            are = ap (λ (n : ℕ). taken_onto n done ops) n ∙ are;
            fill = (both.0, fill);
            left = both.1;
          }

      one_more : (mid : List ValueKind) → Taken wanted (suc m) done ops mid →
          taken_off (slot_kind variables slot) mid ≡ Some below → Taken (slot ∷ wanted) m done ops below
      one_more mid t e = top t.values t.rest t.are t.fill (ap (taken_off (slot_kind variables slot)) t.left ∙ e)
