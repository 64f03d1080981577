-- On the record stack, whose topmost record is the last of a list.
use Rattle.std.proofs.Common.{◌≡◌, ◌<◌, ◌≤◌, ℕ, zero, suc, ℤ, Some, ◌+◌, ◌-◌, Bool, false, List, [], ◌∷◌, ◌++◌, length, reverse, take, get_or, add-one, refl, sym, ap, ◌∙◌, arith}
use Rattle.std.specs.Prelude.{slice_get, ◌+ℤ◌, if◌then◌else◌}
use Rattle.std.specs.Int.{int_wrap, w32}
use Rattle.std.proofs.Math.Seq.{take-suc}
use Rattle.std.proofs.lemmas.List.{reverse-append}
use Rattle.std.proofs.lemmas.Bool.{eq-eqb}
use Rattle.stapl_meaning.specs.declared.records.Record.{Record}
use Rattle.stapl_meaning.specs.declared.records.Record.TheVariants.{Looped}
use Rattle.stapl_meaning.specs.declared.records.Loop.{Loop}
use Rattle.stapl_meaning.specs.declared.values.Held.{Held}
use Rattle.stapl_meaning.specs.declared.values.Value.TheVariants.{Int}
use Rattle.stapl_meaning.specs.Values.{Got, Known, then_get}
use Rattle.stapl_meaning.specs.States.{State, Did, Falls, Resumes}
use Rattle.stapl_meaning.specs.Effects.{nearest_loop, is_over, scalar_written, went_round, with_loop, with_variables, with_records}
use Rattle.machine_loops.specs.Loops.{IsNearest}
use Rattle.machine_memory.proofs.PrintLemmas.{item_at}

-- one record more
pub top_taken : (records : List Record) (at : ℕ) (r : Record) → at < length records → r ≡ get_or records at r →
    reverse (take (at + 1) records) ≡ r ∷ reverse (take at records)
top_taken records at r inside is =
    ap (λ (k : ℕ). reverse (take k records)) (add-one at)
    ∙ ap reverse (take-suc records at r inside)
    ∙ ap (λ (x : Record). reverse (take at records ++ x ∷ [])) (sym is)
    ∙ reverse-append (take at records) (r ∷ [])

-- a loop that is found on the way down
module _ (records : List Record) (n at : ℕ) (for_loop : Loop) (some : 0 < at) (inside : at ≤ length records) (is : Looped for_loop ≡ get_or records (at - 1) (Looped for_loop)) where
  abbrev below : List Record
  below = reverse (take (at - 1) records)

  down : reverse (take at records) ≡ Looped for_loop ∷ below
  down =
      let e : at ≡ at - 1 + 1 = omega arith in
      ap (λ (k : ℕ). reverse (take k records)) e ∙ top_taken records (at - 1) (Looped for_loop) (omega arith) is

  pub loop_found : for_loop.variable ≡ n → nearest_loop n (reverse records) ≡ nearest_loop n (reverse (take at records)) → IsNearest records n (record { at = at - 1; for_loop = for_loop })
  loop_found own same = record {
    there = omega arith;
    is = item_at records (at - 1) (Looped for_loop) (omega arith) is;
    of_variable = own;
    nearest =
        same ∙ ap (nearest_loop n) down
        ∙ ap (λ (b : Bool). let g : Got (Loop × List Record) = if b then Known (for_loop, below) else nearest_loop n below in g) (eq-eqb for_loop.variable n own);
  }

-- the nearest loop is known, and the integer of its variable
pub loop_known : (g : Got (Loop × List Record)) (h : Got ℤ) (l : Loop) (rest : List Record) (z : ℤ) (go : Loop → List Record → ℤ → Got Did) →
    g ≡ Known (l, rest) → h ≡ Known z → then_get g (λ top. then_get h (λ z. go top.0 top.1 z)) ≡ go l rest z
loop_known g h l rest z go e f =
    ap (λ g. then_get g (λ (top : Loop × List Record). then_get h (λ z. go top.0 top.1 z))) e ∙ ap (λ h. then_get h (λ z. go l rest z)) f

-- a loop goes round
pub round_more : (l : Loop) (records : List Record) (z next : ℤ) (s : State) (variables : List Held) → is_over l z ≡ false → next ≡ int_wrap w32 (z +ℤ l.step) →
    scalar_written s.store.variables l.variable (slice_get s.store.variables l.variable) (Int next) ≡ Known variables →
    went_round l records z s ≡ Known (Resumes l.place (with_variables (with_records s (Looped l ∷ records)) variables))
round_more l records z next s variables over e w =
    ap (λ (b : Bool). if b then Known (Falls [] (with_records s records))
    else then_get (with_loop l records (int_wrap w32 (z +ℤ l.step)) s) (λ t. Known (Resumes l.place t))) over
    ∙ ap (λ (x : ℤ). then_get (with_loop l records x s) (λ t. Known (Resumes l.place t))) (sym e)
    ∙ ap (λ (g : Got (List Held)). then_get (then_get g (λ vs. Known (with_variables (with_records s (Looped l ∷ records)) vs))) (λ t. Known (Resumes l.place t))) w

-- lists of three items
pub three_items : {A : Type 0} (xs : List A) (d : A) → 3 ≤ length xs → length xs < 4 → xs ≡ get_or xs 0 d ∷ get_or xs 1 d ∷ get_or xs 2 d ∷ []
three_items [] d h k = absurd (omega (arith, h))
three_items (x ∷ []) d h k = absurd (omega (arith, h))
three_items (x ∷ y ∷ []) d h k = absurd (omega (arith, h))
three_items (x ∷ y ∷ z ∷ []) d h k = refl
three_items (x ∷ y ∷ z ∷ w ∷ xs) d h k = absurd (omega (arith, k))

-- one record more, which is the item of that number
item_is : (records : List Record) (at : ℕ) (r : Record) → slice_get records at ≡ Some r → r ≡ get_or records at r
item_is [] at r e = absurd cc
item_is (x ∷ records) zero r e = cc
item_is (x ∷ records) (suc at) r e = item_is records at r e

pub top_taken_at : (records : List Record) (at : ℕ) (r : Record) → at < length records → slice_get records at ≡ Some r →
    reverse (take (at + 1) records) ≡ r ∷ reverse (take at records)
top_taken_at records at r inside e = top_taken records at r inside (item_is records at r e)
