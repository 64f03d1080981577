-- A program with a padding of its own has exactly one first piece that sets one.
use Rattle.std.proofs.Common.{◌≡◌, ◌⊎◌, inl, inr, ℕ, zero, suc, ◌-◌, ◌<◌, ◌≤◌, ◌||◌, Bool, true, false, List, [], ◌∷◌, length, refl, sym, ap, ◌∙◌, arith}
use Rattle.std.proofs.lemmas.Bool.{true≢false, false≢true, or_parts, cases_order}
use Rattle.stapl_syntax.specs.Trees.{StmtTree}
use Rattle.carried_plays.specs.OwnPaddings.{sets_padding, has_own_padding, sets_padding_at, IsFirstPadding}

none_sets : (program : List StmtTree) → has_own_padding program ≡ false → (i : ℕ) → sets_padding_at program i ≡ false
none_sets [] e i = refl
none_sets (st ∷ rest) e zero = (or_parts (sets_padding st.body) (has_own_padding rest) e).0
none_sets (st ∷ rest) e (suc i) = none_sets rest (or_parts (sets_padding st.body) (has_own_padding rest) e).1 i

-- the first piece that sets a padding, by its index
record FirstIndex (program : List StmtTree) : Type 0 where
  index : ℕ
  within : index < length program
  sets : sets_padding_at program index ≡ true
  least : (i : ℕ) → i < index → sets_padding_at program i ≡ false

first_index : (program : List StmtTree) → has_own_padding program ≡ true → FirstIndex program
first_index [] e = absurd (false≢true e)
first_index (st ∷ rest) e = by (sets_padding st.body) refl (first_index rest)
  where
    least_after : (f : FirstIndex rest) → sets_padding st.body ≡ false → (i : ℕ) → i < suc f.index → sets_padding_at (st ∷ rest) i ≡ false
    least_after f g zero lt = g
    least_after f g (suc i) lt = f.least i (omega (arith, lt))

    by : (b : Bool) → sets_padding st.body ≡ b → (has_own_padding rest ≡ true → FirstIndex rest) → FirstIndex (st ∷ rest)
    by true g go = record { index = 0; within = omega arith; sets = g; least = λ i lt. absurd (omega (arith, lt)) }
    by false g go =
        let f : FirstIndex rest = go (sym (ap (λ t. t || has_own_padding rest) g) ∙ e) in
        record { index = suc f.index; within = omega (arith, f.within); sets = f.sets; least = least_after f g }

pub first_padding : (program : List StmtTree) → has_own_padding program ≡ true → (n : ℕ) × (n ≤ length program) × IsFirstPadding program n
first_padding program e =
    let f : FirstIndex program = first_index program e in
    let e : f.index ≡ suc f.index - 1 = omega arith in (
      suc f.index,
      omega (arith, f.within),
      record {
        counted = omega arith;
        sets = ap (sets_padding_at program) (sym e) ∙ f.sets;
        least = λ i lt. f.least i (omega (arith, lt));
      },
    )

pub no_first_padding : (program : List StmtTree) (n : ℕ) → has_own_padding program ≡ false → IsFirstPadding program n → ⊥
no_first_padding program n e first = true≢false (sym first.sets ∙ none_sets program e (n - 1))

pub one_first_padding : (program : List StmtTree) (n m : ℕ) → IsFirstPadding program n → IsFirstPadding program m → n ≡ m
one_first_padding program n m a b = by (cases_order (n - 1) (m - 1))
  where
    by : (n - 1 ≡ m - 1) ⊎ ((n - 1 < m - 1) ⊎ (m - 1 < n - 1)) → n ≡ m
    by (inl e) = omega (arith, e, a.counted, b.counted)
    by (inr (inl lt)) = absurd (true≢false (sym a.sets ∙ b.least (n - 1) lt))
    by (inr (inr lt)) = absurd (true≢false (sym b.sets ∙ a.least (m - 1) lt))
