-- The tokens of a printed statement can be spelled, if those of some writing of it can; and its initial values are 32-bit
-- integers with a sign.
use Rattle.std.proofs.Common.{◌≡◌, ℕ, ℤ, pos, negsuc, ◌+◌, ◌-◌, ◌%◌, ◌^◌, ◌<◌, suc, Bool, true, false, not, ◌&&◌, List, [], ◌∷◌, ◌++◌, Option, Some, None, inl}
use Rattle.std.proofs.Common.{inr, refl, sym, ap, subst, ◌∙◌, arith}
use Rattle.std.specs.Prelude.{nat_lt}
use Rattle.std.specs.Int.{w32, cast_signed, cast_unsigned}
use Rattle.std.specs.Int.RustNames.{FitsSigned}
use Rattle.std.specs.List.{list_all, AllByRecursion}
use Rattle.std.proofs.lemmas.Bool.{and_parts, cases_lt}
use Rattle.std.proofs.lemmas.Bool.Decides.{nat_tests}
use Rattle.std.proofs.lemmas.Int.{to_z_pos, to_z-of_z, of_z-to_z}
use Rattle.std.proofs.Math.Facts.{Fits-of_z, sfits_to_z, to_z-neg}
use Rattle.stapl_lexer.specs.ReservedWords.{word_terminal}
use Rattle.stapl_lexer.specs.declared.terminal.InnerWord.TheVariants as inner_words
use Rattle.stapl_syntax.specs.Symbols.{Symbol}
use Rattle.stapl_syntax.specs.Trees.{BodyTree, integer, integer_array, if_then, StmtTree}
use Rattle.stapl_syntax.specs.Parts.{IsSigned, unsigned, minus, Part, a_name, a_signed, after, before, maybe_hz, both, maybe, either, listed, Separated}
use Rattle.stapl_syntax.specs.Parts.{IsPart, hz, size_part, signed_part, signed_list_part}
use Rattle.stapl_syntax.specs.Statements.{inner, IsBody, IsLabelled, Means}
use Rattle.canonical_text.specs.PrintedTokens.{unary_symbol}
use Rattle.canonical_text.specs.PrintedStatements.{signed_tokens, stmt_tokens}
use Rattle.canonical_text.specs.Spellable.{is_held, is_spellable_sign, is_spellable}
use Rattle.canonical_text.specs.InitialValues.{HoldsValues, HoldsInitialValues}
use Rattle.canonical_text.specs.Printable.{one_if, weight}
use Rattle.canonical_text.proofs.Grammar.{symbols}
use Rattle.canonical_text.proofs.Kept.{weight-append, LeavesOpen, NeedsSigned, means_kept}
use Rattle.canonical_text.proofs.Spelled.{held_cast}
use Rattle.canonical_text.proofs.TokenReads.{held_value}

abbrev pub unspelled : Symbol → Bool
unspelled t = not (is_spellable t)

none_unspelled : (s : List Symbol) → list_all is_spellable s ≡ true → weight unspelled s ≡ 0
none_unspelled [] all = refl
none_unspelled (t ∷ s) all =
    let parts = and_parts (is_spellable t) (list_all is_spellable s) all in
    omega (arith, ap (λ (b : Bool). one_if (not b)) parts.0, none_unspelled s parts.1)

all_spelled : (s : List Symbol) → weight unspelled s ≡ 0 → list_all is_spellable s ≡ true
all_spelled [] e = refl
all_spelled (t ∷ s) e = by (is_spellable t) e (λ f. all_spelled s f)
  where
    by : (b : Bool) → one_if (not b) + weight unspelled s ≡ 0 → (weight unspelled s ≡ 0 → list_all is_spellable s ≡ true) → (b && list_all is_spellable s) ≡ true
    by true e more = more (omega (arith, e))
    by false e more = absurd (omega (arith, e))

-- ---- initial values

-- what an initial value is printed as can be spelled
signed_ok_of : (u : ℕ) → u < 2 ^ 32 → weight unspelled (symbols (signed_tokens (cast_signed w32 u))) ≡ 0
unfolding is_spellable is_spellable_sign is_held unary_symbol
signed_ok_of u lt = elim (cases_lt u 2147483648) [
  | inl low ↦ ap (λ (z : ℤ). weight unspelled (symbols (signed_tokens z))) (to_z_pos w32 u low) ∙ positive u low
  | inr high ↦ negative (2 ^ 32 - suc u) (omega arith) (omega arith)
]
  where
    positive : (n : ℕ) → n < 2147483648 → weight unspelled (symbols (signed_tokens (pos n))) ≡ 0
    positive n low = ap (λ (b : Bool). one_if (not b) + 0) (below n low)
      where
        below : (n : ℕ) → n < 2147483648 → nat_lt n 2147483648 ≡ true
        below n lt = grind (arith, nat_tests)

    negative : (k : ℕ) → k < 2147483648 → u ≡ 2 ^ 32 - suc k → weight unspelled (symbols (signed_tokens (cast_signed w32 u))) ≡ 0
    negative k small u-is =
        let back : cast_signed w32 u ≡ negsuc k = ap (cast_signed w32) u-is ∙ to_z-neg w32 k small in
        let own : cast_unsigned w32 (negsuc k) ≡ 2 ^ 32 - suc k =
        ap (cast_unsigned w32) (sym (to_z-neg w32 k small)) ∙ of_z-to_z w32 (2 ^ 32 - suc k) (omega arith) in
        let turned : (2 ^ 32 - cast_unsigned w32 (negsuc k)) % 2 ^ 32 ≡ suc k = omega (arith, own) in
        ap (λ (z : ℤ). weight unspelled (symbols (signed_tokens z))) back
        ∙ ap (λ (n : ℕ). 0 + (one_if (not (is_held (cast_signed w32 n))) + 0)) turned
        ∙ ap (λ (b : Bool). 0 + (one_if (not b) + 0)) (held_cast (suc k) (omega arith))

signed_ok : (z : ℤ) → FitsSigned w32 z → weight unspelled (symbols (signed_tokens z)) ≡ 0
signed_ok z fits =
    ap (λ (y : ℤ). weight unspelled (symbols (signed_tokens y))) (sym (to_z-of_z w32 z fits)) ∙ signed_ok_of (cast_unsigned w32 z) (Fits-of_z fits).fits

held_fits : (z : ℤ) → is_held z ≡ true → FitsSigned w32 z
held_fits z e = let own = held_value z e in subst (FitsSigned w32) own.0 (sfits_to_z {w = w32} (record { fits = omega (arith, own.1) }))

signed_fits : {s : List Symbol} {z : ℤ} → IsSigned s z → weight unspelled s ≡ 0 → FitsSigned w32 z
unfolding is_spellable is_spellable_sign
signed_fits (unsigned {z = z}) e = held_fits z (by (is_held z) e)
  where
    by : (b : Bool) → one_if (not b) + 0 ≡ 0 → b ≡ true
    by true e = refl
    by false e = absurd (omega (arith, e))
signed_fits (minus {z = z}) e = sfits_to_z {w = w32} (record { fits = below ((2 ^ 32 - cast_unsigned w32 z) % 2 ^ 32) (omega arith) })
  where
    below : (n : ℕ) → n < 2 ^ 32 → n < 2 ^ 32
    below n lt = lt

abbrev Follows : ℕ → ℕ → Type 0
Follows a b = b ≡ 0 → a ≡ 0

follows_sum : (a b c d : ℕ) → Follows a b → Follows c d → Follows (a + c) (b + d)
follows_sum a b c d r q e = omega (arith, r (omega (arith, e)), q (omega (arith, e)))

spelled_out : LeavesOpen unspelled Follows
unfolding is_spellable is_spellable_sign word_terminal
spelled_out = record { wider = λ a b r e. r (omega (arith, e)); between = refl; unit = refl }

needs_spelled : (b : BodyTree) → NeedsSigned unspelled Follows spelled_out (λ n e. e) follows_sum b
needs_spelled (integer v z) = λ s z is e. signed_ok z (signed_fits is e)
needs_spelled (integer_array v n zs) = λ s z is e. signed_ok z (signed_fits is e)
needs_spelled (if_then e b) = needs_spelled b
needs_spelled _ = tt

-- what is printed for a statement can be spelled
pub printed_spelled : (s : List Symbol) (st : StmtTree) → Means s st → list_all is_spellable s ≡ true → list_all is_spellable (symbols (stmt_tokens st)) ≡ true
printed_spelled s st is all =
    all_spelled (symbols (stmt_tokens st)) (means_kept unspelled Follows spelled_out (λ n e. e) follows_sum s st (needs_spelled st.body) is (none_unspelled s all))

-- ---- initial values are 32-bit integers with a sign

none_left : (a b : List Symbol) (s : List Symbol) → s ≡ a ++ b → weight unspelled s ≡ 0 → weight unspelled a ≡ 0
none_left a b s e z = omega (arith, ap (weight unspelled) e, weight-append unspelled a b, z)

none_right : (a b : List Symbol) (s : List Symbol) → s ≡ a ++ b → weight unspelled s ≡ 0 → weight unspelled b ≡ 0
none_right a b s e z = omega (arith, ap (weight unspelled) e, weight-append unspelled a b, z)

none_after : (t : Symbol) (r s : List Symbol) → s ≡ t ∷ r → weight unspelled s ≡ 0 → weight unspelled r ≡ 0
none_after t r s e z = omega (arith, ap (weight unspelled) e, z)

separated_held : {A : Type 0} (P : A → List Symbol → Type 0) (Q : A → Type 0) (t : Symbol) → ((x : A) (s : List Symbol) → P x s → weight unspelled s ≡ 0 → Q x) →
    (xs : List A) (s : List Symbol) → Separated P t xs s → weight unspelled s ≡ 0 → AllByRecursion Q xs
separated_held P Q t each [] s is z = tt
separated_held P Q t each (x ∷ []) s is z = (each x s is z, tt)
separated_held P Q t each (x ∷ y ∷ ys) s is z = (
  each x is.0 is.3 (none_left is.0 (t ∷ is.1) s is.2 z),
  separated_held P Q t each (y ∷ ys) is.1 is.4 (none_after t is.1 (t ∷ is.1) refl (none_right is.0 (t ∷ is.1) s is.2 z)),
)

part_held : {A : Type 0} (p : Part A) (x : A) (s : List Symbol) → IsPart p x s → weight unspelled s ≡ 0 → HoldsValues p x
part_held a_signed x s is z = signed_fits is z
part_held (after t p) x s is z = part_held p x is.0 is.2 (none_after t is.0 s is.1 z)
part_held (before p t) x s is z = part_held p x is.0 is.2 (none_left is.0 (t ∷ []) s is.1 z)
part_held (maybe_hz p) x s (inl is) z = part_held p x s is z
part_held (maybe_hz p) x s (inr is) z = part_held p x is.0 is.2 (none_left is.0 (hz ∷ []) s is.1 z)
part_held (both p q) x s is z = (part_held p x.0 is.0 is.3 (none_left is.0 is.1 s is.2 z), part_held q x.1 is.1 is.4 (none_right is.0 is.1 s is.2 z))
part_held (maybe p) None s is z = tt
part_held (maybe p) (Some x) s is z = part_held p x s is z
part_held (either p q) (inl x) s is z = part_held p x s is z
part_held (either p q) (inr y) s is z = part_held q y s is z
part_held (listed t p) xs s is z = separated_held (IsPart p) (HoldsValues p) t (λ x s is z. part_held p x s is z) xs s is z
part_held _ x s is z = tt

start_held : (z : Option ℤ) (v : List ℕ) → HoldsValues signed_part z → HoldsInitialValues (integer v z)
start_held None v holds = tt
start_held (Some z) v holds = holds

starts_held : (zs : Option (List ℤ)) (v : List ℕ) (n : ℤ) → HoldsValues signed_list_part zs → HoldsInitialValues (integer_array v n zs)
starts_held None v n holds = tt
starts_held (Some zs) v n holds = holds

body_held : (s : List Symbol) (b : BodyTree) → IsBody s b → weight unspelled s ≡ 0 → HoldsInitialValues b
body_held s (integer v start) is z = start_held start v (part_held (after (inner inner_words.Integer) (both a_name signed_part)) (v, start) s is z).1
body_held s (integer_array v n start) is z =
    starts_held start v n (part_held (after (inner inner_words.Integer) (both a_name (both size_part signed_list_part))) (v, (n, start)) s is z).1.1
body_held s (if_then e b) is z =
    body_held is.1 b is.6 (none_after _ is.1 _ refl (none_right is.0 _ _ refl (none_after _ _ s is.2 z)))
body_held s _ is z = tt

labelled_held : (s : List Symbol) (label : Option (List ℕ)) (b : BodyTree) → IsLabelled s label b → weight unspelled s ≡ 0 → HoldsInitialValues b
labelled_held s None b is z = body_held s b is z
labelled_held s (Some v) b is z = body_held is.0 b is.3 (none_after _ is.0 _ refl (none_after _ _ s is.1 z))

pub holds_initial_values : (s : List Symbol) (st : StmtTree) → Means s st → list_all is_spellable s ≡ true → HoldsInitialValues st.body
holds_initial_values s st is all = labelled_held s st.label st.body is (none_unspelled s all)
