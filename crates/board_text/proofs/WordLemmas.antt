-- The words of a line, taken from its front.
use Rattle.std.proofs.Common.{◌≡◌, ◌<◌, ◌≤◌, ◌+◌, ℕ, suc, List, [], ◌∷◌, length, take, drop, get_or, refl, sym, subst, ap, ◌∙◌, Bool, true, false, cond, arith, add-one, drop-cons, inl, inr}
use Rattle.std.specs.Prelude.{not, ◌==◌, filter}
use Rattle.std.specs.List.{position_or_len}
use Rattle.std.proofs.Math.Seq.{take-length, drop-length}
use Rattle.std.proofs.lemmas.Bool.{cases_lt, ne_eqb, not-true, not-false}
use Rattle.std.proofs.lemmas.List.{get_or-drop, length-drop}
use Rattle.std.proofs.lemmas.List.Splits.{slice_split-cons_yes, slice_split_first, slice_split_none}
use Rattle.std.proofs.lemmas.List.Sums.{prefix_len-le-length, prefix_len_passes, prefix_len_stops, passes_at_first}
use Rattle.board_text.specs.Lines.{is_blank, is_word_byte, words_of}

-- a word in front of others; where it has no byte there is no word at all
abbrev word_then : List ℕ → List (List ℕ) → List (List ℕ)
word_then [] words = []
word_then (b ∷ bs) words = (b ∷ bs) ∷ words

words_after_blank : (b : ℕ) (bs : List ℕ) → is_blank b ≡ true → words_of (b ∷ bs) ≡ words_of bs
words_after_blank b bs e = ap (filter (λ part. not (length part == 0))) (slice_split-cons_yes is_blank b bs e)

drop_after : (b : ℕ) (bs : List ℕ) (n : ℕ) → drop (1 + n) (b ∷ bs) ≡ drop n bs
drop_after b bs n = let e : 1 + n ≡ suc n = omega arith in ap (λ (k : ℕ). drop k (b ∷ bs)) e

-- blanks in front
skipped_at : (b : ℕ) (bs : List ℕ) (blank : Bool) → is_blank b ≡ blank → words_of (drop (position_or_len is_word_byte bs) bs) ≡ words_of bs →
    words_of (drop (cond (not (not blank)) (1 + position_or_len is_word_byte bs) 0) (b ∷ bs)) ≡ words_of (b ∷ bs)
skipped_at b bs true e h = ap words_of (drop_after b bs (position_or_len is_word_byte bs)) ∙ h ∙ sym (words_after_blank b bs e)
skipped_at b bs false e h = refl

blanks_skipped : (bs : List ℕ) → words_of (drop (position_or_len is_word_byte bs) bs) ≡ words_of bs
blanks_skipped [] = refl
blanks_skipped (b ∷ bs) = skipped_at b bs (is_blank b) refl (blanks_skipped bs)

-- the part in front of the first blank
abbrev IsSplit : List ℕ → ℕ → Type 0
IsSplit xs n = words_of xs ≡ cond (not (length (take n xs) == 0)) (take n xs ∷ words_of (drop n xs)) (words_of (drop n xs))

split_inside : (xs : List ℕ) → position_or_len is_blank xs < length xs → IsSplit xs (position_or_len is_blank xs)
split_inside xs lt =
    let n = position_or_len is_blank xs in
    let after : words_of (drop (n + 1) xs) ≡ words_of (drop n xs) =
    ap (λ (k : ℕ). words_of (drop k xs)) (add-one n)
    ∙ sym (ap words_of (drop-cons xs n 0 lt) ∙ words_after_blank (get_or xs n 0) (drop (suc n) xs) (passes_at_first is_blank xs 0 lt)) in
    ap (filter (λ part. not (length part == 0))) (slice_split_first is_blank xs 0 lt)
    ∙ ap (λ (ws : List (List ℕ)). cond (not (length (take n xs) == 0)) (take n xs ∷ ws) ws) after

split_whole : (xs : List ℕ) → length xs ≤ position_or_len is_blank xs → IsSplit xs (position_or_len is_blank xs)
split_whole xs ge =
    let n = position_or_len is_blank xs in
    let end : n ≡ length xs = omega (arith, prefix_len-le-length (λ (x : ℕ). not (is_blank x)) xs) in
    let whole : IsSplit xs (length xs) =
    rw (take-length xs, drop-length xs) (ap (filter (λ part. not (length part == 0)))
    (slice_split_none is_blank xs (λ k d lt. not-true _ (prefix_len_passes (λ (x : ℕ). not (is_blank x)) xs k d (omega arith))))) in
    subst (IsSplit xs) (sym end) whole

split_at_blank : (xs : List ℕ) → IsSplit xs (position_or_len is_blank xs)
split_at_blank xs = elim (cases_lt (position_or_len is_blank xs) (length xs)) [ inl lt ↦ split_inside xs lt | inr ge ↦ split_whole xs ge ]

front_some : (x : ℕ) (xs : List ℕ) (n m : ℕ) → n ≡ suc m → IsSplit (x ∷ xs) n → words_of (x ∷ xs) ≡ word_then (take n (x ∷ xs)) (words_of (drop n (x ∷ xs)))
front_some x xs n m e = subst (λ (k : ℕ). IsSplit (x ∷ xs) k → words_of (x ∷ xs) ≡ word_then (take k (x ∷ xs)) (words_of (drop k (x ∷ xs)))) (sym e)
    (λ h. h ∙ ap (λ (b : Bool). cond (not b) ((x ∷ take m xs) ∷ words_of (drop m xs)) (words_of (drop m xs))) (ne_eqb (length (x ∷ take m xs)) 0 (λ z. absurd (omega arith))))

-- a line that begins with no blank
front_word : (xs : List ℕ) → (0 < length xs → is_blank (get_or xs 0 0) ≡ false) →
    words_of xs ≡ word_then (take (position_or_len is_blank xs) xs) (words_of (drop (position_or_len is_blank xs) xs))
front_word [] h = refl
front_word (x ∷ xs) h =
    let e : is_blank x ≡ false = h (omega arith) in
    let n = position_or_len is_blank (x ∷ xs) in
    let m = position_or_len is_blank xs in
    let step : n ≡ 1 + m = ap (λ (b : Bool). cond (not b) (1 + m) 0) e in
    front_some x xs n m (omega arith) (split_at_blank (x ∷ xs))

starts : (xs : List ℕ) → 0 < length (drop (position_or_len is_word_byte xs) xs) → is_blank (get_or (drop (position_or_len is_word_byte xs) xs) 0 0) ≡ false
starts xs some =
    let j = position_or_len is_word_byte xs in
    let inside : j < length xs = omega (arith, length-drop j xs) in
    let at : get_or (drop j xs) 0 0 ≡ get_or xs j 0 = get_or-drop j xs 0 0 ∙ ap (λ (k : ℕ). get_or xs k 0) (omega arith) in
    ap is_blank at ∙ not-true _ (not-false _ (prefix_len_stops (λ (x : ℕ). not (is_word_byte x)) xs 0 inside))

first_word_is : (xs words front after : List ℕ) (j n : ℕ) → j ≡ position_or_len is_word_byte xs → words ≡ drop j xs → n ≡ position_or_len is_blank words →
    front ≡ take n words → after ≡ drop n words → words_of xs ≡ word_then front (words_of after)
first_word_is xs words front after j n j_is words_are n_is front_is after_is =
    let words_is : words ≡ drop (position_or_len is_word_byte xs) xs = words_are ∙ ap (λ (k : ℕ). drop k xs) j_is in
    let begins : 0 < length words → is_blank (get_or words 0 0) ≡ false =
    subst (λ (ws : List ℕ). 0 < length ws → is_blank (get_or ws 0 0) ≡ false) (sym words_is) (starts xs) in
    sym (ap words_of words_is ∙ blanks_skipped xs) ∙ front_word words begins
    ∙ ap (λ (k : ℕ). word_then (take k words) (words_of (drop k words))) (sym n_is)
    ∙ ap (λ (w : List ℕ). word_then w (words_of (drop n words))) (sym front_is)
    ∙ ap (λ (w : List ℕ). word_then front (words_of w)) (sym after_is)

-- a word that has a byte
one_then : (front : List ℕ) (ws words : List (List ℕ)) → 0 < length front → ws ≡ word_then front words → ws ≡ front ∷ words
one_then [] ws words some e = absurd (omega arith)
one_then (b ∷ bs) ws words some e = e

none_then : (front : List ℕ) (ws words : List (List ℕ)) → length front ≡ 0 → ws ≡ word_then front words → ws ≡ []
none_then [] ws words none e = e
none_then (b ∷ bs) ws words none e = absurd (omega arith)

pub some_word : (xs words front after : List ℕ) (j n : ℕ) → j ≡ position_or_len is_word_byte xs → words ≡ drop j xs → n ≡ position_or_len is_blank words →
    front ≡ take n words → after ≡ drop n words → 0 < length front → words_of xs ≡ front ∷ words_of after
some_word xs words front after j n a b c d e some = one_then front _ _ some (first_word_is xs words front after j n a b c d e)

pub no_word : (xs words front after : List ℕ) (j n : ℕ) → j ≡ position_or_len is_word_byte xs → words ≡ drop j xs → n ≡ position_or_len is_blank words →
    front ≡ take n words → after ≡ drop n words → length front ≡ 0 → words_of xs ≡ []
no_word xs words front after j n a b c d e none = none_then front _ _ none (first_word_is xs words front after j n a b c d e)
