-- Each word, whatever numbers it is made of, gives a value under a key or gives none.
use Rattle.std.proofs.Common.{◌≡◌, ◌≢◌, ◌<◌, ◌≤◌, ℕ, List, [], ◌∷◌, ◌++◌, map, refl, sym, ap, ◌∙◌, subst, arith, codes, Bool, true, false, ◌&&◌, ◌⊎◌, inl, inr}
use Rattle.std.proofs.lemmas.Bool.{and_parts, cases_lt, cases_eq, false≢true}
use Rattle.std.proofs.lemmas.Slice.Eq.{bytes_eq-Decides}
use Rattle.std.specs.Char.{is_ascii_digit}
use Rattle.std.specs.List.{list_all}
use Rattle.std.specs.Str.{bytes_eq, str_to_ascii_uppercase}
use Rattle.std.specs.Str.Parse.{digits_value}
use Rattle.base.specs.Decimals.{is_decimal}
use Rattle.stapl_lexer.specs.ReservedWords.{is_free_name}
use Rattle.command_words.specs.KeyedWords.{NamesPath, SpellsFreeName, NamesFreeName, parts_between_commas, SpellsNames, NamesList, SpellsNumber, NamesNumber, SpellsRun, of_one, of_two, NamesRun, answer_word, SaysAnswer}
use Rattle.command_words.specs.declared.place_run.PlaceRun.{PlaceRun}
use Rattle.command_words.proofs.NumberLemmas.{digits_of}
use Rattle.command_words.proofs.ValueLemmas.{same_rest}
use Rattle.command_words.proofs.RunLemmas.{no_first, no_last}

-- one thing has the property, or none has it
abbrev pub IsFoundOrNot : {A : Type 0} → (A → Type 0) → Type 0
IsFoundOrNot {A = A} P = ((x : A) × P x) ⊎ ((x : A) → P x → ⊥)

-- What stands after a key.

one_more : (k w : ℕ) (key word : List ℕ) → (w ≡ k) ⊎ (w ≡ k → ⊥) → IsFoundOrNot (λ (rest : List ℕ). word ≡ key ++ rest) →
    IsFoundOrNot (λ (rest : List ℕ). (w ∷ word) ≡ (k ∷ key) ++ rest)
one_more k w key word (inl same) (inl found) = inl (found.0, rw (same, found.1) refl)
one_more k w key word (inl same) (inr none) = inr (λ rest e. none rest cc)
one_more k w key word (inr differs) found = inr (λ rest e. differs cc)

after_key : (key word : List ℕ) → IsFoundOrNot (λ (rest : List ℕ). word ≡ key ++ rest)
after_key [] word = inl (word, refl)
after_key (k ∷ key) [] = inr (λ rest e. cc)
after_key (k ∷ key) (w ∷ word) = one_more k w key word (cases_eq w k) (after_key key word)

-- Whether a word gives a value, by whether what stands after the key spells one.

in_word : {A : Type 0} (key word : List ℕ) (Spells : List ℕ → A → Type 0) (P : A → Type 0) →
    ((rest : List ℕ) (x : A) → word ≡ key ++ rest → Spells rest x → P x) →
    ((x : A) → P x → (rest : List ℕ) × (word ≡ key ++ rest) × Spells rest x) →
    ((rest : List ℕ) → IsFoundOrNot (Spells rest)) → IsFoundOrNot (λ (rest : List ℕ). word ≡ key ++ rest) → IsFoundOrNot P
in_word key word Spells P gives given spells (inr none) = inr (λ x p. let g = given x p in none g.0 g.1)
in_word key word Spells P gives given spells (inl found) = by_rest (spells found.0)
  where
    by_rest : IsFoundOrNot (Spells found.0) → IsFoundOrNot P
    by_rest (inl spelled) = inl (spelled.0, gives found.0 spelled.0 found.1 spelled.1)
    by_rest (inr none) = inr (λ x p.
        let g = given x p in
        none x (subst (λ (rest : List ℕ). Spells rest x) (same_rest key g.0 found.0 (sym g.1 ∙ found.1)) g.2))

-- A path.

path_spelled : (rest : List ℕ) → IsFoundOrNot (λ (path : List ℕ). (path ≡ rest) × (path ≢ []))
path_spelled [] = inr (λ path p. p.1 p.0)
path_spelled (b ∷ rest) = inl (b ∷ rest, (refl, λ e. cc))

pub path_or_not : (key word : List ℕ) → IsFoundOrNot (NamesPath key word)
path_or_not key word =
    in_word key word (λ (rest path : List ℕ). (path ≡ rest) × (path ≢ [])) (NamesPath key word)
    (λ rest path after p. (after ∙ ap (λ (z : List ℕ). key ++ z) (sym p.0), p.1))
    (λ path p. (path, p.0, (refl, p.1))) path_spelled (after_key key word)

-- A name.

name_spelled_so : (rest : List ℕ) (free : Bool) → is_free_name rest ≡ free → IsFoundOrNot (SpellsFreeName rest)
name_spelled_so rest true e = inl (str_to_ascii_uppercase rest, record { spelled = e; upper = refl })
name_spelled_so rest false e = inr (λ name p. false≢true (sym e ∙ p.spelled))

pub free_name_or_not : (key word : List ℕ) → IsFoundOrNot (NamesFreeName key word)
free_name_or_not key word =
    in_word key word SpellsFreeName (NamesFreeName key word)
    (λ rest name after p. record { spelling = rest; keyed = after; spells = p }) (λ name p. (p.spelling, p.keyed, p.spells))
    (λ rest. name_spelled_so rest (is_free_name rest) refl) (after_key key word)

-- Names.

names_spelled_so : (rest : List ℕ) (free : Bool) → list_all is_free_name (parts_between_commas rest) ≡ free → IsFoundOrNot (SpellsNames rest)
names_spelled_so rest true e = inl (map str_to_ascii_uppercase (parts_between_commas rest), record { spelled = e; upper = refl })
names_spelled_so rest false e = inr (λ names p. false≢true (sym e ∙ p.spelled))

pub list_or_not : (key word : List ℕ) → IsFoundOrNot (NamesList key word)
list_or_not key word =
    in_word key word SpellsNames (NamesList key word)
    (λ rest names after p. record { spelling = rest; keyed = after; spells = p }) (λ names p. (p.spelling, p.keyed, p.spells))
    (λ rest. names_spelled_so rest (list_all is_free_name (parts_between_commas rest)) refl) (after_key key word)

-- A number.

number_spelled_so : (least most : ℕ) (rest : List ℕ) (decimal : Bool) → is_decimal rest ≡ decimal →
    (digits_value 10 rest < least) ⊎ (least ≤ digits_value 10 rest) → (most < digits_value 10 rest) ⊎ (digits_value 10 rest ≤ most) →
    IsFoundOrNot (SpellsNumber least most rest)
number_spelled_so least most rest false e low high = inr (λ n p. false≢true (sym e ∙ p.spelled))
number_spelled_so least most rest true e (inl less) high = inr (λ n p. let value = p.value in let enough = p.enough in omega arith)
number_spelled_so least most rest true e (inr enough) (inl more) = inr (λ n p. let value = p.value in let few = p.few in omega arith)
number_spelled_so least most rest true e (inr enough) (inr few) = inl (
  digits_value 10 rest,
  record {
    spelled = e;
    value = refl;
    enough = enough;
    few = few;
  },
)

spelled_or_not : (least most : ℕ) (rest : List ℕ) → IsFoundOrNot (SpellsNumber least most rest)
spelled_or_not least most rest =
    number_spelled_so least most rest (is_decimal rest) refl (cases_lt (digits_value 10 rest) least) (cases_lt most (digits_value 10 rest))

pub number_or_not : (key : List ℕ) (least most : ℕ) (word : List ℕ) → IsFoundOrNot (NamesNumber key least most word)
number_or_not key least most word =
    in_word key word (SpellsNumber least most) (NamesNumber key least most word)
    (λ rest n after p. record { spelling = rest; keyed = after; number = p }) (λ n p. (p.spelling, p.keyed, p.number))
    (spelled_or_not least most) (after_key key word)

-- A run of places.

-- two dots stand somewhere after digits
record HasCut (rest : List ℕ) : Type 0 where
  pub front : List ℕ
  pub back : List ℕ
  pub whole : rest ≡ front ++ (codes ".." ++ back)
  pub digits : list_all is_ascii_digit front ≡ true

no_cut : (front back : List ℕ) → [] ≡ front ++ (codes ".." ++ back) → ⊥
no_cut [] back e = cc
no_cut (x ∷ front) back e = cc

-- if they do not begin a text, they stand so in its rest
cut_later : (b : ℕ) (rest front back : List ℕ) → (b ∷ rest) ≡ front ++ (codes ".." ++ back) → list_all is_ascii_digit front ≡ true →
    ((after : List ℕ) → (b ∷ rest) ≡ codes ".." ++ after → ⊥) → HasCut rest × (is_ascii_digit b ≡ true)
cut_later b rest [] back e d none = absurd (none back e)
cut_later b rest (x ∷ front) back e d none =
    let both = and_parts (is_ascii_digit x) (list_all is_ascii_digit front) d in
    let one : x ≡ b = cc in
    let more : rest ≡ front ++ (codes ".." ++ back) = cc in
    (record { front = front; back = back; whole = more; digits = both.1 }, subst (λ (z : ℕ). is_ascii_digit z ≡ true) one both.0)

cut_or_not : (rest : List ℕ) → HasCut rest ⊎ (HasCut rest → ⊥)
cut_or_not [] = inr (λ h. no_cut h.front h.back h.whole)
cut_or_not (b ∷ rest) = by (after_key (codes "..") (b ∷ rest)) (is_ascii_digit b) refl (cut_or_not rest)
  where
    by : IsFoundOrNot (λ (after : List ℕ). (b ∷ rest) ≡ codes ".." ++ after) → (digit : Bool) → is_ascii_digit b ≡ digit →
        HasCut rest ⊎ (HasCut rest → ⊥) → HasCut (b ∷ rest) ⊎ (HasCut (b ∷ rest) → ⊥)
    by (inl found) digit is later = inl (record { front = []; back = found.0; whole = found.1; digits = refl })
    by (inr none) false is later = inr (λ h. false≢true (sym is ∙ (cut_later b rest h.front h.back h.whole h.digits none).1))
    by (inr none) true is (inr never) = inr (λ h. never (cut_later b rest h.front h.back h.whole h.digits none).0)
    by (inr none) true is (inl cut) = inl (record {
      front = b ∷ cut.front;
      back = cut.back;
      whole = ap (λ (z : List ℕ). b ∷ z) cut.whole;
      digits = ap (λ (z : Bool). z && list_all is_ascii_digit cut.front) is ∙ cut.digits;
    })

run_spelled_so : (most : ℕ) (rest : List ℕ) → IsFoundOrNot (SpellsNumber 1 most rest) → HasCut rest ⊎ (HasCut rest → ⊥) → IsFoundOrNot (SpellsRun most rest)
run_spelled_so most rest (inl found) cut = inl (record { first = found.0; last = found.0 }, of_one found.1 refl)
run_spelled_so most rest (inr none) (inr absent) = inr never
  where
    never : (run : PlaceRun) → SpellsRun most rest run → ⊥
    never run (of_one x e) = none run.first x
    never run (of_two front back e x y) = absent (record { front = front; back = back; whole = e; digits = (digits_of front x.spelled).0 })
run_spelled_so most rest (inr none) (inl cut) = by_first (spelled_or_not 1 most cut.front)
  where
    by_last : (first : ℕ) → SpellsNumber 1 most cut.front first → IsFoundOrNot (SpellsNumber first most cut.back) → IsFoundOrNot (SpellsRun most rest)
    by_last first x (inl last) = inl (record { first = first; last = last.0 }, of_two cut.front cut.back cut.whole x last.1)
    by_last first x (inr never) = inr (no_last cut.front cut.back cut.whole x never)

    by_first : IsFoundOrNot (SpellsNumber 1 most cut.front) → IsFoundOrNot (SpellsRun most rest)
    by_first (inl first) = by_last first.0 first.1 (spelled_or_not first.0 most cut.back)
    by_first (inr never) = inr (no_first cut.front cut.back cut.whole never)

pub run_or_not : (key : List ℕ) (most : ℕ) (word : List ℕ) → IsFoundOrNot (NamesRun key most word)
run_or_not key most word =
    in_word key word (SpellsRun most) (NamesRun key most word)
    (λ rest run after p. record { spelling = rest; keyed = after; spells = p }) (λ run p. (p.spelling, p.keyed, p.spells))
    (λ rest. run_spelled_so most rest (spelled_or_not 1 most rest) (cut_or_not rest)) (after_key key word)

-- An answer.

pub same_or_not : (a b : List ℕ) → (a ≡ b) ⊎ (a ≡ b → ⊥)
same_or_not a b = by_test (bytes_eq a b) refl
  where
    by_test : (same : Bool) → bytes_eq a b ≡ same → (a ≡ b) ⊎ (a ≡ b → ⊥)
    by_test true e = inl ((bytes_eq-Decides a b).0 e)
    by_test false e = inr (λ h. false≢true (sym e ∙ (bytes_eq-Decides a b).1 h))

answer_spelled_so : (rest : List ℕ) → (rest ≡ answer_word true) ⊎ (rest ≡ answer_word true → ⊥) →
    (rest ≡ answer_word false) ⊎ (rest ≡ answer_word false → ⊥) → IsFoundOrNot (λ (answer : Bool). rest ≡ answer_word answer)
answer_spelled_so rest (inl is) other = inl (true, is)
answer_spelled_so rest (inr not_yes) (inl is) = inl (false, is)
answer_spelled_so rest (inr not_yes) (inr not_no) = inr neither
  where
    neither : (answer : Bool) → rest ≡ answer_word answer → ⊥
    neither true e = not_yes e
    neither false e = not_no e

pub answer_or_not : (key word : List ℕ) → IsFoundOrNot (SaysAnswer key word)
answer_or_not key word =
    in_word key word (λ (rest : List ℕ) (answer : Bool). rest ≡ answer_word answer) (SaysAnswer key word)
    (λ rest answer after p. after ∙ ap (λ (z : List ℕ). key ++ z) p) (λ answer p. (answer_word answer, p, refl))
    (λ rest. answer_spelled_so rest (same_or_not rest (answer_word true)) (same_or_not rest (answer_word false))) (after_key key word)
