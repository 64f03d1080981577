-- On runs of places in words: two dots are in one way between decimal numbers.
use Rattle.std.proofs.Common.{◌≡◌, ℕ, List, [], ◌∷◌, ◌++◌, sym, refl, ap, ap₂, ◌∙◌, subst, codes, true, Option, None, Some, IfNone, IfSome}
use Rattle.std.proofs.lemmas.Bool.{and_parts}
use Rattle.std.proofs.lemmas.List.Folds.{list_all-append}
use Rattle.std.specs.Char.{is_ascii_digit}
use Rattle.std.specs.List.{list_all}
use Rattle.std.specs.Str.Parse.{digits_value}
use Rattle.base.specs.Decimals.{is_decimal}
use Rattle.command_words.specs.declared.place_run.PlaceRun.{PlaceRun}
use Rattle.command_words.specs.KeyedWords.{SpellsNumber, SpellsRun, of_one, of_two, NamesRun}
use Rattle.command_words.proofs.NumberLemmas.{digits_of}
use Rattle.command_words.proofs.ValueLemmas.{same_rest}

-- A dot (46) is no digit.

no_digit : is_ascii_digit 46 ≡ true → ⊥
no_digit h = absurd cc

-- decimal digits hold no dot after a front
no_dot : (front back : List ℕ) → list_all is_ascii_digit (front ++ (46 ∷ back)) ≡ true → ⊥
no_dot front back h =
    let both = and_parts (list_all is_ascii_digit front) (list_all is_ascii_digit (46 ∷ back)) (sym (list_all-append is_ascii_digit front (46 ∷ back)) ∙ h) in
    no_digit (and_parts (is_ascii_digit 46) (list_all is_ascii_digit back) both.1).0

-- so a number is not two of them with dots between
one_not_two : {least most n : ℕ} {spelling : List ℕ} (front back : List ℕ) → SpellsNumber least most spelling n → spelling ≡ front ++ (codes ".." ++ back) → ⊥
one_not_two front back x e =
    let d = digits_of (front ++ (codes ".." ++ back)) (subst (λ (z : List ℕ). is_decimal z ≡ true) e x.spelled) in
    no_dot front (46 ∷ back) d.0

-- and two of them are apart in one way
same_front : (a b front back : List ℕ) → list_all is_ascii_digit front ≡ true → list_all is_ascii_digit back ≡ true →
    a ++ (46 ∷ 46 ∷ b) ≡ front ++ (46 ∷ 46 ∷ back) → a ≡ front
same_front [] b [] back f g e = refl
same_front [] b (y ∷ front) back f g e =
    let dot : 46 ≡ y = cc in
    absurd (no_digit (subst (λ (z : ℕ). is_ascii_digit z ≡ true) (sym dot) (and_parts (is_ascii_digit y) (list_all is_ascii_digit front) f).0))
same_front (x ∷ []) b [] back f g e =
    let rest : 46 ∷ b ≡ back = cc in
    absurd (no_dot [] b (subst (λ (z : List ℕ). list_all is_ascii_digit z ≡ true) (sym rest) g))
same_front (x ∷ y ∷ a) b [] back f g e =
    let rest : a ++ (46 ∷ 46 ∷ b) ≡ back = cc in
    absurd (no_dot a (46 ∷ b) (subst (λ (z : List ℕ). list_all is_ascii_digit z ≡ true) (sym rest) g))
same_front (x ∷ a) b (y ∷ front) back f g e =
    let one : x ≡ y = cc in
    let rest : a ++ (46 ∷ 46 ∷ b) ≡ front ++ (46 ∷ 46 ∷ back) = cc in
    ap₂ (λ (z : ℕ) (l : List ℕ). z ∷ l) one (same_front a b front back (and_parts (is_ascii_digit y) (list_all is_ascii_digit front) f).1 g rest)

same_back : (front a b : List ℕ) → front ++ (46 ∷ 46 ∷ a) ≡ front ++ (46 ∷ 46 ∷ b) → a ≡ b
same_back front a b e = let rest : 46 ∷ 46 ∷ a ≡ 46 ∷ 46 ∷ b = same_rest front (46 ∷ 46 ∷ a) (46 ∷ 46 ∷ b) e in cc

-- both numbers are spelled the same way
record AreSame (a b front back : List ℕ) : Type 0 where
  pub fronts : a ≡ front
  pub backs : b ≡ back

same_numbers : {least most n l m k : ℕ} {spelling : List ℕ} (a b front back : List ℕ) → spelling ≡ a ++ (codes ".." ++ b) →
    spelling ≡ front ++ (codes ".." ++ back) → SpellsNumber least most front n → SpellsNumber l m back k → AreSame a b front back
same_numbers a b front back e f x y =
    let same = same_front a b front back (digits_of front x.spelled).0 (digits_of back y.spelled).0 (sym e ∙ f) in
    record {
      fronts = same;
      backs = same_back front b back (ap (λ (z : List ℕ). z ++ (46 ∷ 46 ∷ b)) (sym same) ∙ sym e ∙ f);
    }

-- Where a text spells no run.

pub no_place : {most : ℕ} {spelling : List ℕ} → ((front back : List ℕ) → spelling ≡ front ++ (codes ".." ++ back) → ⊥) →
    ((n : ℕ) → SpellsNumber 1 most spelling n → ⊥) → (run : PlaceRun) → SpellsRun most spelling run → ⊥
no_place apart none run (of_one x e) = none run.first x
no_place apart none run (of_two front back e x y) = apart front back e

pub no_first : {most : ℕ} {spelling : List ℕ} (a b : List ℕ) → spelling ≡ a ++ (codes ".." ++ b) →
    ((n : ℕ) → SpellsNumber 1 most a n → ⊥) → (run : PlaceRun) → SpellsRun most spelling run → ⊥
no_first a b s none run (of_one x e) = one_not_two a b x s
no_first {most = most} a b s none run (of_two front back e x y) =
    none run.first (subst (λ (z : List ℕ). SpellsNumber 1 most z run.first) (sym (same_numbers a b front back s e x y).fronts) x)

pub no_last : {most first : ℕ} {spelling : List ℕ} (a b : List ℕ) → spelling ≡ a ++ (codes ".." ++ b) → SpellsNumber 1 most a first →
    ((n : ℕ) → SpellsNumber first most b n → ⊥) → (run : PlaceRun) → SpellsRun most spelling run → ⊥
no_last a b s f none run (of_one x e) = one_not_two a b x s
no_last {most = most} {first = first} a b s f none run (of_two front back e x y) =
    let same = same_numbers a b front back s e x y in
    let begins : run.first ≡ first = x.value ∙ ap (λ (z : List ℕ). digits_value 10 z) (sym same.fronts) ∙ sym f.value in
    none run.last
    (subst (λ (z : List ℕ). SpellsNumber first most z run.last) (sym same.backs) (subst (λ (n : ℕ). SpellsNumber n most back run.last) begins y))

-- A text spells one run at most.

same_run : {a b : PlaceRun} → a.first ≡ b.first → a.last ≡ b.last → a ≡ b
same_run p q = ap₂ (λ (x y : ℕ). let run : PlaceRun = record { first = x; last = y } in run) p q

one_spelled : {most : ℕ} {spelling : List ℕ} {a b : PlaceRun} → SpellsRun most spelling a → SpellsRun most spelling b → a ≡ b
one_spelled (of_one x e) (of_one y f) = let same = x.value ∙ sym y.value in same_run same (e ∙ same ∙ sym f)
one_spelled (of_one x e) (of_two front back f y z) = absurd (one_not_two front back x f)
one_spelled (of_two front back e x y) (of_one z f) = absurd (one_not_two front back z e)
one_spelled (of_two a b e x y) (of_two front back f z w) =
    let same = same_numbers a b front back e f z w in
    same_run (x.value ∙ ap (λ (l : List ℕ). digits_value 10 l) same.fronts ∙ sym z.value)
    (y.value ∙ ap (λ (l : List ℕ). digits_value 10 l) same.backs ∙ sym w.value)

pub one_run : (key : List ℕ) (most : ℕ) (word : List ℕ) (a b : PlaceRun) → NamesRun key most word a → NamesRun key most word b → a ≡ b
one_run key most word a b x y =
    let same = same_rest key x.spelling y.spelling (sym x.keyed ∙ y.keyed) in
    one_spelled (subst (λ (z : List ℕ). SpellsRun most z a) same x.spells) y.spells

pub no_run : (word key rest : List ℕ) (most : ℕ) (found : Option PlaceRun) → word ≡ key ++ rest →
    IfNone found ((run : PlaceRun) → SpellsRun most rest run → ⊥) → IfNone found ((run : PlaceRun) → NamesRun key most word run → ⊥)
no_run word key rest most (Some n) after none = tt
no_run word key rest most None after none = λ n x.
    none n (subst (λ (z : List ℕ). SpellsRun most z n) (same_rest key x.spelling rest (sym x.keyed ∙ after)) x.spells)

pub some_run : (word key rest : List ℕ) (most : ℕ) (found : Option PlaceRun) → word ≡ key ++ rest →
    IfSome found (SpellsRun most rest) → IfSome found (NamesRun key most word)
some_run word key rest most (Some n) after spells = record { spelling = rest; keyed = after; spells = spells }
some_run word key rest most None after spells = tt

pub if_none : {A : Type 0} {P : Type 0} (o : Option A) → P → IfNone o P
if_none None p = p
if_none (Some x) p = tt
