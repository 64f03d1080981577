-- Tokens that are written one after the other.
use Rattle.std.proofs.Common.{◌≡◌, ℕ, Bool, true, false, ◌||◌, ◌&&◌, List, [], ◌∷◌, ◌++◌, refl, sym, ap, ◌∙◌, append_assoc, append-nil, zero, suc, map, drop}
use Rattle.std.proofs.Common.{get_or, length, ◌+◌, ◌<◌, arith, add-one}
use Rattle.std.proofs.Math.Seq.{drop-cons}
use Rattle.std.specs.Prelude.{if◌then◌else◌, Result, Ok, Err, OnOk}
use Rattle.canonical_writer.specs.declared.writer.Shape.{Shape}
use Rattle.canonical_writer.specs.declared.writer.Shape.TheVariants as shapes
use Rattle.stapl_lexer.specs.declared.terminal.Mark.TheVariants as marks
use Rattle.stapl_syntax.specs.declared.signs.Sign.TheVariants as signs
use Rattle.stapl_syntax.specs.Symbols.{Plain}
use Rattle.canonical_text.specs.PrintedTokens.{Printed, Seen, UnaryMark, spelling}
use Rattle.canonical_text.specs.Spacing.{leans_on, leans_back, is_function, is_left_round, touches, gap, spaced}
use Rattle.canonical_text.specs.PrintedStatements.{separated_tokens, body_tokens, label_tokens, stmt_tokens}
use Rattle.canonical_text.specs.CanonicalText.{line}
use Rattle.stapl_syntax.specs.Trees.{StmtTree}
use Rattle.canonical_writer.specs.Written.{Written, shape_of, shapes_touch, put_as, written_one, written, line_begun}

pub written_append : (w : Written) (a b : List Printed) → written w (a ++ b) ≡ written (written w a) b
written_append w [] b = refl
written_append w (t ∷ a) b = written_append (written_one w t) a b

-- ---- what is written token by token is the tokens with their spaces

abbrev on : Shape → Bool
on shapes.Nothing = true
on shapes.LeansOn = true
on shapes.LeansBoth = true
on shapes.Round = true
on _ = false

abbrev back : Shape → Bool
back shapes.LeansBack = true
back shapes.LeansBoth = true
back _ = false

abbrev calls : Shape → Bool
calls shapes.Function = true
calls _ = false

abbrev round : Shape → Bool
round shapes.Round = true
round _ = false

shapes_are : (a b : Shape) → shapes_touch a b ≡ (on a || back b || (calls a && round b))
unfolding shapes_touch
shapes_are shapes.Nothing b = refl
shapes_are shapes.Usual shapes.Nothing = refl
shapes_are shapes.Usual shapes.Usual = refl
shapes_are shapes.Usual shapes.LeansBack = refl
shapes_are shapes.Usual shapes.LeansOn = refl
shapes_are shapes.Usual shapes.LeansBoth = refl
shapes_are shapes.Usual shapes.Function = refl
shapes_are shapes.Usual shapes.Round = refl
shapes_are shapes.LeansBack shapes.Nothing = refl
shapes_are shapes.LeansBack shapes.Usual = refl
shapes_are shapes.LeansBack shapes.LeansBack = refl
shapes_are shapes.LeansBack shapes.LeansOn = refl
shapes_are shapes.LeansBack shapes.LeansBoth = refl
shapes_are shapes.LeansBack shapes.Function = refl
shapes_are shapes.LeansBack shapes.Round = refl
shapes_are shapes.LeansOn b = refl
shapes_are shapes.LeansBoth b = refl
shapes_are shapes.Function shapes.Nothing = refl
shapes_are shapes.Function shapes.Usual = refl
shapes_are shapes.Function shapes.LeansBack = refl
shapes_are shapes.Function shapes.LeansOn = refl
shapes_are shapes.Function shapes.LeansBoth = refl
shapes_are shapes.Function shapes.Function = refl
shapes_are shapes.Function shapes.Round = refl
shapes_are shapes.Round b = refl

on_same : (t : Printed) → on (shape_of t) ≡ leans_on t
unfolding leans_on leans_back is_function is_left_round
on_same (UnaryMark op) = refl
on_same (Seen (Plain (signs.Mark marks.LeftRound))) = refl
on_same (Seen (Plain (signs.Mark marks.LeftSquare))) = refl
on_same (Seen (Plain (signs.Mark marks.Dots))) = refl
on_same (Seen (Plain (signs.Mark marks.Comma))) = refl
on_same (Seen (Plain (signs.Mark marks.Colon))) = refl
on_same (Seen (Plain (signs.Mark marks.RightRound))) = refl
on_same (Seen (Plain (signs.Mark marks.RightSquare))) = refl
on_same (Seen (Plain (signs.Function f))) = refl
on_same _ = refl

back_same : (t : Printed) → back (shape_of t) ≡ leans_back t
unfolding leans_on leans_back is_function is_left_round
back_same (UnaryMark op) = refl
back_same (Seen (Plain (signs.Mark marks.LeftRound))) = refl
back_same (Seen (Plain (signs.Mark marks.LeftSquare))) = refl
back_same (Seen (Plain (signs.Mark marks.Dots))) = refl
back_same (Seen (Plain (signs.Mark marks.Comma))) = refl
back_same (Seen (Plain (signs.Mark marks.Colon))) = refl
back_same (Seen (Plain (signs.Mark marks.RightRound))) = refl
back_same (Seen (Plain (signs.Mark marks.RightSquare))) = refl
back_same (Seen (Plain (signs.Function f))) = refl
back_same _ = refl

calls_same : (t : Printed) → calls (shape_of t) ≡ is_function t
unfolding leans_on leans_back is_function is_left_round
calls_same (UnaryMark op) = refl
calls_same (Seen (Plain (signs.Mark marks.LeftRound))) = refl
calls_same (Seen (Plain (signs.Mark marks.LeftSquare))) = refl
calls_same (Seen (Plain (signs.Mark marks.Dots))) = refl
calls_same (Seen (Plain (signs.Mark marks.Comma))) = refl
calls_same (Seen (Plain (signs.Mark marks.Colon))) = refl
calls_same (Seen (Plain (signs.Mark marks.RightRound))) = refl
calls_same (Seen (Plain (signs.Mark marks.RightSquare))) = refl
calls_same (Seen (Plain (signs.Function f))) = refl
calls_same _ = refl

round_same : (t : Printed) → round (shape_of t) ≡ is_left_round t
unfolding leans_on leans_back is_function is_left_round
round_same (UnaryMark op) = refl
round_same (Seen (Plain (signs.Mark marks.LeftRound))) = refl
round_same (Seen (Plain (signs.Mark marks.LeftSquare))) = refl
round_same (Seen (Plain (signs.Mark marks.Dots))) = refl
round_same (Seen (Plain (signs.Mark marks.Comma))) = refl
round_same (Seen (Plain (signs.Mark marks.Colon))) = refl
round_same (Seen (Plain (signs.Mark marks.RightRound))) = refl
round_same (Seen (Plain (signs.Mark marks.RightSquare))) = refl
round_same (Seen (Plain (signs.Function f))) = refl
round_same _ = refl

-- the shapes of two tokens say whether they touch
touch_same : (t u : Printed) → shapes_touch (shape_of t) (shape_of u) ≡ touches t u
touch_same t u =
    shapes_are (shape_of t) (shape_of u)
    ∙ ap (λ (b : Bool). b || back (shape_of u) || (calls (shape_of t) && round (shape_of u))) (on_same t)
    ∙ ap (λ (b : Bool). leans_on t || b || (calls (shape_of t) && round (shape_of u))) (back_same u)
    ∙ ap (λ (b : Bool). leans_on t || leans_back u || (b && round (shape_of u))) (calls_same t)
    ∙ ap (λ (b : Bool). leans_on t || leans_back u || (is_function t && b)) (round_same u)

after : (front : List ℕ) (t : Printed) (ts : List Printed) → (written (record { bytes = front ++ spelling t; last = shape_of t }) ts).bytes ≡ front ++ spaced (t ∷ ts)
after front t [] = refl
after front t (u ∷ us) =
    ap (λ (b : Bool). (written (record { bytes = (front ++ spelling t) ++ ((if b then [] else 32 ∷ []) ++ spelling u); last = shape_of u }) us).bytes) (touch_same t u)
    ∙ ap (λ (v : List ℕ). (written (record { bytes = v; last = shape_of u }) us).bytes) (sym (append_assoc (front ++ spelling t) (gap t u) (spelling u)))
    ∙ after ((front ++ spelling t) ++ gap t u) u us
    ∙ append_assoc (front ++ spelling t) (gap t u) (spaced (u ∷ us)) ∙ append_assoc front (spelling t) (gap t u ++ spaced (u ∷ us))

-- where no token stood before
pub written_bytes : (front : List ℕ) (ts : List Printed) → (written (record { bytes = front; last = shapes.Nothing }) ts).bytes ≡ front ++ spaced ts
unfolding shapes_touch
written_bytes front [] = sym (append-nil front)
written_bytes front (t ∷ ts) = after front t ts

-- a fact of a call that did not fail, carried on
pub on_ok : {A E P Q : Type 0} (result : Result A E) → (P → Q) → OnOk result P → OnOk result Q
on_ok (Ok x) carry p = carry p
on_ok (Err e) carry p = p

-- ---- strings and lists

-- a string is put in three pieces
pub text_put : (bytes : List ℕ) (old a b new : Written) → a ≡ put_as old (34 ∷ []) shapes.Usual → b ≡ record a { bytes = a.bytes ++ bytes } →
    new ≡ record b { bytes = b.bytes ++ 34 ∷ [] } → new ≡ put_as old (34 ∷ bytes ++ 34 ∷ []) shapes.Usual
text_put bytes old a b new e f g =
    let front : List ℕ = if shapes_touch old.last shapes.Usual then [] else 32 ∷ [] in
    let joined : ((old.bytes ++ (front ++ 34 ∷ [])) ++ bytes) ++ 34 ∷ [] ≡ old.bytes ++ (front ++ (34 ∷ bytes ++ 34 ∷ [])) =
    append_assoc (old.bytes ++ (front ++ 34 ∷ [])) bytes (34 ∷ [])
    ∙ append_assoc old.bytes (front ++ 34 ∷ []) (bytes ++ 34 ∷ [])
    ∙ ap (λ (v : List ℕ). old.bytes ++ v) (append_assoc front (34 ∷ []) (bytes ++ 34 ∷ [])) in
    g ∙ ap (λ (w : Written). record w { bytes = w.bytes ++ 34 ∷ [] }) f
    ∙ ap (λ (w : Written). record w { bytes = (w.bytes ++ bytes) ++ 34 ∷ [] }) e
    ∙ ap (λ (v : List ℕ). record { bytes = v; last = shapes.Usual }) joined

-- the items after the first, each with the token before it
abbrev pub rest_tokens : {A : Type 0} → (A → List Printed) → Printed → List A → List Printed
rest_tokens write t [] = []
rest_tokens write t (x ∷ xs) = (t ∷ write x) ++ rest_tokens write t xs

separated_is : {A : Type 0} (write : A → List Printed) (t : Printed) (x : A) (xs : List A) → separated_tokens write t (x ∷ xs) ≡ write x ++ rest_tokens write t xs
separated_is write t x [] = sym (append-nil (write x))
separated_is write t x (y ∷ ys) = ap (λ (v : List Printed). write x ++ (t ∷ v)) (separated_is write t y ys)

pub first_item : {A : Type 0} (write : A → List Printed) (t : Printed) (w : Written) (x : A) (xs : List A) →
    written (written w (write x)) (rest_tokens write t xs) ≡ written w (separated_tokens write t (x ∷ xs))
first_item write t w x xs = sym (written_append w (write x) (rest_tokens write t xs)) ∙ ap (written w) (sym (separated_is write t x xs))

pub next_item : {A : Type 0} (write : A → List Printed) (t : Printed) (w : Written) (x : A) (xs : List A) →
    written (written (written w (t ∷ [])) (write x)) (rest_tokens write t xs) ≡ written w (rest_tokens write t (x ∷ xs))
next_item write t w x xs = sym (written_append (written w (t ∷ [])) (write x) (rest_tokens write t xs))

-- what is left to write of a list after so many items
abbrev pub left_tokens : {A : Type 0} → (A → List Printed) → Printed → ℕ → List A → List Printed
left_tokens write t zero xs = separated_tokens write t xs
left_tokens write t (suc i) xs = rest_tokens write t xs

pub first_left : {A : Type 0} (write : A → List Printed) (t : Printed) (w : Written) (i : ℕ) (x : A) (xs : List A) → i ≡ 0 →
    written (written w (write x)) (left_tokens write t (i + 1) xs) ≡ written w (left_tokens write t i (x ∷ xs))
first_left write t w zero x xs e = first_item write t w x xs
first_left write t w (suc i) x xs e = absurd (omega (arith, e))

pub next_left : {A : Type 0} (write : A → List Printed) (t : Printed) (w : Written) (i : ℕ) (x : A) (xs : List A) → 0 < i →
    written (written (written w (t ∷ [])) (write x)) (left_tokens write t (i + 1) xs) ≡ written w (left_tokens write t i (x ∷ xs))
next_left write t w zero x xs lt = absurd (omega arith)
next_left write t w (suc i) x xs lt = rw (add-one (suc i)) (next_item write t w x xs)

-- one item more is written: this one, after the token between two, if it is not the first
module _ {A : Type 0} (write : A → List Printed) (t : Printed) (i : ℕ) (xs : List A) (x : A) (below : i < length xs) (is : x ≡ get_or xs i x)
    (start whole now : Written) (so_far : written start (left_tokens write t i (drop i xs)) ≡ whole) where
  split : drop i xs ≡ x ∷ drop (i + 1) xs
  split = drop-cons xs i x below ∙ ap (λ (y : A). y ∷ drop (suc i) xs) (sym is) ∙ ap (λ (k : ℕ). x ∷ drop k xs) (sym (add-one i))

  pub item_first : i ≡ 0 → now ≡ written start (write x) → written now (left_tokens write t (i + 1) (drop (i + 1) xs)) ≡ whole
  item_first e put =
      ap (λ (w : Written). written w (left_tokens write t (i + 1) (drop (i + 1) xs))) put
      ∙ first_left write t start i x (drop (i + 1) xs) e
      ∙ ap (λ (v : List A). written start (left_tokens write t i v)) (sym split) ∙ so_far

  pub item_next : 0 < i → now ≡ written (written start (t ∷ [])) (write x) → written now (left_tokens write t (i + 1) (drop (i + 1) xs)) ≡ whole
  item_next lt put =
      ap (λ (w : Written). written w (left_tokens write t (i + 1) (drop (i + 1) xs))) put
      ∙ next_left write t start i x (drop (i + 1) xs) lt
      ∙ ap (λ (v : List A). written start (left_tokens write t i v)) (sym split) ∙ so_far

-- the tokens of a list of values that a function gives
pub separated_of_mapped : {A B : Type 0} (f : A → B) (write : B → List Printed) (t : Printed) (xs : List A) →
    separated_tokens write t (map f xs) ≡ separated_tokens (λ x. write (f x)) t xs
separated_of_mapped f write t [] = refl
separated_of_mapped f write t (x ∷ []) = refl
separated_of_mapped f write t (x ∷ y ∷ ys) = ap (λ (v : List Printed). write (f x) ++ (t ∷ v)) (separated_of_mapped f write t (y ∷ ys))

-- a line is put: its label, its statement, a semicolon and a line feed
pub line_put : (before : List ℕ) (st : StmtTree) (a b c new : Written) → a ≡ line_begun before → b ≡ written a (label_tokens st.label) →
    c ≡ written b (body_tokens st.body) → new ≡ record c { bytes = c.bytes ++ 59 ∷ 10 ∷ [] } → new.bytes ≡ before ++ line st
line_put before st a b c new e f g h =
    ap (λ (w : Written). w.bytes) h
    ∙ ap (λ (w : Written). w.bytes ++ 59 ∷ 10 ∷ [])
    (g ∙ ap (λ (w : Written). written w (body_tokens st.body)) (f ∙ ap (λ (w : Written). written w (label_tokens st.label)) e)
    ∙ sym (written_append (line_begun before) (label_tokens st.label) (body_tokens st.body)))
    ∙ ap (λ (v : List ℕ). v ++ 59 ∷ 10 ∷ []) (written_bytes before (stmt_tokens st))
    ∙ append_assoc before (spaced (stmt_tokens st)) (59 ∷ 10 ∷ [])
