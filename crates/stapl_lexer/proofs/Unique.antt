-- A text is divided in one way.
use Rattle.std.proofs.Common.{◌≡◌, ℕ, List, [], ◌∷◌, ◌++◌, refl, sym, ap, ◌∙◌, Bool, true, ◌&&◌, not, arith, subst, append_assoc}
use Rattle.std.proofs.lemmas.Bool.{and_parts}
use Rattle.stapl_lexer.specs.Segments.{Segment, Plain, Closed, Open, Comment, spelled, IsSegment, EndsLine, HasNone, ends_string, ends_comment, Divides}

-- the rest is empty or begins with a byte that passes
abbrev pub Stops : (ℕ → Bool) → List ℕ → Type 0
Stops ends [] = Unit {0}
Stops ends (b ∷ bs) = ends b ≡ true

head_fails : (ends : ℕ → Bool) (b : ℕ) (rest : Bool) → (not (ends b) && rest) ≡ true → ends b ≡ true → ⊥
head_fails ends b rest h e = grind (arith, h, e)

-- two fronts without such a byte are equal
pub same_front : (ends : ℕ → Bool) (xs ys r q : List ℕ) → HasNone ends xs → HasNone ends ys → Stops ends r → Stops ends q → xs ++ r ≡ ys ++ q → (xs ≡ ys) × (r ≡ q)
same_front ends [] [] r q hx hy sr sq e = (refl, e)
same_front ends [] (y ∷ ys) r q hx hy sr sq e = absurd (head_fails ends y _ hy (subst (Stops ends) e sr))
same_front ends (x ∷ xs) [] r q hx hy sr sq e = absurd (head_fails ends x _ hx (subst (Stops ends) (sym e) sq))
same_front ends (x ∷ xs) (y ∷ ys) r q hx hy sr sq e =
    let tails : xs ++ r ≡ ys ++ q = cc in
    let heads : x ≡ y = cc in
    let more = same_front ends xs ys r q (and_parts (not (ends x)) _ hx).1 (and_parts (not (ends y)) _ hy).1 sr sq tails in
    (cc, more.1)

line_stops : (r : List ℕ) → EndsLine r → Stops ends_string r
line_stops [] e = tt
line_stops (b ∷ bs) e = rw e refl

line_stops_comment : (r : List ℕ) → EndsLine r → Stops ends_comment r
line_stops_comment [] e = tt
line_stops_comment (b ∷ bs) e = rw e refl

no_quote : (r q : List ℕ) → 34 ∷ r ≡ q → EndsLine q → ⊥
no_quote r [] e l = cc
no_quote r (c ∷ cs) e l = let h : 34 ≡ c = cc in omega arith

pub heads : {A : Type 0} {x y : A} {xs ys : List A} → x ∷ xs ≡ y ∷ ys → x ≡ y
heads e = cc

pub tails : {A : Type 0} {x y : A} {xs ys : List A} → x ∷ xs ≡ y ∷ ys → xs ≡ ys
tails e = cc

differ : ◌≡◌ {A = ℕ} 34 39 → ⊥
differ e = omega arith

closed_closed : (xs ys r q : List ℕ) → HasNone ends_string xs → HasNone ends_string ys → (xs ++ 34 ∷ []) ++ r ≡ (ys ++ 34 ∷ []) ++ q → (xs ≡ ys) × (r ≡ q)
closed_closed xs ys r q v w e =
    let m = same_front ends_string xs ys (34 ∷ r) (34 ∷ q) v w refl refl
    (sym (append_assoc xs (34 ∷ []) r) ∙ e ∙ append_assoc ys (34 ∷ []) q) in
    (m.0, tails m.1)

closed_open : (xs ys r q : List ℕ) → HasNone ends_string xs → HasNone ends_string ys → EndsLine q → (xs ++ 34 ∷ []) ++ r ≡ ys ++ q → ⊥
closed_open xs ys r q v w ends e =
    let m = same_front ends_string xs ys (34 ∷ r) q v w refl (line_stops q ends) (sym (append_assoc xs (34 ∷ []) r) ∙ e) in
    no_quote r q m.1 ends

pub same_segment : (s t : Segment) (r q : List ℕ) → IsSegment s r → IsSegment t q → spelled s ++ r ≡ spelled t ++ q → (s ≡ t) × (r ≡ q)
same_segment (Plain b) (Plain c) r q v w e = (ap Plain (heads e), tails e)
same_segment (Plain b) (Closed ys) r q v w e = absurd (v.0 (heads e))
same_segment (Plain b) (Open ys) r q v w e = absurd (v.0 (heads e))
same_segment (Plain b) (Comment ys) r q v w e = absurd (v.1 (heads e))
same_segment (Closed xs) (Plain c) r q v w e = absurd (w.0 (sym (heads e)))
same_segment (Closed xs) (Closed ys) r q v w e = let m = closed_closed xs ys r q v w (tails e) in (ap Closed m.0, m.1)
same_segment (Closed xs) (Open ys) r q v w e = absurd (closed_open xs ys r q v w.0 w.1 (tails e))
same_segment (Closed xs) (Comment ys) r q v w e = absurd (differ (heads e))
same_segment (Open xs) (Plain c) r q v w e = absurd (w.0 (sym (heads e)))
same_segment (Open xs) (Closed ys) r q v w e = absurd (closed_open ys xs q r w v.0 v.1 (sym (tails e)))
same_segment (Open xs) (Open ys) r q v w e =
    let m = same_front ends_string xs ys r q v.0 w.0 (line_stops r v.1) (line_stops q w.1) (tails e) in
    (ap Open m.0, m.1)
same_segment (Open xs) (Comment ys) r q v w e = absurd (differ (heads e))
same_segment (Comment xs) (Plain c) r q v w e = absurd (w.1 (sym (heads e)))
same_segment (Comment xs) (Closed ys) r q v w e = absurd (differ (sym (heads e)))
same_segment (Comment xs) (Open ys) r q v w e = absurd (differ (sym (heads e)))
same_segment (Comment xs) (Comment ys) r q v w e =
    let m = same_front ends_comment xs ys r q v.0 w.0 (line_stops_comment r v.1) (line_stops_comment q w.1) (tails e) in
    (ap Comment m.0, m.1)

not_empty : (s : Segment) (r : List ℕ) → spelled s ++ r ≡ [] → ⊥
not_empty (Plain b) r e = cc
not_empty (Closed bs) r e = cc
not_empty (Open bs) r e = cc
not_empty (Comment bs) r e = cc

pub one_way : (a b : List Segment) (text : List ℕ) → Divides a text [] → Divides b text [] → a ≡ b
one_way [] [] text d e = refl
one_way [] (t ∷ ts) text d e = absurd (not_empty t e.0 (sym e.1 ∙ d))
one_way (s ∷ ss) [] text d e = absurd (not_empty s d.0 (sym d.1 ∙ e))
one_way (s ∷ ss) (t ∷ ts) text d e =
    let m = same_segment s t d.0 e.0 d.2 e.2 (sym d.1 ∙ e.1) in
    let more = one_way ss ts d.0 d.3 (subst (λ (z : List ℕ). Divides ts z []) (sym m.1) e.3) in
    let first = m.0 in
    cc
