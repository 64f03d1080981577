-- Where blanks and runs of bytes end.
use Rattle.std.proofs.Common.{◌≡◌, ℕ, List, [], ◌∷◌, ◌++◌, refl, sym, ◌∙◌, Bool, true, false, arith, subst}
use Rattle.std.specs.Cmp.{first_so, second_so}
use Rattle.std.specs.List.{list_all}
use Rattle.stapl_lexer.specs.Segments.{Segment, Plain, Closed, Open, Comment, spelled, Divides}
use Rattle.stapl_lexer.specs.Pieces.{is_blank}
use Rattle.stapl_lexer.specs.Runs.{StartsWithout, IsSolid}
use Rattle.stapl_lexer.proofs.Unique.{same_segment}

-- a blank in front is not solid
blank_not_solid : (s : Segment) (r x : List ℕ) → is_blank s ≡ true → x ≡ spelled s ++ r → IsSolid x → ⊥
blank_not_solid (Plain b) r x blank e solid =
    let at_b : IsSolid (b ∷ r) = subst IsSolid e solid in grind (arith, blank, at_b)
blank_not_solid (Closed bytes) r x blank e solid = absurd cc
blank_not_solid (Open bytes) r x blank e solid = absurd cc
blank_not_solid (Comment bytes) r x blank e solid =
    let at_39 : IsSolid (39 ∷ bytes ++ r) = subst IsSolid e solid in absurd cc

-- what stands after the blanks is one thing
pub same_solid : (a b : List Segment) (text x y : List ℕ) → Divides a text x → Divides b text y → list_all is_blank a ≡ true →
    list_all is_blank b ≡ true → IsSolid x → IsSolid y → x ≡ y
same_solid [] [] text x y d e p q u v = sym d ∙ e
same_solid [] (t ∷ ts) text x y d e p q u v = absurd (blank_not_solid t e.0 x (first_so (is_blank t) _ q) (sym d ∙ e.1) u)
same_solid (s ∷ ss) [] text x y d e p q u v = absurd (blank_not_solid s d.0 y (first_so (is_blank s) _ p) (sym e ∙ d.1) v)
same_solid (s ∷ ss) (t ∷ ts) text x y d e p q u v =
    let m = same_segment s t d.0 e.0 d.2 e.2 (sym d.1 ∙ e.1) in
    same_solid ss ts e.0 x y (subst (λ (z : List ℕ). Divides ss z x) m.1 d.3) e.3 (second_so (is_blank s) _ p) (second_so (is_blank t) _ q) u v

-- a run of bytes that pass a test ends where one fails
pub same_run : (test : ℕ → Bool) (xs ys r q : List ℕ) → list_all test xs ≡ true → list_all test ys ≡ true → StartsWithout test r →
    StartsWithout test q → xs ++ r ≡ ys ++ q → (xs ≡ ys) × (r ≡ q)
same_run test [] [] r q hx hy sr sq e = (refl, e)
same_run test [] (y ∷ ys) r q hx hy sr sq e =
    let fails : test y ≡ false = subst (StartsWithout test) e sr in
    let passes = first_so (test y) _ hy in absurd cc
same_run test (x ∷ xs) [] r q hx hy sr sq e =
    let fails : test x ≡ false = subst (StartsWithout test) (sym e) sq in
    let passes = first_so (test x) _ hx in absurd cc
same_run test (x ∷ xs) (y ∷ ys) r q hx hy sr sq e =
    let more = same_run test xs ys r q (second_so (test x) _ hx) (second_so (test y) _ hy) sr sq cc in
    (cc (more.0), more.1)
