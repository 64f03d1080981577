-- On runs of bytes in front of some bytes.
use Rattle.std.proofs.Common.{◌≡◌, ◌<◌, ◌+◌, ℕ, List, [], ◌∷◌, ◌++◌, length, drop, get_or, refl, sym, ap, ◌∙◌, Bool, true, false, ◌&&◌, ◌||◌, ◌==◌, arith, subst, add-zero, zero, suc}
use Rattle.std.proofs.lemmas.List.{drop-drop, get_or-drop}
use Rattle.std.proofs.lemmas.List.Folds.{list_all-append}
use Rattle.stapl_lexer.specs.Segments.{Divides}
use Rattle.stapl_lexer.specs.Pieces.{is_white, is_blank}
use Rattle.stapl_lexer.specs.Cutting.{BeginsWithSegment}
use Rattle.stapl_lexer.specs.Runs.{StartsWithout}
use Rattle.stapl_lexer.specs.PieceTokens.{AreBlanks}
use Rattle.stapl_lexer.specs.TokenReading.{IsRun}
use Rattle.stapl_lexer.proofs.CutLemmas.{divides_more, blank_by_head, head, head_is}

-- the byte at a place, where there is one, fails the test
pub starts_without_at : (test : ℕ → Bool) (bytes : List ℕ) (at : ℕ) → (at < length bytes → test (get_or bytes at 0) ≡ false) → StartsWithout test (drop at bytes)
starts_without_at test [] zero h = tt
starts_without_at test [] (suc k) h = tt
starts_without_at test (x ∷ xs) zero h = h (omega arith)
starts_without_at test (x ∷ xs) (suc k) h = starts_without_at test xs k (λ lt. h (omega arith))

pub both_true : (a b : Bool) → a ≡ true → b ≡ true → (a && b) ≡ true
both_true true true p q = refl
both_true true false p q = q
both_true false b p q = p

-- one blank more
pub blank_more : (bytes : List ℕ) (at n : ℕ) → AreBlanks bytes (drop at bytes) → BeginsWithSegment (drop at bytes) n →
    (is_white (get_or bytes at 0) || get_or bytes at 0 == 39) ≡ true → AreBlanks bytes (drop (at + n) bytes)
blank_more bytes at n before next blank =
    let s = next.segment in
    let first : get_or bytes at 0 ≡ head s = ap (λ (k : ℕ). get_or bytes k 0) (sym (add-zero at)) ∙ sym (get_or-drop at bytes 0 0) ∙ ap
    (λ (v : List ℕ). get_or v 0 0) next.parts ∙ head_is s (drop n (drop at bytes)) in
    let s_blank : is_blank s ≡ true = blank_by_head s (drop n (drop at bytes)) next.valid ∙ ap (λ (b : ℕ). is_white b || b == 39) (sym first) ∙ blank in
    record {
      blanks = before.blanks ++ s ∷ [];
      divides = subst (λ (z : List ℕ). Divides (before.blanks ++ s ∷ []) bytes z) (drop-drop n at bytes)
          (divides_more before.blanks bytes s (drop n (drop at bytes)) (subst (λ (z : List ℕ). Divides before.blanks bytes z) next.parts before.divides) next.valid);
      blank = list_all-append is_blank before.blanks (s ∷ []) ∙ both_true _ _ before.blank (both_true _ _ s_blank refl);
    }

-- a run whose first byte passes has a byte
pub run_has : (test : ℕ → Bool) (bytes : List ℕ) (n : ℕ) → 0 < length bytes → test (get_or bytes 0 0) ≡ true → IsRun test bytes n → 0 < n
run_has test [] n some passes run = absurd (omega arith)
run_has test (b ∷ bs) zero some passes run = absurd (fails (test b) passes run.stops)
  where
    fails : (t : Bool) → t ≡ true → t ≡ false → ⊥
    fails true p q = cc
    fails false p q = cc
run_has test (b ∷ bs) (suc n) some passes run = omega arith
