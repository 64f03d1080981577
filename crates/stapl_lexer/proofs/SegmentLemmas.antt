-- On segments.
use Rattle.std.proofs.Common.{◌≡◌, ◌≢◌, ◌≤◌, ◌<◌, ◌+◌, ℕ, List, [], ◌∷◌, ◌++◌, length, drop, get_or, refl, sym, ap, ◌∙◌, Bool, true, false, not, cond, arith, add-one, append_assoc, zero, suc, subst, None, Some, unwrap_or, nat_lt}
use Rattle.std.proofs.lemmas.Bool.{eqb-true}
use Rattle.std.proofs.lemmas.Bool.Decides.{nat_tests}
use Rattle.std.specs.List.{list_all, position, position_or_len, before_first, after_first, take_while}
use Rattle.std.proofs.lemmas.List.{take-append-drop, length-take-le, length-append}
use Rattle.std.proofs.lemmas.List.Sums.{take_while-cons, split_at_first, passes_at_first, prefix_len-le-length}
use Rattle.stapl_lexer.specs.Segments.{Plain, Closed, Open, Comment, EndsLine, ends_string, ends_comment}
use Rattle.stapl_lexer.specs.Cutting.{BeginsWithSegment}

position_found : (n len : ℕ) → n ≤ len → unwrap_or (cond (nat_lt n len) (Some n) None) len ≡ n
position_found n len le = grind (arith, nat_tests)

-- the place of the first byte that passes, or the end
pub position_or_length : (p : ℕ → Bool) (xs : List ℕ) → unwrap_or (position p xs) (length xs) ≡ position_or_len p xs
position_or_length p xs = position_found (position_or_len p xs) (length xs) (prefix_len-le-length (λ x. not (p x)) xs)

pub position_within : (p : ℕ → Bool) (xs : List ℕ) → position_or_len p xs ≤ length xs
position_within p xs = prefix_len-le-length (λ x. not (p x)) xs

drop_after : (b : ℕ) (bs : List ℕ) (k : ℕ) → drop (k + 1) (b ∷ bs) ≡ drop k bs
drop_after b bs k = rw add-one refl

all_step : (q : ℕ → Bool) (x : ℕ) (xs : List ℕ) (b : Bool) → q x ≡ b → list_all q xs ≡ true → list_all q (cond b (x ∷ xs) []) ≡ true
all_step q x xs true e h = rw e h
all_step q x xs false e h = refl

-- the front of what passes passes
pub all_front : (q : ℕ → Bool) (xs : List ℕ) → list_all q (take_while q xs) ≡ true
all_front q [] = refl
all_front q (x ∷ xs) = rw (take_while-cons q x xs) (all_step q x (take_while q xs) (q x) refl (all_front q xs))

ends_line : (xs : List ℕ) (k : ℕ) → (k < length xs → get_or xs k 0 ≡ 10) → EndsLine (drop k xs)
ends_line [] zero h = tt
ends_line [] (suc k) h = tt
ends_line (x ∷ xs) zero h = h (omega arith)
ends_line (x ∷ xs) (suc k) h = ends_line xs k (λ lt. h (omega arith))

string_end_is : (b : ℕ) → ends_string b ≡ true → b ≢ 34 → b ≡ 10
string_end_is b e ne = grind (arith, nat_tests)

-- a closed string
closed_at : (bs : List ℕ) → position_or_len ends_string bs < length bs → get_or bs (position_or_len ends_string bs) 0 ≡ 34 →
    BeginsWithSegment (34 ∷ bs) (position_or_len ends_string bs + 1 + 1)
closed_at bs lt quote =
    let n = position_or_len ends_string bs in
    let front = before_first ends_string bs in
    let after = after_first ends_string bs in
    record {
      segment = Closed front;
      parts = ap (λ (v : List ℕ). 34 ∷ v) (split_at_first ends_string bs 0 lt ∙ ap (λ (q : ℕ). front ++ (q ∷ after)) quote
          ∙ sym (append_assoc front (34 ∷ []) after) ∙ ap (λ (v : List ℕ). (front ++ 34 ∷ []) ++ v) (sym (drop_after 34 bs (n + 1))));
      len = omega (arith, length-append front (34 ∷ []), length-take-le n bs (omega arith));
      valid = all_front (λ b. not (ends_string b)) bs;
    }

-- an open string
open_at : (bs : List ℕ) → (position_or_len ends_string bs < length bs → get_or bs (position_or_len ends_string bs) 0 ≢ 34) →
    BeginsWithSegment (34 ∷ bs) (position_or_len ends_string bs + 1)
open_at bs no_quote =
    let n = position_or_len ends_string bs in
    let front = before_first ends_string bs in
    record {
      segment = Open front;
      parts = ap (λ (v : List ℕ). 34 ∷ v) (sym (take-append-drop n bs) ∙ ap (λ (v : List ℕ). front ++ v) (sym (drop_after 34 bs n)));
      len = omega (arith, length-take-le n bs (prefix_len-le-length (λ b. not (ends_string b)) bs));
      valid = (
        all_front (λ b. not (ends_string b)) bs,
        rw drop_after (ends_line bs n (λ lt. string_end_is _ (passes_at_first ends_string bs 0 lt) (no_quote lt))),
      );
    }

comment_at : (bs : List ℕ) → BeginsWithSegment (39 ∷ bs) (position_or_len ends_comment bs + 1)
comment_at bs =
    let n = position_or_len ends_comment bs in
    let front = before_first ends_comment bs in
    record {
      segment = Comment front;
      parts = ap (λ (v : List ℕ). 39 ∷ v) (sym (take-append-drop n bs) ∙ ap (λ (v : List ℕ). front ++ v) (sym (drop_after 39 bs n)));
      len = omega (arith, length-take-le n bs (prefix_len-le-length (λ b. not (ends_comment b)) bs));
      valid = (
        all_front (λ b. not (ends_comment b)) bs,
        rw drop_after (ends_line bs n (λ lt. eqb-true _ 10 (passes_at_first ends_comment bs 0 lt))),
      );
    }

pub closed_begins : (bs : List ℕ) (n : ℕ) → n ≡ position_or_len ends_string bs → n < length bs → get_or bs n 0 ≡ 34 → BeginsWithSegment (34 ∷ bs) (n + 1 + 1)
closed_begins bs n e lt quote =
    subst (λ k. BeginsWithSegment (34 ∷ bs) (k + 1 + 1)) (sym e) (closed_at bs (rw e at lt) (rw e at quote))

pub open_begins : (bs : List ℕ) (n : ℕ) → n ≡ position_or_len ends_string bs → (n < length bs → get_or bs n 0 ≢ 34) → BeginsWithSegment (34 ∷ bs) (n + 1)
open_begins bs n e no_quote =
    subst (λ k. BeginsWithSegment (34 ∷ bs) (k + 1)) (sym e) (open_at bs (subst (λ k. k < length bs → get_or bs k 0 ≢ 34) e no_quote))

pub comment_begins : (bs : List ℕ) (n : ℕ) → n ≡ position_or_len ends_comment bs → BeginsWithSegment (39 ∷ bs) (n + 1)
comment_begins bs n e = subst (λ k. BeginsWithSegment (39 ∷ bs) (k + 1)) (sym e) (comment_at bs)

-- the first byte and what stands after it are the text
pub begins_at_front : (first : ℕ) (text : List ℕ) (n : ℕ) → 0 < length text → get_or text 0 0 ≡ first → BeginsWithSegment (first ∷ drop 1 text) n →
    BeginsWithSegment text n
begins_at_front first [] n some head h = absurd (omega arith)
begins_at_front first (b ∷ bs) n some head h = subst (λ q. BeginsWithSegment (q ∷ bs) n) (sym head) h

pub plain_begins : (rest : List ℕ) → 0 < length rest → get_or rest 0 0 ≢ 34 → get_or rest 0 0 ≢ 39 → BeginsWithSegment rest 1
plain_begins [] some a b = absurd (omega arith)
plain_begins (b ∷ bs) some no_quote no_apostrophe = record {
  segment = Plain b;
  parts = refl;
  len = refl;
  valid = (no_quote, no_apostrophe);
}
