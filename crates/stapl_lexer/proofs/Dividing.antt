-- Each text is divided into segments.
use Rattle.std.proofs.Common.{◌≢◌, ◌≤◌, ◌<◌, ◌+◌, ℕ, List, [], ◌∷◌, length, drop, get_or, refl, sym, subst, arith, zero, suc, inl, inr}
use Rattle.std.specs.List.{position_or_len}
use Rattle.std.proofs.lemmas.Bool.{cases_eq, cases_order}
use Rattle.std.proofs.lemmas.List.{length-drop}
use Rattle.stapl_lexer.specs.Segments.{Segment, Divides, ends_string, ends_comment}
use Rattle.stapl_lexer.specs.Cutting.{BeginsWithSegment}
use Rattle.stapl_lexer.proofs.SegmentLemmas.{closed_begins, open_begins, comment_begins, plain_begins, begins_at_front}

-- a text that is not empty begins with a segment
record FirstSegment (text : List ℕ) : Type 0 where
  len : ℕ
  some : 0 < len
  begins : BeginsWithSegment text len

open_first : (bs : List ℕ) → (position_or_len ends_string bs < length bs → get_or bs (position_or_len ends_string bs) 0 ≢ 34) → FirstSegment (34 ∷ bs)
open_first bs no_quote = record {
  len = position_or_len ends_string bs + 1;
  some = omega arith;
  begins = open_begins bs (position_or_len ends_string bs) refl no_quote;
}

ended_first : (bs : List ℕ) → position_or_len ends_string bs < length bs → FirstSegment (34 ∷ bs)
ended_first bs lt = elim (cases_eq (get_or bs (position_or_len ends_string bs) 0) 34) [
  | inl quote ↦ record {
    len = position_or_len ends_string bs + 1 + 1;
    some = omega arith;
    begins = closed_begins bs (position_or_len ends_string bs) refl lt quote;
  }
  | inr no_quote ↦ open_first bs (λ _. no_quote)
]

string_first : (bs : List ℕ) → FirstSegment (34 ∷ bs)
string_first bs = elim (cases_order (position_or_len ends_string bs) (length bs)) [
  | inl at_end ↦ open_first bs (λ lt. absurd (omega arith))
  | inr (inl lt) ↦ ended_first bs lt
  | inr (inr past) ↦ open_first bs (λ lt. absurd (omega arith))
]

other_first : (b : ℕ) (bs : List ℕ) → b ≢ 34 → FirstSegment (b ∷ bs)
other_first b bs no_quote = elim (cases_eq b 39) [
  | inl apostrophe ↦ record {
    len = position_or_len ends_comment bs + 1;
    some = omega arith;
    begins = begins_at_front 39 (b ∷ bs) _ (omega arith) apostrophe (comment_begins bs (position_or_len ends_comment bs) refl);
  }
  | inr no_apostrophe ↦ record { len = 1; some = omega arith; begins = plain_begins (b ∷ bs) (omega arith) no_quote no_apostrophe }
]

first_segment : (b : ℕ) (bs : List ℕ) → FirstSegment (b ∷ bs)
first_segment b bs = elim (cases_eq b 34) [
  | inl quote ↦ subst (λ q. FirstSegment (q ∷ bs)) (sym quote) (string_first bs)
  | inr no_quote ↦ other_first b bs no_quote
]

-- by the number of bytes that are left
divided_within : (n : ℕ) (text : List ℕ) → length text ≤ n → (segments : List Segment) × Divides segments text []
divided_within zero [] le = ([], refl)
divided_within zero (b ∷ bs) le = absurd (omega arith)
divided_within (suc n) [] le = ([], refl)
divided_within (suc n) (b ∷ bs) le =
    let first : FirstSegment (b ∷ bs) = first_segment b bs in
    let rest : List ℕ = drop first.len (b ∷ bs) in
    let some : 0 < first.len = first.some in
    let more : (segments : List Segment) × Divides segments rest [] = divided_within n rest (omega (arith, some, length-drop first.len (b ∷ bs))) in
    (first.begins.segment ∷ more.0, (rest, first.begins.parts, first.begins.valid, more.1))

pub divided : (text : List ℕ) → (segments : List Segment) × Divides segments text []
divided text = divided_within (length text) text (omega arith)
