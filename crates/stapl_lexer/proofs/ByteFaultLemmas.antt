-- On what is wrong with the bytes of a piece.
use Rattle.std.proofs.Common.{◌≡◌, ◌≢◌, ◌≤◌, ◌<◌, ◌+◌, ◌-◌, ℕ, List, [], ◌∷◌, ◌++◌, length, take, drop, get_or, refl, sym, ap, ◌∙◌, Bool, true, false, ◌&&◌, ◌||◌, ◌==◌, not, arith, subst, append-nil, slice_range, suc}
use Rattle.std.proofs.Math.ListN.{drop_of_length-le}
use Rattle.std.proofs.Math.Seq.{drop-cons}
use Rattle.std.proofs.lemmas.Bool.Decides.{nat_tests}
use Rattle.std.proofs.lemmas.List.{length-drop, drop-drop, length-append}
use Rattle.std.specs.List.{list_any}
use Rattle.stapl_lexer.specs.Cutting.{BeginsWithSegment}
use Rattle.stapl_lexer.specs.Segments.{Segment, Plain, Closed, Open, Comment, spelled, IsSegment, Divides}
use Rattle.stapl_lexer.specs.Names.{is_name_byte}
use Rattle.stapl_lexer.specs.Pieces.{is_white}
use Rattle.stapl_lexer.specs.PieceFaults.{is_mark_byte, is_language_byte, is_foreign, is_open_string, is_compressed}
use Rattle.stapl_lexer.specs.TokenReading.{is_open_spelling, IsSearchedUpTo, AreSearched}
use Rattle.stapl_lexer.proofs.CutLemmas.{divides_more}
use Rattle.stapl_lexer.proofs.PieceTokenLemmas.{clash}
use Rattle.stapl_lexer.proofs.SegmentLemmas.{plain_begins}
use Rattle.stapl_lexer.proofs.FrontLemmas.{closed_by, take_front}

any_last : (p : Segment → Bool) (xs : List Segment) (y : Segment) → list_any p (xs ++ y ∷ []) ≡ (list_any p xs || p y)
any_last p [] y = or_false (p y)
  where
    or_false : (b : Bool) → (b || false) ≡ (false || b)
    or_false true = refl
    or_false false = refl
any_last p (x ∷ xs) y = any_step (p x) (any_last p xs y)
  where
    any_step : (b : Bool) → list_any p (xs ++ y ∷ []) ≡ (list_any p xs || p y) → (b || list_any p (xs ++ y ∷ [])) ≡ ((b || list_any p xs) || p y)
    any_step true e = refl
    any_step false e = e

foreign_by : (s : Segment) (own : List ℕ) → own ≡ spelled s → not (is_language_byte (get_or own 0 0)) ≡ is_foreign s
foreign_by (Plain b) own e = ap (λ (v : List ℕ). not (is_language_byte (get_or v 0 0))) e
foreign_by (Closed bs) own e = ap (λ (v : List ℕ). not (is_language_byte (get_or v 0 0))) e
foreign_by (Open bs) own e = ap (λ (v : List ℕ). not (is_language_byte (get_or v 0 0))) e
foreign_by (Comment bs) own e = ap (λ (v : List ℕ). not (is_language_byte (get_or v 0 0))) e

compressed_by : (s : Segment) (own : List ℕ) → own ≡ spelled s → (get_or own 0 0 == 64) ≡ is_compressed s
compressed_by (Plain b) own e = ap (λ (v : List ℕ). get_or v 0 0 == 64) e
compressed_by (Closed bs) own e = ap (λ (v : List ℕ). get_or v 0 0 == 64) e
compressed_by (Open bs) own e = ap (λ (v : List ℕ). get_or v 0 0 == 64) e
compressed_by (Comment bs) own e = ap (λ (v : List ℕ). get_or v 0 0 == 64) e

no_quote_first : (b : ℕ) (rest : Bool) → b ≢ 34 → ((b == 34) && rest) ≡ false
no_quote_first b rest ne = grind (arith, nat_tests)

-- a string that is not closed is open
unclosed_by : (s : Segment) (own rest : List ℕ) → own ≡ spelled s → IsSegment s rest → is_open_spelling own ≡ is_open_string s
unclosed_by (Plain b) own rest e valid = ap is_open_spelling e ∙ no_quote_first b _ valid.0
unclosed_by (Closed bs) own rest e valid =
    ap is_open_spelling e
    ∙ ap not (closed_by (Closed bs) (spelled (Closed bs)) [] (length (spelled (Closed bs))) (sym (append-nil (spelled (Closed bs)))) refl valid refl)
unclosed_by (Open bs) own rest e valid =
    ap is_open_spelling e
    ∙ ap not (closed_by (Open bs) (spelled (Open bs)) [] (length (spelled (Open bs))) (sym (append-nil (spelled (Open bs)))) refl (valid.0, tt) refl)
unclosed_by (Comment bs) own rest e valid = ap is_open_spelling e

-- one segment more
pub search_more : (bytes own : List ℕ) (foreign unclosed compressed : Bool) (at n : ℕ) → IsSearchedUpTo bytes foreign unclosed compressed at → BeginsWithSegment (drop at bytes) n →
    own ≡ take n (drop at bytes) →
    IsSearchedUpTo bytes (foreign || not (is_language_byte (get_or own 0 0))) (unclosed || is_open_spelling own) (compressed || get_or own 0 0 == 64) (at + n)
search_more bytes own foreign unclosed compressed at n before next is_own =
    let s = next.segment in
    let rest = drop n (drop at bytes) in
    let whole : own ≡ spelled s =
    is_own ∙ ap (take n) next.parts ∙ ap (λ (k : ℕ). take k (spelled s ++ rest)) (sym next.len) ∙ take_front (spelled s) rest in
    let within = before.within in
    let lengths = ap length next.parts in
    let len = next.len in
    record {
      within = omega (arith, lengths, len, length-append (spelled s) rest, length-drop at bytes, length-drop n (drop at bytes));
      segments = before.segments ++ s ∷ [];
      divides = subst (λ (z : List ℕ). Divides (before.segments ++ s ∷ []) bytes z) (drop-drop n at bytes)
          (divides_more before.segments bytes s rest (subst (λ (z : List ℕ). Divides before.segments bytes z) next.parts before.divides) next.valid);
      foreign_is = ap (λ (b : Bool). b || not (is_language_byte (get_or own 0 0))) before.foreign_is
          ∙ ap (λ (b : Bool). list_any is_foreign before.segments || b) (foreign_by s own whole) ∙ sym (any_last is_foreign before.segments s);
      unclosed_is = ap (λ (b : Bool). b || is_open_spelling own) before.unclosed_is
          ∙ ap (λ (b : Bool). list_any is_open_string before.segments || b) (unclosed_by s own rest whole next.valid) ∙ sym (any_last is_open_string before.segments s);
      compressed_is = ap (λ (b : Bool). b || get_or own 0 0 == 64) before.compressed_is
          ∙ ap (λ (b : Bool). list_any is_compressed before.segments || b) (compressed_by s own whole) ∙ sym (any_last is_compressed before.segments s);
    }

-- the bytes of a segment as a range
pub own_bytes : (bytes : List ℕ) (at n : ℕ) (foreign unclosed compressed foreign_too unclosed_too compressed_too : Bool) → IsSearchedUpTo bytes foreign unclosed compressed at →
    BeginsWithSegment (drop at bytes) n →
    foreign_too ≡ (foreign || not (is_language_byte (get_or (slice_range bytes at (at + n)) 0 0))) → unclosed_too ≡ (unclosed || is_open_spelling (slice_range bytes at (at + n))) →
    compressed_too ≡ (compressed || get_or (slice_range bytes at (at + n)) 0 0 == 64) → IsSearchedUpTo bytes foreign_too unclosed_too compressed_too (at + n)
own_bytes bytes at n foreign unclosed compressed foreign_too unclosed_too compressed_too before next e f g =
    let own = slice_range bytes at (at + n) in
    let count : at + n - at ≡ n = omega arith in
    subst (λ (b : Bool). IsSearchedUpTo bytes b unclosed_too compressed_too (at + n)) (sym e)
    (subst (λ (b : Bool). IsSearchedUpTo bytes (foreign || not (is_language_byte (get_or own 0 0))) b compressed_too (at + n)) (sym f)
    (subst (λ (b : Bool). IsSearchedUpTo bytes (foreign || not (is_language_byte (get_or own 0 0))) (unclosed || is_open_spelling own) b (at + n)) (sym g)
    (search_more bytes own foreign unclosed compressed at n before next (ap (λ (k : ℕ). take k (drop at bytes)) count))))

-- a byte of a name is a segment of its own, and nothing is wrong with it
name_byte_is_plain : (b : ℕ) → is_name_byte b ≡ true → (b ≢ 34) × ((b ≢ 39) × (b ≢ 64))
name_byte_is_plain b e =
    (λ is. clash (is_name_byte b) e (ap is_name_byte is), (λ is. clash (is_name_byte b) e (ap is_name_byte is), λ is. clash (is_name_byte b) e (ap is_name_byte is)))

no_at_sign : (b : ℕ) → b ≢ 64 → (b == 64) ≡ false
no_at_sign b ne = grind (arith, nat_tests, ne)

nothing_more : (b : Bool) → b ≡ (b || false)
nothing_more true = refl
nothing_more false = refl

pub search_name_byte : (bytes : List ℕ) (foreign unclosed compressed : Bool) (at : ℕ) → IsSearchedUpTo bytes foreign unclosed compressed at →
    at < length bytes → is_name_byte (get_or bytes at 0) ≡ true → IsSearchedUpTo bytes foreign unclosed compressed (at + 1)
search_name_byte bytes foreign unclosed compressed at before lt named =
    let b = get_or bytes at 0 in
    let plain = name_byte_is_plain b named in
    let parts : drop at bytes ≡ b ∷ drop (suc at) bytes = drop-cons bytes at 0 lt in
    let count : at + 1 - at ≡ 1 = omega arith in
    let own : slice_range bytes at (at + 1) ≡ b ∷ [] = ap (λ (k : ℕ). take k (drop at bytes)) count ∙ ap (take 1) parts in
    let next : BeginsWithSegment (drop at bytes) 1 =
    subst (λ (v : List ℕ). BeginsWithSegment v 1) (sym parts) (plain_begins (b ∷ drop (suc at) bytes) (omega arith) plain.0 plain.1.0) in
    own_bytes bytes at 1 foreign unclosed compressed foreign unclosed compressed before next
    (nothing_more foreign ∙ ap (λ (v : Bool). foreign || not (v || is_white b || is_mark_byte b)) (sym named)
    ∙ ap (λ (v : List ℕ). foreign || not (is_language_byte (get_or v 0 0))) (sym own))
    (nothing_more unclosed ∙ ap (λ (v : Bool). unclosed || v) (sym (no_quote_first b _ plain.0)) ∙ ap (λ (v : List ℕ). unclosed || is_open_spelling v) (sym own))
    (nothing_more compressed ∙ ap (λ (v : Bool). compressed || v) (sym (no_at_sign b plain.1.1)) ∙ ap (λ (v : List ℕ). compressed || get_or v 0 0 == 64) (sym own))

-- all is searched
pub all_searched : (bytes : List ℕ) (foreign unclosed compressed : Bool) (at : ℕ) → IsSearchedUpTo bytes foreign unclosed compressed at → length bytes ≤ at →
    AreSearched bytes foreign unclosed compressed
all_searched bytes foreign unclosed compressed at r end = record {
  segments = r.segments;
  divides = subst (λ (z : List ℕ). Divides r.segments bytes z) (drop_of_length-le bytes end) r.divides;
  foreign_is = r.foreign_is;
  unclosed_is = r.unclosed_is;
  compressed_is = r.compressed_is;
}
