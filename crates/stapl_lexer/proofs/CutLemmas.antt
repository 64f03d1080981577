-- On a text that is read segment by segment.
use Rattle.std.proofs.Common.{◌≡◌, ◌≢◌, ◌≤◌, ◌<◌, ◌+◌, ℕ, List, [], ◌∷◌, ◌++◌, length, take, drop, get_or, refl, sym, ap, ◌∙◌, Bool, true, false, ◌&&◌, ◌||◌, ◌==◌, not, cond, if◌then◌else◌, arith, add-one, append_assoc, suc, subst, count_by, Option, None, Some, unwrap_or, zero-add}
use Rattle.std.proofs.lemmas.Bool.{and_parts, ne_eqb}
use Rattle.std.specs.List.{list_all, take_while, slice_split, onto_first}
use Rattle.std.specs.Prelude.{is_some}
use Rattle.std.proofs.Math.ListN.{drop_of_length-le}
use Rattle.std.proofs.Math.Seq.{drop-cons, take-add, take-append_seam}
use Rattle.std.proofs.lemmas.List.{drop-drop, append-nil, length-append, get_or-drop}
use Rattle.std.proofs.lemmas.List.Folds.{list_all-append}
use Rattle.std.proofs.lemmas.List.Sums.{take_while-cons, sum_by-cons, sum_by-append, count_by_more_no}
use Rattle.std.proofs.lemmas.Grind.{flat_map-append}
use Rattle.stapl_lexer.specs.declared.piece.Piece.{Piece}
use Rattle.stapl_lexer.specs.declared.cutting.Progress.{Progress}
use Rattle.stapl_lexer.specs.Segments.{Segment, Plain, Closed, Open, Comment, spelled, spelling, IsSegment, HasNone, ends_string, ends_comment, Divides}
use Rattle.stapl_lexer.specs.Pieces.{is_white, is_blank, is_semicolon, line_at, piece_of, pieces_from, IsCut}
use Rattle.stapl_lexer.specs.Names.{is_name_byte}
use Rattle.stapl_lexer.specs.Cutting.{BeginsWithSegment, IsCutUpTo, gather, with_piece, open_piece}
use Rattle.stapl_lexer.proofs.SegmentLemmas.{plain_begins}

-- one segment more
pub divides_more : (done : List Segment) (text : List ℕ) (s : Segment) (rest : List ℕ) → Divides done text (spelled s ++ rest) → IsSegment s rest →
    Divides (done ++ s ∷ []) text rest
divides_more [] text s rest d v = (rest, d, v, refl)
divides_more (first ∷ done) text s rest d v = (d.0, d.1, d.2, divides_more done d.0 s rest d.3 v)

-- a split has a first part
pub data Parts (parts : List (List Segment)) : Type 0 where
  first_part : (first : List Segment) (others : List (List Segment)) → parts ≡ first ∷ others → Parts parts

onto_has : (s : Segment) (parts : List (List Segment)) → Parts (onto_first s parts)
onto_has s [] = first_part (s ∷ []) [] refl
onto_has s (p ∷ ps) = first_part (s ∷ p) ps refl

split_step : (b : Bool) (s : Segment) (parts : List (List Segment)) → Parts (cond b ([] ∷ parts) (onto_first s parts))
split_step true s parts = first_part [] parts refl
split_step false s parts = onto_has s parts

pub split_has : (segments : List Segment) → Parts (slice_split is_semicolon segments)
split_has [] = first_part [] [] refl
split_has (s ∷ ss) = split_step (is_semicolon s) s (slice_split is_semicolon ss)

gather_onto : (group : List Segment) (s : Segment) (parts : List (List Segment)) → gather group (onto_first s parts) ≡ gather (group ++ s ∷ []) parts
gather_onto group s [] = refl
gather_onto group s (p ∷ ps) = ap (λ (v : List Segment). v ∷ ps) (sym (append_assoc group (s ∷ []) p))

-- a segment that is no semicolon goes to the open group
gather_other : (group : List Segment) (s : Segment) (rest : List Segment) → is_semicolon s ≡ false →
    gather group (slice_split is_semicolon (s ∷ rest)) ≡ gather (group ++ s ∷ []) (slice_split is_semicolon rest)
gather_other group s rest e = rw e (gather_onto group s (slice_split is_semicolon rest))

gather_none : (rest : List Segment) → gather [] (slice_split is_semicolon rest) ≡ slice_split is_semicolon rest
gather_none rest = elim (split_has rest) [ first_part first others e ↦ rw e refl ]

pub cut_start : (text : List ℕ) → IsCutUpTo text (record { at = 0; line = 1; start = 0; first = None }) []
cut_start text = record {
  done = [];
  group = [];
  divides = refl;
  so_far = λ rest. ap (pieces_from text 0) (sym (gather_none rest));
  place = refl;
  line_is = refl;
  first_is = refl;
}

-- the first byte of a segment tells its kind
pub head : Segment → ℕ
head (Plain b) = b
head (Closed bytes) = 34
head (Open bytes) = 34
head (Comment bytes) = 39

pub head_is : (s : Segment) (more : List ℕ) → get_or (spelled s ++ more) 0 0 ≡ head s
unfolding head
head_is (Plain b) more = refl
head_is (Closed bytes) more = refl
head_is (Open bytes) more = refl
head_is (Comment bytes) more = refl

semicolon_by_head : (s : Segment) → is_semicolon s ≡ (head s == 59)
unfolding head
semicolon_by_head (Plain b) = refl
semicolon_by_head (Closed bytes) = refl
semicolon_by_head (Open bytes) = refl
semicolon_by_head (Comment bytes) = refl

or_no : (a b : Bool) → b ≡ false → a ≡ (a || b)
or_no true b e = refl
or_no false b e = sym e

pub blank_by_head : (s : Segment) (rest : List ℕ) → IsSegment s rest → is_blank s ≡ (is_white (head s) || head s == 39)
unfolding head
blank_by_head (Plain b) rest v = or_no (is_white b) (b == 39) (ne_eqb b 39 v.1)
blank_by_head (Closed bytes) rest v = refl
blank_by_head (Open bytes) rest v = refl
blank_by_head (Comment bytes) rest v = refl

and_true : (b : Bool) → (b && true) ≡ b
and_true true = refl
and_true false = refl

no_feed : (ends feed : Bool) → (feed ≡ true → ends ≡ true) → not ends ≡ true → ◌≡◌ {A = ℕ} (cond feed 1 0) 0
no_feed true feed h e = cc
no_feed false true h e = cc (h refl)
no_feed false false h e = refl

no_feeds : (ends : ℕ → Bool) → ((b : ℕ) → (b == 10) ≡ true → ends b ≡ true) → (bytes : List ℕ) → HasNone ends bytes → count_by (λ b. b == 10) bytes ≡ 0
no_feeds ends h [] none = refl
no_feeds ends h (x ∷ xs) none =
    sum_by-cons (λ b. cond (b == 10) 1 0) x xs
    ∙ ap (λ (n : ℕ). n + count_by (λ b. b == 10) xs) (no_feed (ends x) (x == 10) (h x) (and_parts (not (ends x)) _ none).0)
    ∙ omega (arith, no_feeds ends h xs (and_parts (not (ends x)) _ none).1)

string_feed : (b : ℕ) → (b == 10) ≡ true → ends_string b ≡ true
string_feed b e = rw e (or_true (b == 34))
  where
    or_true : (a : Bool) → (a || true) ≡ true
    or_true true = refl
    or_true false = refl

feeds_by_head : (s : Segment) (rest : List ℕ) → IsSegment s rest → count_by (λ b. b == 10) (spelled s) ≡ (if head s == 10 then 1 else 0)
unfolding head
feeds_by_head (Plain b) rest v = zero-add _
feeds_by_head (Closed bytes) rest v =
    sum_by-cons (λ b. cond (b == 10) 1 0) 34 (bytes ++ 34 ∷ []) ∙ omega (arith, sum_by-append (λ b. cond (b == 10) 1 0) bytes (34 ∷ []), no_feeds ends_string string_feed bytes v)
feeds_by_head (Open bytes) rest v =
    sum_by-cons (λ b. cond (b == 10) 1 0) 34 bytes ∙ omega (arith, no_feeds ends_string string_feed bytes v.0)
feeds_by_head (Comment bytes) rest v =
    sum_by-cons (λ b. cond (b == 10) 1 0) 39 bytes ∙ omega (arith, no_feeds ends_comment (λ b e. e) bytes v.0)

-- what stands before the first segment that is not blank
front_all : (xs : List Segment) → list_all is_blank xs ≡ true → take_while is_blank xs ≡ xs
front_all [] e = refl
front_all (x ∷ xs) e =
    take_while-cons is_blank x xs
    ∙ rw (and_parts (is_blank x) _ e).0 (ap (λ (v : List Segment). x ∷ v) (front_all xs (and_parts (is_blank x) _ e).1))

front_ends : (xs : List Segment) (y : Segment) → list_all is_blank xs ≡ true → is_blank y ≡ false → take_while is_blank (xs ++ y ∷ []) ≡ xs
front_ends [] y e solid = take_while-cons is_blank y [] ∙ rw solid refl
front_ends (x ∷ xs) y e solid =
    take_while-cons is_blank x (xs ++ y ∷ [])
    ∙ rw (and_parts (is_blank x) _ e).0 (ap (λ (v : List Segment). x ∷ v) (front_ends xs y (and_parts (is_blank x) _ e).1 solid))

front_step : (b : Bool) (x : Segment) (xs ys : List Segment) → (b && list_all is_blank xs) ≡ false →
    (list_all is_blank xs ≡ false → take_while is_blank (xs ++ ys) ≡ take_while is_blank xs) →
    cond b (x ∷ take_while is_blank (xs ++ ys)) [] ≡ cond b (x ∷ take_while is_blank xs) []
front_step true x xs ys e h = ap (λ (v : List Segment). x ∷ v) (h e)
front_step false x xs ys e h = refl

front_stays : (xs ys : List Segment) → list_all is_blank xs ≡ false → take_while is_blank (xs ++ ys) ≡ take_while is_blank xs
front_stays [] ys e = cc
front_stays (x ∷ xs) ys e =
    take_while-cons is_blank x (xs ++ ys) ∙ front_step (is_blank x) x xs ys e (front_stays xs ys) ∙ sym (take_while-cons is_blank x xs)

line_of_group : List ℕ → ℕ → List Segment → ℕ
line_of_group text start group = line_at text (start + length (spelling (take_while is_blank group)))

-- the line of the open piece
open_line : (text : List ℕ) (start at line : ℕ) (group : List Segment) (first : Option ℕ) (b : Bool) → list_all is_blank group ≡ b →
    start + length (spelling group) ≡ at → line ≡ line_at text at →
    first ≡ (if b then None else Some (line_of_group text start group)) →
    unwrap_or first line ≡ line_of_group text start group
unfolding line_of_group
open_line text start at line group first true all place line_is first_is =
    rw first_is (line_is ∙ ap (line_at text) (sym place) ∙ ap (λ (v : List Segment). line_at text (start + length (spelling v))) (sym (front_all group all)))
open_line text start at line group first false all place line_is first_is = rw first_is refl

-- a semicolon closes the group
closed_group : (text : List ℕ) (start : ℕ) (group rest : List Segment) →
    pieces_from text start (gather group (slice_split is_semicolon (Plain 59 ∷ rest)))
    ≡ piece_of text start group true ∷ pieces_from text (start + length (spelling group) + 1) (gather [] (slice_split is_semicolon rest))
closed_group text start group rest = elim (split_has rest) [
  | first_part f o e ↦ rw e (ap (λ (v : List Segment). piece_of text start v true ∷ pieces_from text (start + length (spelling v) + 1) (f ∷ o)) (append-nil group))
]

piece_same : (start a b l m : ℕ) → a ≡ b → l ≡ m →
    ◌≡◌ {A = Piece} (record { start = start; end = a; line = l; closed = true }) (record { start = start; end = b; line = m; closed = true })
piece_same start a b l m e f = cc

-- a semicolon ends the open piece
pub cut_close : (text : List ℕ) (progress : Progress) (pieces : List Piece) → IsCutUpTo text progress pieces → progress.at < length text → get_or text progress.at 0 ≡ 59 →
    IsCutUpTo text (record { at = progress.at + 1; line = progress.line; start = progress.at + 1; first = None })
    (pieces ++ record { start = progress.start; end = progress.at; line = unwrap_or progress.first progress.line; closed = true } ∷ [])
unfolding line_of_group
cut_close text progress pieces s lt byte =
    let here : drop progress.at text ≡ 59 ∷ drop (progress.at + 1) text =
    rw add-one (drop-cons text progress.at 0 lt ∙ ap (λ (q : ℕ). q ∷ drop (suc progress.at) text) byte) in
    let piece : Piece = record { start = progress.start; end = progress.at; line = unwrap_or progress.first progress.line; closed = true } in
    let same : piece_of text progress.start s.group true ≡ piece =
    piece_same progress.start _ _ _ _ s.place (sym (open_line text progress.start progress.at progress.line s.group progress.first (list_all is_blank s.group) refl s.place s.line_is s.first_is)) in
    let no_line : (get_or text progress.at 0 == 10) ≡ false = rw byte refl in
    record {
      done = s.done ++ Plain 59 ∷ [];
      group = [];
      divides = divides_more s.done text (Plain 59) _ (subst (λ (v : List ℕ). Divides s.done text v) here s.divides) (λ h. omega arith, λ h. omega arith);
      so_far = λ rest.
          ap (λ (v : List Segment). pieces_from text 0 (slice_split is_semicolon v)) (append_assoc s.done (Plain 59 ∷ []) rest)
          ∙ s.so_far (Plain 59 ∷ rest)
          ∙ ap (λ (v : List Piece). pieces ++ v) (closed_group text progress.start s.group rest
          ∙ ap (λ (v : Piece). v ∷ pieces_from text (progress.start + length (spelling s.group) + 1) (gather [] (slice_split is_semicolon rest))) same
          ∙ ap (λ (k : ℕ). piece ∷ pieces_from text (k + 1) (gather [] (slice_split is_semicolon rest))) s.place)
          ∙ sym (append_assoc pieces (piece ∷ []) _);
      place = omega arith;
      line_is = s.line_is ∙ ap (λ (k : ℕ). k + 1) (sym (count_by_more_no (λ b. b == 10) text progress.at 0 lt no_line));
      first_is = refl;
    }

-- the line after a segment
line_after : (text : List ℕ) (at n : ℕ) (b : BeginsWithSegment (drop at text) n) →
    line_at text (at + n) ≡ line_at text at + count_by (λ b. b == 10) (spelled b.segment)
line_after text at n b =
    let front : take n (drop at text) ≡ spelled b.segment =
    ap (take n) b.parts ∙ ap (λ (k : ℕ). take k (spelled b.segment ++ drop n (drop at text))) (sym b.len) ∙ take-append_seam (spelled b.segment) _ in
    ap (λ (v : List ℕ). count_by (λ b. b == 10) v + 1) (take-add at n text ∙ ap (λ (v : List ℕ). take at text ++ v) front)
    ∙ omega (arith, sum_by-append (λ b. cond (b == 10) 1 0) (take at text) (spelled b.segment))

-- the line of the first byte after one more segment
first_after : (text : List ℕ) (start at line : ℕ) (group : List Segment) (s : Segment) (first : Option ℕ) (a b : Bool) →
    list_all is_blank group ≡ a → is_blank s ≡ b →
    start + length (spelling group) ≡ at → line ≡ line_at text at →
    first ≡ (if a then None else Some (line_of_group text start group)) →
    (if b then first else Some (unwrap_or first line)) ≡ (if a && b then None else Some (line_of_group text start (group ++ s ∷ [])))
unfolding line_of_group
first_after text start at line group s first true true all blank place line_is first_is = first_is
first_after text start at line group s first true false all blank place line_is first_is =
    rw (first_is, front_ends group s all blank, place) (ap Some line_is)
first_after text start at line group s first false true all blank place line_is first_is =
    first_is ∙ ap (λ (v : List Segment). Some (line_at text (start + length (spelling v)))) (sym (front_stays group (s ∷ []) all))
first_after text start at line group s first false false all blank place line_is first_is =
    rw first_is (ap (λ (v : List Segment). Some (line_at text (start + length (spelling v)))) (sym (front_stays group (s ∷ []) all)))

-- any other segment goes to the open piece
pub cut_pass : (text : List ℕ) (progress after : Progress) (pieces : List Piece) (n byte : ℕ) → IsCutUpTo text progress pieces → progress.at < length text →
    BeginsWithSegment (drop progress.at text) n → get_or text progress.at 0 ≡ byte → byte ≢ 59 →
    after.at ≡ progress.at + n → after.start ≡ progress.start → after.line ≡ progress.line + (if byte == 10 then 1 else 0) →
    after.first ≡ (if is_white byte || byte == 39 then progress.first else Some (unwrap_or progress.first progress.line)) →
    IsCutUpTo text after pieces
unfolding line_of_group
cut_pass text progress after pieces n byte s lt b byte_is other at_is start_is line_is first_is =
    let seg = b.segment in
    let head_byte : head seg ≡ byte =
    sym (head_is seg (drop n (drop progress.at text))) ∙ ap (λ (v : List ℕ). get_or v 0 0) (sym b.parts)
    ∙ get_or-drop progress.at text 0 0 ∙ ap (λ (k : ℕ). get_or text k 0) (omega arith) ∙ byte_is in
    let no_semicolon : is_semicolon seg ≡ false = semicolon_by_head seg ∙ rw head_byte (ne_eqb byte 59 other) in
    let rest_is : drop n (drop progress.at text) ≡ drop after.at text = drop-drop n progress.at text ∙ ap (λ (k : ℕ). drop k text) (sym at_is) in
    let here : drop progress.at text ≡ spelled seg ++ drop after.at text = b.parts ∙ ap (λ (v : List ℕ). spelled seg ++ v) rest_is in
    let wider : length (spelling (s.group ++ seg ∷ [])) ≡ length (spelling s.group) + n =
    ap length (flat_map-append spelled s.group (seg ∷ [])) ∙ omega (arith, length-append (spelling s.group) (spelled seg ++ []), length-append (spelled seg) [], b.len) in
    let feeds : count_by (λ b. b == 10) (spelled seg) ≡ (if byte == 10 then 1 else 0) =
    feeds_by_head seg (drop n (drop progress.at text)) b.valid ∙ ap (λ (q : ℕ). if q == 10 then 1 else 0) head_byte in
    let blank : is_blank seg ≡ (is_white byte || byte == 39) =
    blank_by_head seg (drop n (drop progress.at text)) b.valid ∙ ap (λ (q : ℕ). is_white q || q == 39) head_byte in
    let wide = s.group ++ seg ∷ [] in
    let all_is : list_all is_blank wide ≡ (list_all is_blank s.group && (is_white byte || byte == 39)) =
    list_all-append is_blank s.group (seg ∷ []) ∙ ap (λ (q : Bool). list_all is_blank s.group && q) (and_true (is_blank seg) ∙ blank) in
    record {
      done = s.done ++ seg ∷ [];
      group = s.group ++ seg ∷ [];
      divides = divides_more s.done text seg (drop after.at text) (subst (λ (v : List ℕ). Divides s.done text v) here s.divides)
          (subst (λ (v : List ℕ). IsSegment seg v) rest_is b.valid);
      so_far = λ rest.
          ap (λ (v : List Segment). pieces_from text 0 (slice_split is_semicolon v)) (append_assoc s.done (seg ∷ []) rest)
          ∙ s.so_far (seg ∷ rest)
          ∙ ap (λ (v : List (List Segment)). pieces ++ pieces_from text progress.start v) (gather_other s.group seg rest no_semicolon)
          ∙ ap (λ (k : ℕ). pieces ++ pieces_from text k (gather wide (slice_split is_semicolon rest))) (sym start_is);
      place = omega (arith, wider, s.place);
      line_is = line_is ∙ ap (λ (k : ℕ). k + (if byte == 10 then 1 else 0)) s.line_is ∙ ap (λ (k : ℕ). line_at text progress.at + k) (sym feeds)
          ∙ sym (line_after text progress.at n b) ∙ ap (line_at text) (sym at_is);
      first_is = first_is
          ∙ first_after text progress.start progress.at progress.line s.group seg progress.first (list_all is_blank s.group) (is_white byte || byte == 39) refl blank s.place s.line_is s.first_is
          ∙ ap (λ (q : Bool). if q then None else Some (line_of_group text progress.start wide)) (sym all_is)
          ∙ ap (λ (k : ℕ). if list_all is_blank wide then None else Some (line_of_group text k wide)) (sym start_is);
    }

piece_open : (start a b l m : ℕ) → a ≡ b → l ≡ m →
    ◌≡◌ {A = Piece} (record { start = start; end = a; line = l; closed = false }) (record { start = start; end = b; line = m; closed = false })
piece_open start a b l m e f = cc

last_piece : (text : List ℕ) (start at line : ℕ) (group : List Segment) (first : Option ℕ) (b : Bool) → list_all is_blank group ≡ b →
    start + length (spelling group) ≡ at → line ≡ line_at text at →
    first ≡ (if b then None else Some (line_of_group text start group)) →
    pieces_from text start (group ∷ []) ≡ with_piece [] (open_piece start at first)
unfolding line_of_group
last_piece text start at line group first true all place line_is first_is = rw (first_is, all) refl
last_piece text start at line group first false all place line_is first_is =
    rw (first_is, all) (ap (λ (v : Piece). v ∷ []) (piece_open start _ _ _ _ place refl))

with_piece_is : (pieces : List Piece) (more : Option Piece) → with_piece pieces more ≡ pieces ++ with_piece [] more
with_piece_is pieces None = sym (append-nil pieces)
with_piece_is pieces (Some piece) = refl

same_first : (is_blank : Bool) (first : Option ℕ) (line : ℕ) → is_some first ≡ true → first ≡ (if is_blank then first else Some (unwrap_or first line))
same_first true first line e = refl
same_first false (Some k) line e = refl
same_first false None line e = absurd cc

-- a byte of a name goes to a piece that has a byte that is neither white space nor comment
pub cut_name_byte : (text : List ℕ) (progress : Progress) (pieces : List Piece) → IsCutUpTo text progress pieces → progress.at < length text →
    is_some progress.first ≡ true → is_name_byte (get_or text progress.at 0) ≡ true →
    IsCutUpTo text (record { at = progress.at + 1; line = progress.line; start = progress.start; first = progress.first }) pieces
cut_name_byte text progress pieces s lt begun named =
    let b = get_or text progress.at 0 in
    let other : (c : ℕ) → is_name_byte c ≡ false → b ≢ c = λ c no is. absurd_by (is_name_byte b) named (ap is_name_byte is ∙ no) in
    let parts : drop progress.at text ≡ b ∷ drop (suc progress.at) text = drop-cons text progress.at 0 lt in
    let next : BeginsWithSegment (drop progress.at text) 1 =
    subst (λ (v : List ℕ). BeginsWithSegment v 1) (sym parts) (plain_begins (b ∷ drop (suc progress.at) text) (omega arith) (other 34 refl) (other 39 refl)) in
    let same : progress.line ≡ progress.line + 0 = omega arith in
    let no_feed : progress.line ≡ progress.line + (if b == 10 then 1 else 0) =
    same ∙ ap (λ (q : Bool). progress.line + (if q then 1 else 0)) (sym (ne_eqb b 10 (other 10 refl))) in
    cut_pass text progress (record { at = progress.at + 1; line = progress.line; start = progress.start; first = progress.first }) pieces 1 b s lt next refl
    (other 59 refl) refl refl no_feed (same_first (is_white b || b == 39) progress.first progress.line begun)
  where
    absurd_by : (q : Bool) → q ≡ true → q ≡ false → ⊥
    absurd_by true e f = cc
    absurd_by false e f = cc

-- the text is read
pub cut_all : (text : List ℕ) (progress : Progress) (pieces : List Piece) → IsCutUpTo text progress pieces → length text ≤ progress.at →
    IsCut text (with_piece pieces (open_piece progress.start progress.at progress.first))
unfolding line_of_group
cut_all text progress pieces s end = record {
  segments = s.done;
  divides = subst (λ (v : List ℕ). Divides s.done text v) (drop_of_length-le text end) s.divides;
  pieces_are =
      with_piece_is pieces (open_piece progress.start progress.at progress.first)
      ∙ ap (λ (v : List Piece). pieces ++ v) (sym (last_piece text progress.start progress.at progress.line s.group progress.first (list_all is_blank s.group) refl s.place s.line_is s.first_is))
      ∙ ap (λ (v : List Segment). pieces ++ pieces_from text progress.start (v ∷ [])) (sym (append-nil s.group))
      ∙ sym (s.so_far [])
      ∙ ap (λ (v : List Segment). pieces_from text 0 (slice_split is_semicolon v)) (append-nil s.done);
}
