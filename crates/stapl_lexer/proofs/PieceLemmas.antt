-- The pieces of a text lie in it, in order and apart.
use Rattle.std.proofs.Common.{◌≡◌, ◌≤◌, ◌<◌, ◌+◌, ℕ, List, [], ◌∷◌, ◌++◌, length, take, drop, get_or, refl, sym, ap, ◌∙◌, Bool, true, false, ◌==◌, cond, if◌then◌else◌, arith, add-one, append_assoc, zero, suc, subst, IfSome}
use Rattle.std.proofs.lemmas.Bool.{eqb-true}
use Rattle.std.specs.List.{list_all, slice_split, onto_first, All, slice_get}
use Rattle.std.proofs.Math.Seq.{drop-append_seam, get_or-append_seam}
use Rattle.std.proofs.lemmas.List.{drop-drop, length-append, length-take, length-drop, get_or-drop}
use Rattle.std.proofs.lemmas.List.Concat.{flat_map-cons}
use Rattle.std.proofs.lemmas.List.Elements.{All-nil, All-cons}
use Rattle.std.proofs.lemmas.List.Sums.{count_by-le-length}
use Rattle.stapl_lexer.specs.declared.piece.Piece.{Piece}
use Rattle.stapl_lexer.specs.Segments.{Segment, Plain, Closed, Open, Comment, spelled, spelling, Divides}
use Rattle.stapl_lexer.specs.Pieces.{is_blank, is_semicolon, line_at, piece_of, pieces_from, IsCut, LiesIn, Follows, LieInOrder}
use Rattle.stapl_lexer.proofs.CutLemmas.{first_part, split_has}
use Rattle.stapl_lexer.proofs.Unique.{one_way}

-- the pieces of a text are one list
pub cut_one_way : (text : List ℕ) (a b : List Piece) → IsCut text a → IsCut text b → a ≡ b
cut_one_way text a b c d =
    c.pieces_are ∙ ap (λ (v : List Segment). pieces_from text 0 (slice_split is_semicolon v)) (one_way c.segments d.segments text c.divides d.divides)
    ∙ sym d.pieces_are

-- the groups with the semicolons between them
joined : List (List Segment) → List ℕ
joined [] = []
joined (group ∷ []) = spelling group
joined (group ∷ next ∷ groups) = spelling group ++ 59 ∷ joined (next ∷ groups)

divided_spelling : (segments : List Segment) (text : List ℕ) → Divides segments text [] → text ≡ spelling segments
divided_spelling [] text d = d
divided_spelling (s ∷ ss) text d =
    d.1 ∙ ap (λ (v : List ℕ). spelled s ++ v) (divided_spelling ss d.0 d.3) ∙ sym (flat_map-cons spelled s ss)

joined_onto : (s : Segment) (first : List Segment) (others : List (List Segment)) → joined ((s ∷ first) ∷ others) ≡ spelled s ++ joined (first ∷ others)
unfolding joined
joined_onto s first [] = flat_map-cons spelled s first
joined_onto s first (o ∷ os) =
    ap (λ (v : List ℕ). v ++ 59 ∷ joined (o ∷ os)) (flat_map-cons spelled s first) ∙ append_assoc (spelled s) (spelling first) (59 ∷ joined (o ∷ os))

semicolon_spelled : (s : Segment) → is_semicolon s ≡ true → spelled s ≡ 59 ∷ []
semicolon_spelled (Plain b) e = ap (λ (q : ℕ). q ∷ []) (eqb-true b 59 e)
semicolon_spelled (Closed bytes) e = cc
semicolon_spelled (Open bytes) e = cc
semicolon_spelled (Comment bytes) e = cc

joined_step : (b : Bool) (s : Segment) (first : List Segment) (others : List (List Segment)) → is_semicolon s ≡ b →
    joined (cond b ([] ∷ first ∷ others) (onto_first s (first ∷ others))) ≡ spelled s ++ joined (first ∷ others)
unfolding joined
joined_step true s first others e = ap (λ (v : List ℕ). v ++ joined (first ∷ others)) (sym (semicolon_spelled s e))
joined_step false s first others e = joined_onto s first others

joined_split : (segments : List Segment) → joined (slice_split is_semicolon segments) ≡ spelling segments
unfolding joined
joined_split [] = refl
joined_split (s ∷ ss) = elim (split_has ss) [
  | first_part first others e ↦
      ap (λ (v : List (List Segment)). joined (cond (is_semicolon s) ([] ∷ v) (onto_first s v))) e
      ∙ joined_step (is_semicolon s) s first others refl
      ∙ ap (λ (v : List ℕ). spelled s ++ v) (ap joined (sym e) ∙ joined_split ss)
      ∙ sym (flat_map-cons spelled s ss)
]

-- the first piece starts there, and each other one after the one before
abbrev Chained : ℕ → List Piece → Type 0
Chained start [] = Unit {0}
Chained start (piece ∷ []) = piece.start ≡ start
Chained start (piece ∷ next ∷ pieces) = (piece.start ≡ start) × (piece.closed ≡ true) × Chained (piece.end + 1) (next ∷ pieces)

chained_cons : (start : ℕ) (piece : Piece) (pieces : List Piece) → piece.start ≡ start → piece.closed ≡ true → Chained (piece.end + 1) pieces →
    Chained start (piece ∷ pieces)
chained_cons start piece [] e closed h = e
chained_cons start piece (next ∷ pieces) e closed h = (e, closed, h)

chained_last : (b : Bool) (piece : Piece) → Chained piece.start (if b then [] else piece ∷ [])
chained_last true piece = tt
chained_last false piece = refl

chained_from : (text : List ℕ) (start : ℕ) (groups : List (List Segment)) → Chained start (pieces_from text start groups)
chained_from text start [] = tt
chained_from text start (group ∷ []) = chained_last (list_all is_blank group) (piece_of text start group false)
chained_from text start (group ∷ next ∷ groups) =
    chained_cons start (piece_of text start group true) _ refl refl (chained_from text (start + length (spelling group) + 1) (next ∷ groups))

chained_start : (start : ℕ) (piece : Piece) (pieces : List Piece) → Chained start (piece ∷ pieces) → piece.start ≡ start
chained_start start piece [] h = h
chained_start start piece (next ∷ pieces) h = h.0

chained_first : (start : ℕ) (pieces : List Piece) → Chained start pieces → IfSome (slice_get pieces 0) (λ piece. piece.start ≡ start)
chained_first start [] h = tt
chained_first start (piece ∷ pieces) h = chained_start start piece pieces h

chained_next : (start : ℕ) (pieces : List Piece) → Chained start pieces → (k : ℕ) (d : Piece) → k + 1 < length pieces →
    Follows (get_or pieces k d) (get_or pieces (k + 1) d)
chained_next start [] h k d lt = absurd (omega arith)
chained_next start (piece ∷ []) h k d lt = absurd (omega arith)
chained_next start (piece ∷ next ∷ pieces) h zero d lt = record { closed = h.1; start = chained_start (piece.end + 1) next pieces h.2 }
chained_next start (piece ∷ next ∷ pieces) h (suc k) d lt =
    rw (add-one (suc k)) (rw (add-one k) at (chained_next (piece.end + 1) (next ∷ pieces) h.2 k d (omega arith)))

pub cut_in_order : (text : List ℕ) (pieces : List Piece) → IsCut text pieces → LieInOrder pieces
cut_in_order text pieces c =
    let chained : Chained 0 pieces = subst (Chained 0) (sym c.pieces_are) (chained_from text 0 (slice_split is_semicolon c.segments)) in
    record { first = chained_first 0 pieces chained; next = chained_next 0 pieces chained }

line_below : (text : List ℕ) (at : ℕ) → line_at text at ≤ length text + 1
line_below text at = omega (arith, count_by-le-length (λ b. b == 10) (take at text), length-take at text)

-- a group that ends with the text
lies_last : (text : List ℕ) (start : ℕ) (group : List Segment) → start ≤ length text → drop start text ≡ spelling group →
    LiesIn text (piece_of text start group false)
lies_last text start group within rest =
    let len : start + length (spelling group) ≡ length text = omega (arith, length-drop start text, ap length rest) in
    record {
      ordered = omega arith;
      within = omega arith;
      before_end = λ e. cc;
      semicolon = λ e. cc;
      at_end = λ e. len;
      line_above = omega arith;
      line_below = line_below text _;
    }

lies_closed : (text : List ℕ) (start : ℕ) (group : List Segment) (more : List ℕ) → start ≤ length text → drop start text ≡ spelling group ++ 59 ∷ more →
    LiesIn text (piece_of text start group true)
lies_closed text start group more within rest =
    let len : start + length (spelling group) + 1 + length more ≡ length text =
    omega (arith, length-drop start text, ap length rest, length-append (spelling group) (59 ∷ more)) in
    let byte : get_or text (start + length (spelling group)) 0 ≡ 59 =
    sym (get_or-drop start text (length (spelling group)) 0) ∙ ap (λ (v : List ℕ). get_or v (length (spelling group)) 0) rest
    ∙ get_or-append_seam (spelling group) 59 more 0 in
    record {
      ordered = omega arith;
      within = omega arith;
      before_end = λ e. omega arith;
      semicolon = λ e. byte;
      at_end = λ e. cc;
      line_above = omega arith;
      line_below = line_below text _;
    }

all_last : (b : Bool) (text : List ℕ) (piece : Piece) → LiesIn text piece → All (LiesIn text) (if b then [] else piece ∷ [])
all_last true text piece h = All-nil (LiesIn text)
all_last false text piece h = All-cons (LiesIn text) piece [] h (All-nil (LiesIn text))

after : (text : List ℕ) (start : ℕ) (front more : List ℕ) → drop start text ≡ front ++ 59 ∷ more → drop (start + length front + 1) text ≡ more
after text start front more rest =
    let wide : List ℕ = front ++ 59 ∷ [] in
    let place : start + length front + 1 ≡ start + length wide = omega (arith, length-append front (59 ∷ [])) in
    ap (λ (k : ℕ). drop k text) place ∙ sym (drop-drop (length wide) start text)
    ∙ ap (drop (length wide)) (rest ∙ sym (append_assoc front (59 ∷ []) more)) ∙ drop-append_seam wide more

lies_from : (text : List ℕ) (start : ℕ) (groups : List (List Segment)) → start ≤ length text → drop start text ≡ joined groups →
    All (LiesIn text) (pieces_from text start groups)
unfolding joined
lies_from text start [] within rest = All-nil (LiesIn text)
lies_from text start (group ∷ []) within rest = all_last (list_all is_blank group) text _ (lies_last text start group within rest)
lies_from text start (group ∷ next ∷ groups) within rest =
    let more = joined (next ∷ groups) in
    let piece : LiesIn text (piece_of text start group true) = lies_closed text start group more within rest in
    let inside : start + length (spelling group) < length text = piece.before_end refl in
    All-cons (LiesIn text) (piece_of text start group true) _ piece
    (lies_from text (start + length (spelling group) + 1) (next ∷ groups) (omega arith) (after text start (spelling group) more rest))

pub cut_lies : (text : List ℕ) (pieces : List Piece) → IsCut text pieces → All (LiesIn text) pieces
cut_lies text pieces c =
    subst (All (LiesIn text)) (sym c.pieces_are)
    (lies_from text 0 (slice_split is_semicolon c.segments) (omega arith)
    (divided_spelling c.segments text c.divides ∙ sym (joined_split c.segments)))
