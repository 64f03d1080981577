-- The check word of canonical text is that of the bytes before its word CRC.
use Rattle.std.proofs.Common.{◌≡◌, ℕ, ◌+◌, ◌-◌, ◌<◌, ◌≤◌, suc, true, List, [], ◌∷◌, ◌++◌, take, drop, slice_range, slice_get, length, Option, Some, None, refl}
use Rattle.std.proofs.Common.{sym, ap, subst, ◌∙◌, arith, append_assoc}
use Rattle.std.specs.List.{AllByRecursion}
use Rattle.std.proofs.Math.Seq.{take-append_seam, take-add}
use Rattle.std.proofs.lemmas.List.{length-append}
use Rattle.stapl_lexer.specs.declared.piece.Piece.{Piece}
use Rattle.stapl_lexer.specs.declared.token.Token.{Token}
use Rattle.stapl_lexer.specs.Crc.{check_word}
use Rattle.stapl_lexer.specs.Pieces.{piece_of, pieces_from, IsCut}
use Rattle.stapl_lexer.proofs.PieceLemmas.{cut_one_way}
use Rattle.canonical_text.proofs.Programs.{checked_are_printable}
use Rattle.stapl_lexer.specs.PieceTokens.{AreBlanks, Lexeme, HasLexemes}
use Rattle.stapl_lexer.specs.PieceFaults.{tokens_of, AreTokens}
use Rattle.stapl_lexer.specs.Runs.{IsSolid}
use Rattle.stapl_lexer.specs.Segments.{Segment, Plain as PlainByte, spelling}
use Rattle.stapl_lexer.proofs.PieceTokenLemmas.{same_blanks, range_length}
use Rattle.stapl_syntax.specs.Trees.{BodyTree, crc, StmtTree}
use Rattle.canonical_text.specs.PrintedTokens.{outer_spelling, sign_spelling}
use Rattle.canonical_text.specs.PrintedStatements.{stmt_tokens}
use Rattle.canonical_text.specs.Spacing.{spaced}
use Rattle.canonical_text.specs.CanonicalText.{line, lines, checked_body, checked, checked_from, checked_statements, canonical_text}
use Rattle.canonical_text.specs.Printable.{CanBePrinted}
use Rattle.canonical_text.proofs.PieceStatements.{printed_calm}
use Rattle.canonical_text.proofs.PrintedSegments.{plain_segments, spaced_segments, calm_on}
use Rattle.canonical_text.proofs.Texts.{Lead, first_lead, lines_cut, next_lead, groups_from, lines-cons, calm_spelling, room, own_range, rest_bytes}

-- the last of a list
abbrev pub last : {A : Type 0} → List A → Option A
last [] = None
last (x ∷ []) = Some x
last (x ∷ y ∷ xs) = last (y ∷ xs)

-- The piece of a CRC line: the bytes before the line, and the piece's bytes.
pub record IsCheckPiece (text : List ℕ) (piece : Piece) (n : ℕ) : Type 0 where
  pub before : List ℕ
  lead : List ℕ
  leads : Lead lead
  ordered : piece.start ≤ piece.end
  within : piece.end ≤ length text
  word : n ≡ check_word before
  bytes : slice_range text piece.start piece.end ≡ lead ++ spaced (stmt_tokens (record { label = None; body = crc n }))
  front : take (piece.start + length lead) text ≡ before

crc_in : (before : List ℕ) (body : BodyTree) (n : ℕ) → checked_body before body ≡ crc n → n ≡ check_word before
crc_in before (crc m) n e = cc
crc_in before _ n e = absurd cc

body_same : (s t : StmtTree) → Some s ≡ Some t → s.body ≡ t.body
body_same s t e = ap (λ (x : StmtTree). x.body) (same e)
  where
    same : Some s ≡ Some t → s ≡ t
    same e = cc

abbrev crc_line : ℕ → StmtTree
crc_line n = record { label = None; body = crc n }

some_same : {A : Type 0} (x y : A) → Some x ≡ Some y → x ≡ y
some_same x y e = cc

-- the bytes before the next line
front_more : (text : List ℕ) (start : ℕ) (lead own rest before : List ℕ) → drop start text ≡ (lead ++ own) ++ (59 ∷ rest) → take start text ++ lead ≡ before →
    (n : ℕ) → n ≡ start + length (lead ++ own) + 1 → take n text ++ (10 ∷ []) ≡ before ++ (own ++ 59 ∷ 10 ∷ [])
front_more text start lead own rest before bytes front n e =
    let len : n ≡ start + length ((lead ++ own) ++ 59 ∷ []) = omega (arith, e, length-append (lead ++ own) (59 ∷ [])) in
    ap (λ (v : List ℕ). v ++ 10 ∷ []) (ap (λ (k : ℕ). take k text) len ∙ take-add start (length ((lead ++ own) ++ 59 ∷ [])) text
    ∙ ap (λ (v : List ℕ). take start text ++ take (length ((lead ++ own) ++ 59 ∷ [])) v) (bytes ∙ sym (append_assoc (lead ++ own) (59 ∷ []) rest))
    ∙ ap (λ (v : List ℕ). take start text ++ v) (take-append_seam ((lead ++ own) ++ 59 ∷ []) rest))
    ∙ grind (arith, append_assoc, front)

-- the only piece
one_piece : (text : List ℕ) (start : ℕ) (lead before : List ℕ) (st : StmtTree) (n : ℕ) (piece : Piece) → Lead lead → CanBePrinted (checked before st) → start ≤ length text →
    drop start text ≡ lead ++ lines (checked before st ∷ []) → take start text ++ lead ≡ before → Some (checked before st) ≡ Some (crc_line n) →
    Some (piece_of text start (plain_segments lead ++ spaced_segments (stmt_tokens (checked before st))) true) ≡ Some piece → IsCheckPiece text piece n
one_piece text start lead before st n piece leads can le bytes front e f =
    let own = lead ++ spaced (stmt_tokens (checked before st)) in
    let group = plain_segments lead ++ spaced_segments (stmt_tokens (checked before st)) in
    let group_is : spelling group ≡ own =
    calm_spelling group own
    (calm_on (plain_segments lead) (spaced_segments (stmt_tokens (checked before st))) lead (spaced (stmt_tokens (checked before st))) leads.is.calm (printed_calm (checked before st) can)) in
    let whole : drop start text ≡ own ++ (59 ∷ 10 ∷ lines []) =
    bytes ∙ ap (λ (v : List ℕ). lead ++ v) (lines-cons (checked before st) []) ∙ sym (append_assoc lead (spaced (stmt_tokens (checked before st))) (59 ∷ 10 ∷ lines [])) in
    let len : length (spelling group) ≡ length own = ap length group_is in
    let space = room text start own (10 ∷ lines []) le whole in
    subst (λ (p : Piece). IsCheckPiece text p n) (some_same _ piece f) (record {
      before = before;
      lead = lead;
      leads = leads;
      ordered = omega arith;
      within = omega (arith, len, space);
      word = crc_in before st.body n (body_same (checked before st) (crc_line n) e);
      bytes = own_range text start own (10 ∷ lines []) le whole (start + length (spelling group)) (omega (arith, len))
          ∙ ap (λ (s : StmtTree). lead ++ spaced (stmt_tokens s)) (some_same (checked before st) (crc_line n) e);
      front = take-add start (length lead) text ∙ ap (λ (v : List ℕ). take start text ++ take (length lead) v) bytes
          ∙ ap (λ (v : List ℕ). take start text ++ v) (take-append_seam lead (lines (checked before st ∷ []))) ∙ front;
    })

last_more : (text : List ℕ) (start : ℕ) (group : List Segment) (st : StmtTree) (sts : List StmtTree) →
    last (pieces_from text start (group ∷ groups_from (PlainByte 10 ∷ []) (st ∷ sts)))
    ≡ last (pieces_from text (start + length (spelling group) + 1) (groups_from (PlainByte 10 ∷ []) (st ∷ sts)))
last_more text start group st [] = refl
last_more text start group st (s ∷ sts) = refl

last_alone : (text : List ℕ) (start : ℕ) (group : List Segment) → last (pieces_from text start (group ∷ groups_from (PlainByte 10 ∷ []) [])) ≡ Some (piece_of text start group true)
last_alone text start group = refl

pub check_piece : (text : List ℕ) (start : ℕ) (lead before : List ℕ) (sts : List StmtTree) (n : ℕ) (piece : Piece) → Lead lead → AllByRecursion CanBePrinted (checked_from before sts) →
    start ≤ length text →
    drop start text ≡ lead ++ lines (checked_from before sts) → take start text ++ lead ≡ before → last (checked_from before sts) ≡ Some (crc_line n) →
    last (pieces_from text start (groups_from (plain_segments lead) (checked_from before sts))) ≡ Some piece → IsCheckPiece text piece n
check_piece text start lead before [] n piece leads all le bytes front e f = absurd cc
check_piece text start lead before (st ∷ []) n piece leads all le bytes front e f = one_piece text start lead before st n piece leads all.0 le bytes front e f
check_piece text start lead before (st ∷ s ∷ sts) n piece leads all le bytes front e f =
    let here = checked before st in
    let own = lead ++ spaced (stmt_tokens here) in
    let group = plain_segments lead ++ spaced_segments (stmt_tokens here) in
    let rest = checked_from (before ++ line here) (s ∷ sts) in
    let group_is : spelling group ≡ own =
    calm_spelling group own (calm_on (plain_segments lead) (spaced_segments (stmt_tokens here)) lead (spaced (stmt_tokens here)) leads.is.calm (printed_calm here all.0)) in
    let whole : drop start text ≡ own ++ (59 ∷ 10 ∷ lines rest) =
    bytes ∙ ap (λ (v : List ℕ). lead ++ v) (lines-cons here rest) ∙ sym (append_assoc lead (spaced (stmt_tokens here)) (59 ∷ 10 ∷ lines rest)) in
    let len : length (spelling group) ≡ length own = ap length group_is in
    let space = room text start own (10 ∷ lines rest) le whole in
    let next = start + length (spelling group) + 1 in
    check_piece text (start + length (spelling group) + 1) (10 ∷ []) (before ++ line here) (s ∷ sts) n piece next_lead all.1 (omega (arith, len, space))
    (rest_bytes text start own (10 ∷ lines rest) le whole (start + length (spelling group) + 1) (omega (arith, len)))
    (front_more text start lead (spaced (stmt_tokens here)) (10 ∷ lines rest) before whole front (start + length (spelling group) + 1) (omega (arith, len)))
    e (sym (last_more text start group (checked (before ++ line here) s) (checked_from ((before ++ line here) ++ line (checked (before ++ line here) s)) sts)) ∙ f)

-- ---- the word CRC

own_solid : (n : ℕ) → IsSolid (spaced (stmt_tokens (crc_line n)))
unfolding sign_spelling outer_spelling
own_solid n = refl

start_is : (text : List ℕ) (piece : Piece) (n : ℕ) (is : IsCheckPiece text piece n) (start : ℕ) → start < piece.end →
    AreBlanks (slice_range text piece.start piece.end) (slice_range text start piece.end) → IsSolid (slice_range text start piece.end) → start ≡ piece.start + length is.lead
start_is text piece n is start lt blank solid =
    let own = spaced (stmt_tokens (crc_line n)) in
    let ours : AreBlanks (slice_range text piece.start piece.end) own =
    subst (λ (v : List ℕ). AreBlanks v own) (sym is.bytes) (is.leads.is.blank own) in
    let same : slice_range text start piece.end ≡ own = same_blanks (slice_range text piece.start piece.end) (slice_range text start piece.end) own blank ours solid (own_solid n) in
    omega (
      arith,
      is.ordered,
      is.within,
      ap length same,
      ap length is.bytes,
      length-append is.lead own,
      range_length text start piece.end (omega arith) is.within,
      range_length text piece.start piece.end is.ordered is.within,
    )

-- its digits are the check word of the bytes before it
pub check_word_is : (text : List ℕ) (piece : Piece) (n : ℕ) (word : Token) (others : List Token) → IsCheckPiece text piece n → AreTokens text piece (word ∷ others) →
    n ≡ check_word (take word.start text)
check_word_is text piece n word others is are = by are.good.lexemes are.good.has are.good.tokens_are
  where
    first : {a b : Token} {xs ys : List Token} → a ∷ xs ≡ b ∷ ys → a ≡ b
    first e = cc

    by : (lexemes : List Lexeme) → HasLexemes text None piece.start piece.end lexemes → word ∷ others ≡ tokens_of lexemes → n ≡ check_word (take word.start text)
    by [] has e = absurd cc
    by (l ∷ ls) has e =
        let some = has.0.some in
        let within = has.0.within in
        let starts : l.token.start ≡ piece.start + length is.lead = start_is text piece n is l.token.start (omega arith) has.0.blank has.0.solid in
        is.word ∙ ap check_word (sym is.front ∙ ap (λ (k : ℕ). take k text) (sym starts) ∙ ap (λ (t : Token). take t.start text) (sym (first e)))

-- the last one, by its place
last_by_place : {A : Type 0} (xs : List A) → slice_get xs (length xs - 1) ≡ last xs
last_by_place [] = refl
last_by_place (x ∷ []) = refl
last_by_place (x ∷ y ∷ xs) =
    let place : length (x ∷ y ∷ xs) - 1 ≡ suc (length (y ∷ xs) - 1) = omega arith in
    ap (slice_get (x ∷ y ∷ xs)) place ∙ last_by_place (y ∷ xs)

-- the check word of canonical text stands in it
pub good_check_word : (sts : List StmtTree) (pieces : List Piece) (piece : Piece) (n : ℕ) (word : Token) (others : List Token) → AllByRecursion CanBePrinted sts →
    IsCut (canonical_text sts) pieces → slice_get pieces (length pieces - 1) ≡ Some piece →
    slice_get (checked_statements sts) (length (checked_statements sts) - 1) ≡ Some (record { label = None; body = crc n }) →
    AreTokens (canonical_text sts) piece (word ∷ others) → n ≡ check_word (take word.start (canonical_text sts))
good_check_word sts pieces piece n word others printable cut at ends are =
    let all = checked_are_printable [] sts printable in
    let ours = pieces_from (canonical_text sts) 0 (groups_from [] (checked_statements sts)) in
    let same : pieces ≡ ours = cut_one_way (canonical_text sts) pieces ours cut (lines_cut (checked_statements sts) all) in
    let final : last ours ≡ Some piece = ap last (sym same) ∙ sym (last_by_place pieces) ∙ at in
    check_word_is (canonical_text sts) piece n word others
    (check_piece (canonical_text sts) 0 [] [] sts n piece first_lead all (omega arith) refl refl (sym (last_by_place (checked_statements sts)) ∙ ends) final) are
