-- On the check word of a program, and on counts of its statements.
use Rattle.std.proofs.Common.{◌≡◌, ◌-◌, ◌+◌, ℕ, List, [], ◌∷◌, length, map, take, Option, None, Some, refl, sym, ap, ◌∙◌, subst, arith, zero, suc, cond}
use Rattle.std.proofs.lemmas.Option.{same_Some, none-some}
use Rattle.std.proofs.lemmas.Bool.{ne_eqb}
use Rattle.std.proofs.lemmas.List.Folds.{fold-map}
use Rattle.std.specs.Prelude.{slice_get}
use Rattle.std.specs.List.{count_by}
use Rattle.std.specs.Option.{option_map_or}
use Rattle.stapl_lexer.specs.declared.piece.Piece.{Piece}
use Rattle.stapl_lexer.specs.declared.reason.Reason.{Reason}
use Rattle.stapl_lexer.specs.declared.token.Token.{Token}
use Rattle.stapl_lexer.specs.Crc.{check_word}
use Rattle.stapl_lexer.specs.Pieces.{IsCut}
use Rattle.stapl_lexer.specs.PieceFaults.{AreTokens, IsSmallestTokenReason}
use Rattle.stapl_lexer.proofs.PieceLemmas.{cut_one_way}
use Rattle.stapl_lexer.proofs.ReasonLemmas.{one_list}
use Rattle.stapl_syntax.specs.Trees.{BodyTree, crc, StmtTree, stmt_tree}
use Rattle.stapl_syntax.specs.Statements.{IsBody, IsLabelled, Means, IsPieceStatement}
use Rattle.stapl_syntax.specs.Symbols.{symbols_of}
use Rattle.stapl_syntax.specs.Programs.{AreReadAs, IsProgram}
use Rattle.stapl_syntax.specs.declared.statement.Stmt.{Stmt}
use Rattle.program_reports.specs.declared.checking.StatementKind.{StatementKind}
use Rattle.program_reports.specs.declared.checking.CheckWords.{CheckWords}
use Rattle.program_reports.specs.Checks.{word_of, stored_word, count_of, is_of_kind, has_kind, BeginsLastPiece, HasCheckWords, holds_none, holds_one, differing_line, compared_line, check_text, IsCheckText, checked}

-- The last piece of a text begins with at most one token.

-- a piece, and its first token
record First : Type 0 where
  piece : Piece
  word : Token

same_tokens : (text : List ℕ) (piece : Piece) (v w : Token) (beyond after : List Token) → AreTokens text piece (v ∷ beyond) →
    AreTokens text piece (w ∷ after) → v ≡ w
same_tokens text piece v w beyond after x y = let e = one_list text piece (v ∷ beyond) (w ∷ after) x.good y.good in cc

-- the last piece, by any list of pieces
pub last_of : {text : List ℕ} {word : Token} (pieces : List Piece) → IsCut text pieces → (b : BeginsLastPiece text word) →
    slice_get pieces (length pieces - 1) ≡ Some b.piece
last_of {text = text} pieces cut b =
    subst (λ (ps : List Piece). slice_get ps (length ps - 1) ≡ Some b.piece) (cut_one_way text b.pieces pieces b.cut cut) b.last

one_begin : {text : List ℕ} {v w : Token} → BeginsLastPiece text v → BeginsLastPiece text w → v ≡ w
one_begin {text = text} {v = v} {w = w} a b =
    let same : a.piece ≡ b.piece = same_Some a.piece b.piece (sym (last_of b.pieces b.cut a) ∙ b.last) in
    same_tokens text b.piece v w a.after b.after (subst (λ (p : Piece). AreTokens text p (v ∷ a.after)) same a.tokens) b.tokens

same_words : (text : List ℕ) (n m : ℕ) (v w : Token) → n ≡ m → v ≡ w →
    ◌≡◌ {A = Option CheckWords} (Some (record { stored = n; computed = check_word (take v.start text) }))
    (Some (record { stored = m; computed = check_word (take w.start text) }))
same_words text n m v w e f = rw (e, f) refl

-- a program has at most one answer about its check word
pub one_word : {text : List ℕ} {program : List StmtTree} {a b : Option CheckWords} → HasCheckWords text program a → HasCheckWords text program b → a ≡ b
one_word (holds_none e) (holds_none f) = refl
one_word (holds_none e) (holds_one stored word f begins) = absurd (none-some stored (sym e ∙ f))
one_word (holds_one stored word e begins) (holds_none f) = absurd (none-some stored (sym f ∙ e))
one_word {text = text} (holds_one stored word e begins) (holds_one other token f also) =
    same_words text stored other word token (same_Some stored other (sym e ∙ f)) (one_begin begins also)

-- a program has at most one check text
pub one_check_text : {text : List ℕ} {program : List StmtTree} {a b : List ℕ} → IsCheckText text program a → IsCheckText text program b → a ≡ b
one_check_text {program = program} (checked a x) (checked b y) = ap (check_text program) (one_word x y)

-- A program that holds a check word has a last piece with a token.

-- a piece of the text, which is this statement
record IsPieceOf (text : List ℕ) (pieces : List Piece) (i : ℕ) (st : StmtTree) : Type 0 where
  piece : Piece
  at : slice_get pieces i ≡ Some piece
  is : IsPieceStatement text piece st

piece_at : (text : List ℕ) (pieces : List Piece) (program : List StmtTree) (i : ℕ) (st : StmtTree) → AreReadAs text pieces (map Some program) →
    slice_get program i ≡ Some st → IsPieceOf text pieces i st
piece_at text [] [] i st read e = absurd (none-some st e)
piece_at text [] (s ∷ program) i st read e = absurd read
piece_at text (p ∷ pieces) [] i st read e = absurd (none-some st e)
piece_at text (p ∷ pieces) (s ∷ program) zero st read e =
    record { piece = p; at = refl; is = subst (IsPieceStatement text p) (same_Some s st e) read.0 }
piece_at text (p ∷ pieces) (s ∷ program) (suc i) st read e =
    let found = piece_at text pieces program i st read.1 e in record { piece = found.piece; at = found.at; is = found.is }

as_many : (text : List ℕ) (pieces : List Piece) (program : List StmtTree) → AreReadAs text pieces (map Some program) → length pieces ≡ length program
as_many text [] [] read = refl
as_many text [] (s ∷ program) read = absurd read
as_many text (p ∷ pieces) [] read = absurd read
as_many text (p ∷ pieces) (s ∷ program) read = let e = as_many text pieces program read.1 in omega arith

-- the CRC statement has a token
not_empty : (body : BodyTree) (n : ℕ) → word_of body ≡ Some n → IsBody [] body → ⊥
not_empty (crc k) n e is = let f = is.1 in cc
not_empty _ n e is = absurd (none-some n e)

not_blank : (st : StmtTree) (n : ℕ) → word_of st.body ≡ Some n → Means [] st → ⊥
not_blank st n e means = by_label st.label means
  where
    by_label : (label : Option (List ℕ)) → IsLabelled [] label st.body → ⊥
    by_label None is = not_empty st.body n e is
    by_label (Some v) is = let f = is.1 in cc

begins_with : (text : List ℕ) (pieces : List Piece) (st : StmtTree) (n : ℕ) (tokens : List Token) → IsCut text pieces →
    (found : IsPieceOf text pieces (length pieces - 1) st) → word_of st.body ≡ Some n → AreTokens text found.piece tokens →
    Means (symbols_of text tokens) st → (word : Token) × BeginsLastPiece text word
begins_with text pieces st n [] cut found e are means = absurd (not_blank st n e means)
begins_with text pieces st n (word ∷ beyond) cut found e are means =
    (word, record { pieces = pieces; cut = cut; piece = found.piece; last = found.at; after = beyond; tokens = are })

holding : (text : List ℕ) (program : List StmtTree) (is : IsProgram text program) (n : ℕ) (last : Option StmtTree) →
    slice_get program (length program - 1) ≡ last → option_map_or (λ st. word_of st.body) last None ≡ Some n → (word : Token) × BeginsLastPiece text word
holding text program is n None e f = absurd (none-some n f)
holding text program is n (Some st) e f =
    let same : length program - 1 ≡ length is.pieces - 1 = ap (λ (k : ℕ). k - 1) (sym (as_many text is.pieces program is.read)) in
    let found = piece_at text is.pieces program (length is.pieces - 1) st is.read (subst (λ (k : ℕ). slice_get program k ≡ Some st) same e) in
    begins_with text is.pieces st n (found.is).tokens is.cut found f (found.is).are (found.is).means

pub program_begins : {text : List ℕ} {program : List StmtTree} (n : ℕ) → IsProgram text program → stored_word program ≡ Some n →
    (word : Token) × BeginsLastPiece text word
program_begins {text = text} {program = program} n is e = holding text program is n (slice_get program (length program - 1)) refl e

-- a program has a check text
words_of : (text : List ℕ) (program : List StmtTree) (stored : Option ℕ) → IsProgram text program → stored_word program ≡ stored →
    (words : Option CheckWords) × HasCheckWords text program words
words_of text program None is e = (None, holds_none e)
words_of text program (Some n) is e =
    let begins = program_begins n is e in
    (Some (record { stored = n; computed = check_word (take (begins.0).start text) }), holds_one n begins.0 e begins.1)

pub some_check_text : (text : List ℕ) (program : List StmtTree) → IsProgram text program → (check : List ℕ) × IsCheckText text program check
some_check_text text program is =
    let words = words_of text program (stored_word program) is refl in
    (check_text program words.0, checked words.0 words.1)

-- A text whose last piece begins with a token has a last piece, which has tokens, and no reason against them.

pub has_last : {text : List ℕ} {word : Token} (pieces : List Piece) → IsCut text pieces → BeginsLastPiece text word →
    slice_get pieces (length pieces - 1) ≡ None → ⊥
has_last pieces cut b e = none-some b.piece (sym e ∙ last_of pieces cut b)

the_piece : {text : List ℕ} {word : Token} (pieces : List Piece) (piece : Piece) → IsCut text pieces → (b : BeginsLastPiece text word) →
    slice_get pieces (length pieces - 1) ≡ Some piece → b.piece ≡ piece
the_piece pieces piece cut b e = same_Some b.piece piece (sym (last_of pieces cut b) ∙ e)

some_tokens : (text : List ℕ) (piece : Piece) (word : Token) (beyond : List Token) → AreTokens text piece (word ∷ beyond) → AreTokens text piece [] → ⊥
some_tokens text piece word beyond x y = let e = one_list text piece (word ∷ beyond) [] x.good y.good in cc

pub has_token : {text : List ℕ} {word : Token} (pieces : List Piece) (piece : Piece) (tokens : List Token) → IsCut text pieces → BeginsLastPiece text word →
    slice_get pieces (length pieces - 1) ≡ Some piece → AreTokens text piece tokens → slice_get tokens 0 ≡ None → ⊥
has_token {text = text} {word = word} pieces piece [] cut b e are none =
    some_tokens text piece word b.after (subst (λ (p : Piece). AreTokens text p (word ∷ b.after)) (the_piece pieces piece cut b e) b.tokens) are
has_token pieces piece (first ∷ tokens) cut b e are none = none-some first (sym none)

pub has_no_reason : {text : List ℕ} {word : Token} (pieces : List Piece) (piece : Piece) (reason : Reason) → IsCut text pieces → BeginsLastPiece text word →
    slice_get pieces (length pieces - 1) ≡ Some piece → IsSmallestTokenReason text piece reason → ⊥
has_no_reason {text = text} {word = word} pieces piece reason cut b e r =
    let tokens = subst (λ (p : Piece). AreTokens text p (word ∷ b.after)) (the_piece pieces piece cut b e) b.tokens in
    tokens.faultless reason r.holds

pub begins_last : {text : List ℕ} (pieces : List Piece) (piece : Piece) (tokens : List Token) (word : Token) → IsCut text pieces →
    slice_get pieces (length pieces - 1) ≡ Some piece → AreTokens text piece tokens → slice_get tokens 0 ≡ Some word → BeginsLastPiece text word
begins_last pieces piece [] word cut e are f = absurd (none-some word f)
begins_last {text = text} pieces piece (v ∷ beyond) word cut e are f = record {
  pieces = pieces;
  cut = cut;
  piece = piece;
  last = e;
  after = beyond;
  tokens = subst (λ (w : Token). AreTokens text piece (w ∷ beyond)) (same_Some v word f) are;
}

-- Statements are counted by their trees.

pub counts : (kind : StatementKind) (program : List Stmt) → count_of kind (map stmt_tree program) ≡ count_by (has_kind kind) program
unfolding has_kind
counts kind program = fold-map (λ (n : ℕ) (st : StmtTree). n + cond (is_of_kind kind st.body) 1 0) stmt_tree 0 program

-- the line of check words that differ
pub differs : (words : CheckWords) → (words.stored ≡ words.computed → ⊥) → compared_line words ≡ differing_line words.stored words.computed
differs words apart = rw (ne_eqb words.stored words.computed apart) refl
