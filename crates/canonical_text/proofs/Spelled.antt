-- What the grammar sees of the tokens of a statement can be spelled.
use Rattle.std.proofs.Common.{◌≡◌, ℕ, ℤ, pos, ◌-◌, ◌%◌, ◌<◌, ◌≤◌, Bool, true, false, cond, not, ◌&&◌, ◌||◌, List, [], ◌∷◌, ◌++◌, length, take, drop}
use Rattle.std.proofs.Common.{slice_index, slice_range, Option, Some, None, inl, inr, refl, sym, ap, subst, ◌∙◌, arith, append-nil}
use Rattle.std.specs.Prelude.{nat_lt, nat_le, is_some, if◌then◌else◌, codes}
use Rattle.std.specs.Char.{is_ascii_alphabetic, eq_ignore_ascii_case}
use Rattle.std.specs.Int.{w32, cast_signed}
use Rattle.std.specs.List.{list_any, list_all}
use Rattle.std.specs.Str.{bytes_eq, str_to_ascii_uppercase}
use Rattle.std.proofs.lemmas.Bool.{and_parts, cases_lt, leb-true}
use Rattle.std.proofs.lemmas.Bool.Decides.{nat_tests}
use Rattle.std.proofs.lemmas.Int.{to_z_pos}
use Rattle.std.proofs.lemmas.List.Folds.{list_any-append}
use Rattle.std.proofs.lemmas.Slice.Eq.{bytes_eq-Decides}
use Rattle.stapl_lexer.specs.declared.piece.Piece.{Piece}
use Rattle.stapl_lexer.specs.declared.reason.Reason.TheVariants as reasons
use Rattle.stapl_lexer.specs.declared.terminal.Terminal.{Terminal}
use Rattle.stapl_lexer.specs.declared.token.Token.{Token}
use Rattle.stapl_lexer.specs.declared.token.TokenKind.{TokenKind}
use Rattle.stapl_lexer.specs.declared.token.TokenKind.TheVariants as kinds
use Rattle.stapl_lexer.specs.Depth.{is_word}
use Rattle.stapl_lexer.specs.Marks.{mark_table, mark_terminal, is_mark_spelling}
use Rattle.stapl_lexer.specs.Names.{is_name, is_name_byte}
use Rattle.stapl_lexer.specs.PieceFaults.{is_long_word, tokens_of, LongWord, AreTokens}
use Rattle.stapl_lexer.specs.PieceTokens.{IsWord, IsWordTail, number_value, Spells, is_closed, kind_at, value_of, terminal_of, token_bytes, string_inside, first_word, Lexeme, HasLexemes}
use Rattle.stapl_lexer.specs.ReservedWords.{reserved_words, spells_word, word_terminal, is_reserved_word}
use Rattle.stapl_lexer.specs.Segments.{Segment, Closed, Open, Comment, Plain as PlainByte, ends_string, spelled, IsSegment}
use Rattle.stapl_lexer.specs.Terminals.{terminal_in}
use Rattle.stapl_lexer.proofs.LexemeLemmas.{range_first}
use Rattle.stapl_lexer.proofs.PieceTokenLemmas.{range_length}
use Rattle.stapl_lexer.proofs.NameLemmas.{upper_is_name, upper_name, free_words}
use Rattle.stapl_syntax.specs.declared.signs.Sign.TheVariants as signs
use Rattle.stapl_syntax.specs.Reasons.{is_left_out, holds_left_out}
use Rattle.stapl_syntax.specs.Symbols.{sign_of, terminal_sign, word_sign, mark_sign, symbol_as, symbol_of, symbols_of}
use Rattle.stapl_syntax.proofs.LiteralLemmas.{binary_bits, hex_bits}
use Rattle.canonical_text.specs.Spellable.{is_held, is_printed_name, is_spellable_sign, is_spellable}
use Rattle.canonical_text.proofs.TokenReads.{inside_is}

-- what is found in a table passes what all its rows pass
in_table : (test : Terminal → Bool) (spells : List ℕ → Bool) (rows : List (List ℕ × Terminal)) (t : Terminal) →
    list_all (λ row. test row.1) rows ≡ true → terminal_in spells rows ≡ Some t → test t ≡ true
in_table test spells [] t all e = absurd cc
in_table test spells (row ∷ rows) t all e =
    let parts = and_parts (test row.1) (list_all (λ row. test row.1) rows) all in
    by (spells row.0) parts.0 (λ f. in_table test spells rows t parts.1 f) e
  where
    by : (b : Bool) → test row.1 ≡ true → (terminal_in spells rows ≡ Some t → test t ≡ true) → cond b (Some row.1) (terminal_in spells rows) ≡ Some t → test t ≡ true
    by true p more e = subst (λ (x : Terminal). test x ≡ true) (same e) p
      where
        same : Some row.1 ≡ Some t → row.1 ≡ t
        same e = cc
    by false p more e = more e

-- a reserved word that is not left out, and a mark
word_spellable : (own : List ℕ) (t : Terminal) → word_terminal own ≡ Some t → (is_spellable_sign (terminal_sign t) || is_left_out (terminal_sign t)) ≡ true
unfolding word_terminal is_spellable_sign is_left_out terminal_sign
word_spellable own t e = in_table (λ t. is_spellable_sign (terminal_sign t) || is_left_out (terminal_sign t)) (λ word. spells_word word own) reserved_words t refl e

mark_spellable : (own : List ℕ) (t : Terminal) → mark_terminal own ≡ Some t → is_spellable_sign (terminal_sign t) ≡ true
unfolding mark_terminal is_spellable_sign terminal_sign
mark_spellable own t e = in_table (λ t. is_spellable_sign (terminal_sign t)) (λ mark. bytes_eq mark own) mark_table t refl e

or_left : (a b : Bool) → (a || b) ≡ true → b ≡ false → a ≡ true
or_left true b e f = refl
or_left false true e f = absurd cc
or_left false false e f = absurd cc

-- ---- CHR$ is reserved

found_any : (spells : List ℕ → Bool) (rows : List (List ℕ × Terminal)) → list_any (λ row. spells row.0) rows ≡ true → is_some (terminal_in spells rows) ≡ true
found_any spells [] e = absurd cc
found_any spells (row ∷ rows) e = by (spells row.0) (λ f. found_any spells rows f) e
  where
    by : (b : Bool) → (list_any (λ row. spells row.0) rows ≡ true → is_some (terminal_in spells rows) ≡ true) → (b || list_any (λ row. spells row.0) rows) ≡ true →
        is_some (cond b (Some row.1) (terminal_in spells rows)) ≡ true
    by true more e = refl
    by false more e = more e

or_right : (a b : Bool) → b ≡ true → (a || b) ≡ true
or_right true b e = refl
or_right false b e = e

or_true : (a b : Bool) → a ≡ true → (a || b) ≡ true
or_true true b e = refl
or_true false b e = absurd cc

chr_is_reserved : (own : List ℕ) → spells_word (codes "CHR$") own ≡ true → is_some (word_terminal own) ≡ true
unfolding word_terminal
chr_is_reserved own e =
    found_any (λ word. spells_word word own) reserved_words
    (list_any-append (λ row. spells_word row.0 own) (take 21 reserved_words) (drop 21 reserved_words)
    ∙ or_right (list_any (λ row. spells_word row.0 own) (take 21 reserved_words)) (list_any (λ row. spells_word row.0 own) (drop 21 reserved_words)) (or_true (spells_word (codes "CHR$") own) _ e))

-- the letters of CHR with `$` after them
not_one : {P : Type 0} (x : Bool) → (x && false) ≡ true → P
not_one true e = absurd cc
not_one false e = absurd cc

not_two : {P : Type 0} (x y : Bool) → (x && (y && false)) ≡ true → P
not_two true y e = not_one y e
not_two false y e = absurd cc

not_three : {P : Type 0} (x y z : Bool) → (x && (y && (z && false))) ≡ true → P
not_three true y z e = not_two y z e
not_three false y z e = absurd cc

all_three : (x y z : Bool) → (x && (y && (z && true))) ≡ true → (x && (y && (z && (true && true)))) ≡ true
all_three true true true e = refl
all_three true true false e = absurd cc
all_three true false z e = absurd cc
all_three false y z e = absurd cc

chr_dollar : (name : List ℕ) → spells_word (codes "CHR") name ≡ true → spells_word (codes "CHR$") (name ++ 36 ∷ []) ≡ true
chr_dollar [] e = absurd cc
chr_dollar (a ∷ []) e = not_one (eq_ignore_ascii_case a 67) e
chr_dollar (a ∷ b ∷ []) e = not_two (eq_ignore_ascii_case a 67) (eq_ignore_ascii_case b 72) e
chr_dollar (a ∷ b ∷ c ∷ []) e = all_three (eq_ignore_ascii_case a 67) (eq_ignore_ascii_case b 72) (eq_ignore_ascii_case c 82) e
chr_dollar (a ∷ b ∷ c ∷ d ∷ rest) e = not_three (eq_ignore_ascii_case a 67) (eq_ignore_ascii_case b 72) (eq_ignore_ascii_case c 82) e

-- ---- names

first_kind : (a b c d e : Bool) → kinds.Word ≡ cond a kinds.Word (cond b kinds.Number (cond c kinds.Text (cond d kinds.Binary (cond e kinds.Hexadecimal kinds.Mark)))) → a ≡ true
first_kind true b c d e f = refl
first_kind false true c d e f = absurd cc
first_kind false false true d e f = absurd cc
first_kind false false false true e f = absurd cc
first_kind false false false false true f = absurd cc
first_kind false false false false false f = absurd cc

kind_alpha : (first : Option Bool) (b : ℕ) → kinds.Word ≡ kind_at first b → is_ascii_alphabetic b ≡ true
kind_alpha None b e = first_kind (is_ascii_alphabetic b) _ _ _ _ e
kind_alpha (Some false) b e = first_kind (is_ascii_alphabetic b) _ _ _ _ e
kind_alpha (Some true) b e = absurd cc

is_not : (b : Bool) → b ≡ false → not b ≡ true
is_not true e = absurd cc
is_not false e = refl

not_longer : (n : ℕ) → nat_lt 32 n ≡ false → nat_le n 32 ≡ true
not_longer n e = grind (arith, nat_tests, e)

both_true : (a b : Bool) → a ≡ true → b ≡ true → (a && b) ≡ true
both_true true b p q = q
both_true false b p q = absurd cc

some_none : {P : Type 0} (o : Option Terminal) → is_some o ≡ true → o ≡ None → P
some_none o e f = let g = ap is_some f in absurd cc

-- a word that is no terminal consists of bytes of names
free_bytes : (own name tail after : List ℕ) → own ≡ name ++ tail → list_all is_name_byte name ≡ true → IsWordTail name tail after → word_terminal own ≡ None →
    list_all is_name_byte own ≡ true
free_bytes own name [] after parts bytes ends none = ap (list_all is_name_byte) (parts ∙ append-nil name) ∙ bytes
free_bytes own name (b ∷ bs) after parts bytes ends none =
    some_none (word_terminal own)
    (chr_is_reserved own (ap (spells_word (codes "CHR$")) (parts ∙ ap (λ (v : List ℕ). name ++ v) ends.0) ∙ chr_dollar name ends.1)) none

module _ (own after : List ℕ) (alpha : is_ascii_alphabetic (slice_index own 0) ≡ true) (is : IsWord own after) (short : nat_lt 32 (length own) ≡ false) where
  named : word_terminal own ≡ None → is_name own ≡ true
  named none =
      both_true _ (nat_le (length own) 32)
      (both_true (is_ascii_alphabetic (slice_index own 0)) (list_all is_name_byte own) alpha (free_bytes own is.name is.tail after is.parts is.name_bytes is.ends none))
      (not_longer (length own) short)

  free_is_printed : word_terminal own ≡ None → is_printed_name (str_to_ascii_uppercase own) ≡ true
  free_is_printed none =
      both_true _ (bytes_eq (str_to_ascii_uppercase (str_to_ascii_uppercase own)) (str_to_ascii_uppercase own))
      (both_true (is_name (str_to_ascii_uppercase own)) _ (upper_is_name own ∙ named none) (is_not (is_reserved_word (str_to_ascii_uppercase own)) ((free_words own).0 none)))
      ((bytes_eq-Decides (str_to_ascii_uppercase (str_to_ascii_uppercase own)) (str_to_ascii_uppercase own)).1 (upper_name own (named none)).upper)

  word_ok : (terminal : Option Terminal) → terminal ≡ word_terminal own → is_left_out (word_sign terminal own) ≡ false → is_spellable_sign (word_sign terminal own) ≡ true
  unfolding is_spellable_sign
  word_ok (Some t) e left = or_left (is_spellable_sign (terminal_sign t)) (is_left_out (terminal_sign t)) (word_spellable own t (sym e)) left
  word_ok None e left =
      ap (λ (b : Bool). is_spellable_sign (if b then signs.Name (str_to_ascii_uppercase own) else signs.Other)) (upper_is_name own ∙ named (sym e)) ∙ free_is_printed (sym e)

-- ---- numbers, strings, marks

pub held_cast : (n : ℕ) → n ≤ 2147483648 → is_held (cast_signed w32 n) ≡ true
unfolding is_held
held_cast n le = elim (cases_lt n 2147483648) [
  | inl lt ↦ ap is_held (to_z_pos w32 n lt) ∙ below n lt
  | inr ge ↦ last n (omega arith)
]
  where
    below : (n : ℕ) → n < 2147483648 → nat_lt n 2147483648 ≡ true
    below n lt = grind (arith, nat_tests)

    last : (n : ℕ) → n ≡ 2147483648 → is_held (cast_signed w32 n) ≡ true
    last n e = ap (λ (k : ℕ). is_held (cast_signed w32 k)) e

held_value_of : (n : ℕ) → is_held (if nat_le n 2147483648 then cast_signed w32 n else pos 0) ≡ true
unfolding is_held
held_value_of n = by (nat_le n 2147483648) refl
  where
    by : (b : Bool) → nat_le n 2147483648 ≡ b → is_held (if b then cast_signed w32 n else pos 0) ≡ true
    by true e = held_cast n (leb-true n 2147483648 e)
    by false e = refl

closed_string : (s : Segment) (own after : List ℕ) → own ≡ spelled s → IsSegment s after → true ≡ is_closed s → list_all (λ b. not (ends_string b)) (string_inside own) ≡ true
closed_string (Closed bytes) own after e valid good = ap (λ (v : List ℕ). list_all (λ b. not (ends_string b)) (string_inside v)) e ∙ ap (list_all (λ b. not (ends_string b))) (inside_is bytes) ∙ valid
closed_string (PlainByte b) own after e valid good = absurd cc
closed_string (Open bytes) own after e valid good = absurd cc
closed_string (Comment bytes) own after e valid good = absurd cc

mark_ok : (own : List ℕ) (terminal : Option Terminal) → terminal ≡ mark_terminal own → true ≡ is_mark_spelling own → is_spellable_sign (mark_sign terminal) ≡ true
mark_ok own (Some t) e good = mark_spellable own t (sym e)
mark_ok own None e good = some_none (mark_terminal own) (sym good) (sym e)

some_bits : (n : ℕ) → 1 ≤ n → nat_lt 0 n ≡ true
some_bits n le = grind (arith, nat_tests)

small_check : (n : ℕ) → nat_lt (n % 65536) 65536 ≡ true
small_check n = below (n % 65536) (omega arith)
  where
    below : (n : ℕ) → n < 65536 → nat_lt n 65536 ≡ true
    below n lt = grind (arith, nat_tests)

-- what is seen of a good token
token_ok : (first : Option Bool) (kind : TokenKind) (z : ℤ) (terminal : Option Terminal) (own after : List ℕ) → kind ≡ kind_at first (slice_index own 0) → Spells kind true own after →
    z ≡ value_of kind own → terminal ≡ terminal_of kind own → (is_word kind && nat_lt 32 (length own)) ≡ false → is_left_out (sign_of (symbol_as kind z terminal own)) ≡ false →
    is_spellable (symbol_as kind z terminal own) ≡ true
unfolding is_spellable is_spellable_sign
token_ok first kinds.Word z terminal own after k spells v t short left =
    word_ok own after (kind_alpha first (slice_index own 0) k) spells.0 short terminal t left
token_ok first kinds.Number z terminal own after k spells v t short left = ap is_held v ∙ held_value_of (number_value own)
token_ok first kinds.Text z terminal own after k spells v t short left = closed_string spells.0 own after spells.1 spells.2 spells.3
token_ok first kinds.Binary z terminal own after k spells v t short left = some_bits _ (binary_bits own after (length own) (omega arith) spells).some
token_ok first kinds.Hexadecimal z terminal own after k spells v t short left = some_bits _ (hex_bits own after (length own) (omega arith) spells).some
token_ok first kinds.Mark z terminal own after k spells v t short left = mark_ok own terminal t spells.1
token_ok first kinds.Hex4 z terminal own after k spells v t short left = small_check _

or_parts : (a b : Bool) → (a || b) ≡ false → (a ≡ false) × (b ≡ false)
or_parts false b e = (refl, e)
or_parts true b e = absurd cc

-- the first byte of a token
first_in : (text : List ℕ) (start end : ℕ) → start < end → end ≤ length text → slice_index (slice_range text start end) 0 ≡ slice_index text start
first_in text start end lt le = range_first text start end lt

lexemes_ok : (text : List ℕ) (first : Option Bool) (at limit : ℕ) (lexemes : List Lexeme) → limit ≤ length text → HasLexemes text first at limit lexemes →
    list_all (λ lexeme. lexeme.good) lexemes ≡ true → list_any is_long_word (tokens_of lexemes) ≡ false → holds_left_out (symbols_of text (tokens_of lexemes)) ≡ false →
    list_all is_spellable (symbols_of text (tokens_of lexemes)) ≡ true
lexemes_ok text first at limit [] within has good short left = refl
lexemes_ok text first at limit (l ∷ ls) within has good short left =
    let own = token_bytes text l.token in
    let some = has.0.some in
    let inner = has.0.within in
    let both = and_parts l.good (list_all (λ (lexeme : Lexeme). lexeme.good) ls) good in
    let shorts = or_parts (is_long_word l.token) (list_any is_long_word (tokens_of ls)) short in
    let lefts = or_parts (is_left_out (sign_of (symbol_of text l.token))) (holds_left_out (symbols_of text (tokens_of ls))) left in
    let len : length own ≡ l.token.end - l.token.start = range_length text l.token.start l.token.end (omega arith) (omega arith) in
    both_true (is_spellable (symbol_of text l.token)) (list_all is_spellable (symbols_of text (tokens_of ls)))
    (token_ok first l.token.kind l.token.value l.token.terminal own (slice_range text l.token.end limit)
    (has.0.kind ∙ ap (kind_at first) (sym (range_first text l.token.start l.token.end some)))
    (subst (λ (g : Bool). Spells l.token.kind g own (slice_range text l.token.end limit)) both.0 has.0.spelled) has.0.value has.0.terminal
    (ap (λ (n : ℕ). is_word l.token.kind && nat_lt 32 n) len ∙ shorts.0) lefts.0)
    (lexemes_ok text (first_word first l.token.kind own) l.token.end limit ls within has.1 both.1 shorts.1 lefts.1)

not_both : (b : Bool) → (b ≡ true → ⊥) → b ≡ false
not_both true f = absurd (f refl)
not_both false f = refl

-- the symbols of a piece with tokens, none of them left out
pub symbols_spellable : (text : List ℕ) (piece : Piece) (tokens : List Token) → AreTokens text piece tokens → holds_left_out (symbols_of text tokens) ≡ false →
    list_all is_spellable (symbols_of text tokens) ≡ true
symbols_spellable text piece tokens are left =
    subst (λ (v : List Token). list_all is_spellable (symbols_of text v) ≡ true) (sym are.good.tokens_are)
    (lexemes_ok text None piece.start piece.end are.good.lexemes are.good.within are.good.has are.good.good
    (not_both (list_any is_long_word (tokens_of are.good.lexemes)) (λ e. are.faultless reasons.NameTooLong (LongWord are.good.lexemes are.good.has e)))
    (subst (λ (v : List Token). holds_left_out (symbols_of text v) ≡ false) are.good.tokens_are left))
