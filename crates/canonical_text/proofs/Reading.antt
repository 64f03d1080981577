-- Tokens that are read off bytes, with no places in a text; they are the tokens of each text that has these bytes.
use Rattle.std.proofs.Common.{◌≡◌, ℕ, ◌+◌, ◌<◌, ◌≤◌, ◌==◌, ◌&&◌, ◌||◌, Bool, true, false, List, [], ◌∷◌, ◌++◌, length, take, drop, slice_index, slice_range}
use Rattle.std.proofs.Common.{get_or, Option, refl, sym, ap, subst, ◌∙◌, arith}
use Rattle.std.specs.Prelude.{nat_lt}
use Rattle.std.specs.List.{list_all, list_any}
use Rattle.std.proofs.Math.Seq.{take-append_seam, drop-append_seam}
use Rattle.std.proofs.lemmas.List.{length-append}
use Rattle.stapl_lexer.specs.declared.token.Token.{Token}
use Rattle.stapl_lexer.specs.declared.token.TokenKind.{TokenKind}
use Rattle.stapl_lexer.specs.Pieces.{is_white}
use Rattle.stapl_lexer.specs.Runs.{IsSolid}
use Rattle.stapl_lexer.specs.PieceTokens.{AreBlanks, Spells, kind_at, first_word, value_of, terminal_of, token_bytes, number_value, Lexeme, BeginsWith, HasLexemes}
use Rattle.stapl_lexer.specs.PieceFaults.{is_number, is_long_word, is_large_number, tokens_of}
use Rattle.stapl_lexer.specs.Depth.{is_word}
use Rattle.stapl_lexer.proofs.LexemeLemmas.{range_first}
use Rattle.stapl_lexer.proofs.PieceTokenLemmas.{range_after, range_front, range_length}
use Rattle.stapl_syntax.specs.Symbols.{Symbol, symbol_as, symbol_of, symbols_of}

-- These bytes are a good token, seen as this symbol, where those stand after. A word has at most 32 characters, and a
-- number is at most 2,147,483,648.
pub record IsRead (first : Option Bool) (own after : List ℕ) (t : Symbol) : Type 0 where
  pub kind : TokenKind
  pub some : 0 < length own
  pub kind_is : kind ≡ kind_at first (slice_index own 0)
  pub solid : (is_white (slice_index own 0) || slice_index own 0 == 39) ≡ false
  pub spells : Spells kind true own after
  pub sees : symbol_as kind (value_of kind own) (terminal_of kind own) own ≡ t
  pub short : (is_word kind && nat_lt 32 (length own)) ≡ false
  pub small : (is_number kind && nat_lt 2147483648 (number_value own)) ≡ false

-- the bytes have tokens that are seen so
abbrev pub Reads : Option Bool → List ℕ → List Symbol → Type 0
Reads first bytes [] = AreBlanks bytes []
Reads first bytes (t ∷ ts) =
    (blank : List ℕ) × (own : List ℕ) × (after : List ℕ) × (bytes ≡ blank ++ (own ++ after))
    × AreBlanks bytes (own ++ after) × (read : IsRead first own after t)
    × Reads (first_word first read.kind own) after ts

-- a token is the terminal that its bytes spell
abbrev pub IsItsTerminal : List ℕ → Token → Type 0
IsItsTerminal text token = token.terminal ≡ terminal_of token.kind (token_bytes text token)

-- the tokens between two places of a text, all of them good, and what is seen of them
pub record HasRead (text : List ℕ) (first : Option Bool) (at limit : ℕ) (ts : List Symbol) : Type 0 where
  pub lexemes : List Lexeme
  pub has : HasLexemes text first at limit lexemes
  pub good : list_all (λ lexeme. lexeme.good) lexemes ≡ true
  pub sees : symbols_of text (tokens_of lexemes) ≡ ts
  pub short : list_any is_long_word (tokens_of lexemes) ≡ false
  pub small : list_any (is_large_number text) (tokens_of lexemes) ≡ false

first_solid : (own after : List ℕ) → 0 < length own → (is_white (slice_index own 0) || slice_index own 0 == 39) ≡ false → IsSolid (own ++ after)
first_solid [] after some solid = absurd (omega arith)
first_solid (b ∷ own) after some solid = solid

first_of : (own after : List ℕ) → 0 < length own → get_or (own ++ after) 0 0 ≡ get_or own 0 0
first_of [] after some = absurd (omega arith)
first_of (b ∷ own) after some = refl

-- one token
module _ (text : List ℕ) (first : Option Bool) (at limit : ℕ) (le : at ≤ limit) (within : limit ≤ length text)
    (blank own after : List ℕ) (t : Symbol) (read : IsRead first own after t)
    (bytes : slice_range text at limit ≡ blank ++ (own ++ after)) (blanks : AreBlanks (slice_range text at limit) (own ++ after)) where
  start : ℕ
  start = at + length blank

  end : ℕ
  end = at + length blank + length own

  abbrev pub placed : Token
  placed = record { kind = read.kind; start = at + length blank; end = at + length blank + length own; value = value_of read.kind own; terminal = terminal_of read.kind own }

  len : at + length blank + length own + length after ≡ limit
  len = omega (arith, ap length bytes, range_length text at limit le within, length-append blank (own ++ after), length-append own after)

  from_start : slice_range text (at + length blank) limit ≡ own ++ after
  from_start =
      sym (range_after text at limit (length blank) (omega (arith, len)))
      ∙ ap (drop (length blank)) bytes ∙ drop-append_seam blank (own ++ after)

  pub its_bytes : slice_range text (at + length blank) (at + length blank + length own) ≡ own
  its_bytes =
      sym (range_front text (at + length blank) limit (length own) (omega (arith, len)))
      ∙ ap (take (length own)) from_start ∙ take-append_seam own after

  pub its_rest : slice_range text (at + length blank + length own) limit ≡ after
  its_rest =
      sym (range_after text (at + length blank) limit (length own) (omega (arith, len)))
      ∙ ap (drop (length own)) from_start ∙ drop-append_seam own after

  first_byte : get_or text (at + length blank) 0 ≡ get_or own 0 0
  first_byte =
      sym (range_first text (at + length blank) limit (omega (arith, len, read.some)))
      ∙ ap (λ (v : List ℕ). get_or v 0 0) from_start ∙ first_of own after read.some

  pub begins : BeginsWith text first at limit (record { token = placed; good = true })
  begins = record {
    after = omega arith;
    some = omega (arith, read.some);
    within = omega (arith, len);
    blank = subst (AreBlanks (slice_range text at limit)) (sym from_start) blanks;
    solid = subst IsSolid (sym from_start) (first_solid own after read.some read.solid);
    kind = read.kind_is ∙ ap (kind_at first) (sym first_byte);
    spelled = subst (λ (v : List ℕ). Spells read.kind true v (slice_range text (at + length blank + length own) limit)) (sym its_bytes)
        (subst (Spells read.kind true own) (sym its_rest) read.spells);
    value = ap (value_of read.kind) (sym its_bytes);
    terminal = ap (terminal_of read.kind) (sym its_bytes);
  }

  pub sees_it : symbol_of text placed ≡ t
  sees_it = ap (symbol_as read.kind (value_of read.kind own) (terminal_of read.kind own)) its_bytes ∙ read.sees

  pub short_it : is_long_word placed ≡ false
  short_it = ap (λ (n : ℕ). is_word read.kind && nat_lt 32 n) (omega arith) ∙ read.short

  pub small_it : is_large_number text placed ≡ false
  small_it = ap (λ (v : List ℕ). is_number read.kind && nat_lt 2147483648 (number_value v)) its_bytes ∙ read.small

  pub next_start : at + length blank + length own ≤ limit
  next_start = omega (arith, len)

-- what is read off the bytes is in the text
pub read_in : (text : List ℕ) (first : Option Bool) (at limit : ℕ) (ts : List Symbol) → at ≤ limit → limit ≤ length text →
    Reads first (slice_range text at limit) ts → HasRead text first at limit ts
read_in text first at limit [] le within reads = record { lexemes = []; has = reads; good = refl; sees = refl; short = refl; small = refl }
read_in text first at limit (t ∷ ts) le within reads =
    let blank = reads.0 in
    let own = reads.1 in
    let after = reads.2 in
    let read = reads.5 in
    let token = placed text first at limit le within blank own after t read reads.3 reads.4 in
    let more = read_in text (first_word first read.kind own) (at + length blank + length own) limit ts
    (next_start text first at limit le within blank own after t read reads.3 reads.4) within
    (subst (λ (v : List ℕ). Reads (first_word first read.kind own) v ts) (sym (its_rest text first at limit le within blank own after t read reads.3 reads.4)) reads.6) in
    record {
      lexemes = record { token = token; good = true } ∷ more.lexemes;
      has = (
        begins text first at limit le within blank own after t read reads.3 reads.4,
        subst (λ (v : List ℕ). HasLexemes text (first_word first read.kind v) (at + length blank + length own) limit more.lexemes)
            (sym (its_bytes text first at limit le within blank own after t read reads.3 reads.4)) more.has,
      );
      good = more.good;
      sees = ap (λ (s : Symbol). s ∷ symbols_of text (tokens_of more.lexemes)) (sees_it text first at limit le within blank own after t read reads.3 reads.4)
          ∙ ap (λ (s : List Symbol). t ∷ s) more.sees;
      short = ap (λ (b : Bool). b || list_any is_long_word (tokens_of more.lexemes)) (short_it text first at limit le within blank own after t read reads.3 reads.4) ∙ more.short;
      small = ap (λ (b : Bool). b || list_any (is_large_number text) (tokens_of more.lexemes)) (small_it text first at limit le within blank own after t read reads.3 reads.4) ∙ more.small;
    }
