-- What holds of the symbols of a piece: a name is spelled as one and is no reserved word, a string is no longer than
-- the text, and a literal has bits.
use Rattle.std.proofs.Common.{◌≡◌, ◌↔◌, ℕ, ℤ, ◌-◌, ◌≤◌, Bool, true, false, List, [], ◌∷◌, ◌++◌, length, length-drop, drop, map, slice_range, Option, Some, None, arith, refl, sym, ap, subst, ◌∙◌}
use Rattle.std.specs.Prelude.{All, IfSome, if◌then◌else◌}
use Rattle.std.specs.List.{list_all}
use Rattle.std.specs.Str.{str_to_ascii_uppercase}
use Rattle.std.proofs.lemmas.Bool.{and_parts}
use Rattle.std.proofs.lemmas.List.{length-take}
use Rattle.std.proofs.lemmas.List.Elements.{All-nil, All-cons}
use Rattle.stapl_lexer.specs.declared.piece.Piece.{Piece}
use Rattle.stapl_lexer.specs.declared.terminal.Terminal.{Terminal}
use Rattle.stapl_lexer.specs.declared.terminal.Terminal.TheVariants as terminals
use Rattle.stapl_lexer.specs.declared.terminal.JoinWord.TheVariants as joins
use Rattle.stapl_lexer.specs.declared.token.Token.{Token}
use Rattle.stapl_lexer.specs.declared.token.TokenKind.{TokenKind}
use Rattle.stapl_lexer.specs.declared.token.TokenKind.TheVariants as kinds
use Rattle.stapl_lexer.specs.Names.{is_name, IsUpperName}
use Rattle.stapl_lexer.specs.PieceFaults.{tokens_of, AreTokens}
use Rattle.stapl_lexer.specs.PieceTokens.{token_bytes, terminal_of, first_word, Spells, Lexeme, HasLexemes}
use Rattle.stapl_lexer.specs.ReservedWords.{word_terminal, is_reserved_word}
use Rattle.stapl_lexer.proofs.NameLemmas.{upper_is_name, upper_name, free_words}
use Rattle.stapl_syntax.specs.declared.signs.Sign.{Sign}
use Rattle.stapl_syntax.specs.declared.signs.Sign.TheVariants as signs
use Rattle.stapl_syntax.specs.Symbols.{Symbol, Plain, Text, Literal, terminal_sign, word_sign, mark_sign, symbol_as, symbols_of}
use Rattle.stapl_syntax.specs.Expressions.{IsArray, of_literal, of_target, of_whole, of_range, of_expr, name}
use Rattle.stapl_syntax.specs.Trees.{ArrayTree, PartTree, exported_array, CompareTree, BodyTree, action, procedure, boolean_array, assign_array, assign_range, if_then, print, export, scan, pad, StmtTree}
use Rattle.stapl_syntax.specs.Parts.{IsPart, Separated, IsPrintPart, of_string, of_value, of_character, IsExported, of_exported_array, a_print_part, item_part, bits_part, an_array, after, maybe, compare_part, comma, join}
use Rattle.stapl_syntax.specs.Statements.{IsBody, IsLabelled}
use Rattle.stapl_syntax.specs.Programs.{AreReadAs, IsProgram}
use Rattle.stapl_syntax.specs.Contents.{IsFreeName, IsWellNamed, IsShortPart, PrintsShortStrings, AreLiteralBits, HoldsLiteral, HoldsBoth, HoldsLiterals}
use Rattle.stapl_syntax.proofs.LiteralLemmas.{binary_bits, hex_bits}

-- ---- names

-- the name that a sign is, if it is one
abbrev pub name_in : Sign → Option (List ℕ)
name_in (signs.Name v) = Some v
name_in _ = None

terminal_no_name : (t : Terminal) → name_in (terminal_sign t) ≡ None
unfolding terminal_sign
terminal_no_name (terminals.Operator op) = refl
terminal_no_name (terminals.Mark m) = refl
terminal_no_name (terminals.Outer w) = refl
terminal_no_name (terminals.Inner w) = refl
terminal_no_name (terminals.Simple w) = refl
terminal_no_name terminals.If = refl
terminal_no_name (terminals.Port w) = refl
terminal_no_name (terminals.Join w) = refl
terminal_no_name (terminals.Function f) = refl
terminal_no_name (terminals.State k) = refl
terminal_no_name terminals.LeftOutStatement = refl
terminal_no_name terminals.LeftOutWord = refl

-- what a word is that is seen as a name
pub record IsNameOf (own v : List ℕ) : Type 0 where
  pub name_spelled : is_name own ≡ true
  pub free : is_reserved_word (str_to_ascii_uppercase own) ≡ false
  pub upper : v ≡ str_to_ascii_uppercase own

none_some : (o : Option (List ℕ)) (v : List ℕ) → o ≡ None → o ≡ Some v → ⊥
none_some o v n e = cc

-- a word is seen as a name if it is spelled as one and is not reserved
named : (own v : List ℕ) (terminal : Option Terminal) → terminal ≡ word_terminal own → name_in (word_sign terminal own) ≡ Some v → IsNameOf own v
named own v (Some t) is e = absurd (none_some (name_in (terminal_sign t)) v (terminal_no_name t) e)
named own v None is e = by (is_name (str_to_ascii_uppercase own)) refl e
  where
    by : (b : Bool) → is_name (str_to_ascii_uppercase own) ≡ b → name_in (if b then signs.Name (str_to_ascii_uppercase own) else signs.Other) ≡ Some v → IsNameOf own v
    by true spelled e = record { name_spelled = sym (upper_is_name own) ∙ spelled; free = (free_words own).0 (sym is); upper = cc }
    by false spelled e = absurd cc

sign_name : (own v : List ℕ) → word_sign (word_terminal own) own ≡ signs.Name v → IsNameOf own v
sign_name own v e = named own v (word_terminal own) refl (ap name_in e)

name_sign_of : (own v : List ℕ) → IsNameOf own v → word_sign (word_terminal own) own ≡ signs.Name v
name_sign_of own v is =
    ap (λ (t : Option Terminal). word_sign t own) ((free_words own).1 is.free)
    ∙ ap (λ (b : Bool). if b then signs.Name (str_to_ascii_uppercase own) else signs.Other) (upper_is_name own ∙ is.name_spelled)
    ∙ ap signs.Name (sym is.upper)

pub seen_as_name : (own v : List ℕ) → (word_sign (word_terminal own) own ≡ signs.Name v) ↔
    ((is_name own ≡ true) × (is_reserved_word (str_to_ascii_uppercase own) ≡ false) × (v ≡ str_to_ascii_uppercase own))
seen_as_name own v = (
  (λ e. let is = sign_name own v e in (is.name_spelled, is.free, is.upper)),
  (λ is. name_sign_of own v (record { name_spelled = is.0; free = is.1; upper = is.2 })),
)

free_word : (own v : List ℕ) (terminal : Option Terminal) → terminal ≡ word_terminal own → name_in (word_sign terminal own) ≡ Some v → IsFreeName v
free_word own v terminal is e =
    let n = named own v terminal is e in
    record { spelled = subst IsUpperName (sym n.upper) (upper_name own n.name_spelled); free = ap is_reserved_word n.upper ∙ n.free }

no_mark : (v : List ℕ) (terminal : Option Terminal) → name_in (mark_sign terminal) ≡ Some v → ⊥
no_mark v (Some t) e = none_some (name_in (terminal_sign t)) v (terminal_no_name t) e
no_mark v None e = cc

-- ---- symbols

-- a name is free, a string has at most so many bytes, and a literal the bits of one in so many bytes
abbrev IsSound : ℕ → Symbol → Type 0
IsSound n (Plain sign) = (v : List ℕ) → name_in sign ≡ Some v → IsFreeName v
IsSound n (Text bytes) = length bytes ≤ n
IsSound n (Literal bits) = AreLiteralBits n bits
IsSound n _ = Unit {0}

abbrev AreSound : ℕ → List Symbol → Type 0
AreSound n [] = Unit {0}
AreSound n (t ∷ s) = IsSound n t × AreSound n s

sound_as : (n : ℕ) (kind : TokenKind) (value : ℤ) (terminal : Option Terminal) (own beyond : List ℕ) → terminal ≡ terminal_of kind own → length own ≤ n →
    Spells kind true own beyond → IsSound n (symbol_as kind value terminal own)
sound_as n kinds.Word value terminal own beyond is short spelled = λ v e. free_word own v terminal is e
sound_as n kinds.Number value terminal own beyond is short spelled = λ v e. absurd cc
sound_as n kinds.Text value terminal own beyond is short spelled = omega (arith, length-take (length own - 2) (drop 1 own), length-drop 1 own, short)
sound_as n kinds.Binary value terminal own beyond is short spelled = binary_bits own beyond n short spelled
sound_as n kinds.Hexadecimal value terminal own beyond is short spelled = hex_bits own beyond n short spelled
sound_as n kinds.Mark value terminal own beyond is short spelled = λ v e. absurd (no_mark v terminal e)
sound_as n kinds.Hex4 value terminal own beyond is short spelled = tt

sound_lexemes : (text : List ℕ) (first : Option Bool) (at limit : ℕ) (lexemes : List Lexeme) → HasLexemes text first at limit lexemes →
    list_all (λ lexeme. lexeme.good) lexemes ≡ true → AreSound (length text) (symbols_of text (tokens_of lexemes))
sound_lexemes text first at limit [] has good = tt
sound_lexemes text first at limit (l ∷ ls) has good =
    let own = token_bytes text l.token in
    let beyond = slice_range text l.token.end limit in
    let both = and_parts l.good (list_all (λ lexeme. lexeme.good) ls) good in
    let short : length own ≤ length text =
    omega (arith, length-take (l.token.end - l.token.start) (drop l.token.start text), length-drop l.token.start text) in (
      sound_as (length text) l.token.kind l.token.value l.token.terminal own beyond has.0.terminal short
          (subst (λ g. Spells l.token.kind g own beyond) both.0 has.0.spelled),
      sound_lexemes text (first_word first l.token.kind own) l.token.end limit ls has.1 both.1,
    )

sound_tokens : (text : List ℕ) (piece : Piece) (tokens : List Token) → AreTokens text piece tokens → AreSound (length text) (symbols_of text tokens)
sound_tokens text piece tokens are =
    subst (λ (t : List Token). AreSound (length text) (symbols_of text t)) (sym are.good.tokens_are)
    (sound_lexemes text None piece.start piece.end are.good.lexemes are.good.has are.good.good)

sound_left : (n : ℕ) (a b : List Symbol) → AreSound n (a ++ b) → AreSound n a
sound_left n [] b sound = tt
sound_left n (t ∷ a) b sound = (sound.0, sound_left n a b sound.1)

sound_right : (n : ℕ) (a b : List Symbol) → AreSound n (a ++ b) → AreSound n b
sound_right n [] b sound = sound
sound_right n (t ∷ a) b sound = sound_right n a b sound.1

-- ---- statements

short_part : (n : ℕ) (s : List Symbol) (part : PartTree) → IsPrintPart s part → AreSound n s → IsShortPart n part
short_part n _ _ of_string sound = sound.0
short_part n _ _ (of_value e) sound = tt
short_part n _ _ (of_character e) sound = tt

short_parts : (n : ℕ) (s : List Symbol) (parts : List PartTree) → Separated (IsPart a_print_part) comma parts s → AreSound n s → All (IsShortPart n) parts
short_parts n s [] is sound = absurd is
short_parts n s (x ∷ []) is sound = All-cons (IsShortPart n) x [] (short_part n s x is sound) (All-nil (IsShortPart n))
short_parts n s (x ∷ y ∷ ys) is sound =
    let sound' : AreSound n (is.0 ++ (comma ∷ is.1)) = subst (AreSound n) is.2 sound in
    All-cons (IsShortPart n) x (y ∷ ys) (short_part n is.0 x is.3 (sound_left n is.0 (comma ∷ is.1) sound'))
    (short_parts n is.1 (y ∷ ys) is.4 (sound_right n is.0 (comma ∷ is.1) sound').1)

short_body : (n : ℕ) (s : List Symbol) (body : BodyTree) → IsBody s body → AreSound n s → PrintsShortStrings n body
short_body n s (print parts) is sound = short_parts n is.0 parts is.2 (subst (AreSound n) is.1 sound).1
short_body n s (export key x) is sound =
    let own = is.2 in
    (subst (AreSound n) own.3 (sound_left n own.0 own.1 (subst (AreSound n) own.2 (subst (AreSound n) is.1 sound).1))).0
short_body n s (if_then e body) is sound =
    short_body n is.1 body is.6 (sound_right n is.0 (join joins.Then ∷ is.1) (subst (AreSound n) is.2 sound).1).1
short_body n s _ is sound = tt

sound_after : (n : ℕ) (t : Symbol) (r s : List Symbol) → s ≡ t ∷ r → AreSound n s → AreSound n r
sound_after n t r s is sound = (subst (AreSound n) is sound).1

sound_second : (n : ℕ) (a b s : List Symbol) → s ≡ a ++ b → AreSound n s → AreSound n b
sound_second n a b s is sound = sound_right n a b (subst (AreSound n) is sound)

literal_array : (n : ℕ) (s : List Symbol) (a : ArrayTree) → IsArray s a → AreSound n s → HoldsLiteral n a
literal_array n _ _ of_literal sound = sound.0
literal_array n _ _ (of_target of_whole) sound = tt
literal_array n _ _ (of_target (of_range x y)) sound = tt
literal_array n _ _ (of_expr e) sound = tt

literal_start : (n : ℕ) (bits : Option (List Bool)) (s : List Symbol) → IsPart bits_part bits s → AreSound n s → IfSome bits (AreLiteralBits n)
literal_start n None s is sound = tt
literal_start n (Some bits) s is sound = (subst (AreSound n) is.2 (sound_after n _ is.0 s is.1 sound)).0

literal_compare : (n : ℕ) (compare : Option CompareTree) (s : List Symbol) → IsPart compare_part compare s → AreSound n s → IfSome compare (HoldsBoth n)
literal_compare n None s is sound = tt
literal_compare n (Some compare) s is sound =
    let parts = is.2.2 in
    let beyond = parts.4 in
    let masked = beyond.2 in
    let both = sound_after n _ is.2.0 is.0 is.2.1 (sound_after n _ is.0 s is.1 sound) in
    let mask_on = sound_after n _ beyond.0 parts.1 beyond.1 (sound_second n parts.0 parts.1 is.2.0 parts.2 both) in (
      literal_array n parts.0 compare.0 parts.3 (sound_left n parts.0 parts.1 (subst (AreSound n) parts.2 both)),
      literal_array n masked.0 compare.1.0 masked.3 (sound_left n masked.0 masked.1 (subst (AreSound n) masked.2 mask_on)),
    )

literal_given : (n : ℕ) (a : Option ArrayTree) (s : List Symbol) → IsPart (maybe (after comma an_array)) a s → AreSound n s → IfSome a (HoldsLiteral n)
literal_given n None s is sound = tt
literal_given n (Some a) s is sound = literal_array n is.0 a is.2 (sound_after n _ is.0 s is.1 sound)

literals : (n : ℕ) (s : List Symbol) (body : BodyTree) → IsBody s body → AreSound n s → HoldsLiterals n body
literals n s (boolean_array v size bits) is sound =
    let sized = is.2.4 in
    literal_start n bits sized.1 sized.4
    (sound_second n sized.0 sized.1 is.2.1 sized.2 (sound_second n is.2.0 is.2.1 is.0 is.2.2 (sound_after n _ is.0 s is.1 sound)))
literals n s (assign_array v a) is sound =
    let opened = is.4 in
    let closed = opened.2 in
    let given = closed.2 in
    literal_array n given.0 a given.2
    (sound_after n _ given.0 closed.0 given.1 (sound_after n _ closed.0 opened.0 closed.1 (sound_after n _ opened.0 is.1 opened.1 (sound_second n is.0 is.1 s is.2 sound))))
literals n s (assign_range v high low a) is sound =
    let opened = is.4 in
    let upper = opened.2 in
    let ranged = upper.4 in
    let lower = ranged.2 in
    let closed = lower.4 in
    let given = closed.2 in
    let after_name = sound_after n _ opened.0 is.1 opened.1 (sound_second n is.0 is.1 s is.2 sound) in
    let after_dots = sound_after n _ ranged.0 upper.1 ranged.1 (sound_second n upper.0 upper.1 opened.0 upper.2 after_name) in
    let after_range = sound_after n _ closed.0 lower.1 closed.1 (sound_second n lower.0 lower.1 ranged.0 lower.2 after_dots) in
    literal_array n given.0 a given.2 (sound_after n _ given.0 closed.0 given.1 after_range)
literals n s (export key (exported_array a)) is sound =
    let given = is.2.4 in
    by given.2 (sound_after n _ given.0 is.2.1 given.1 (sound_second n is.2.0 is.2.1 is.0 is.2.2 (sound_after n _ is.0 s is.1 sound)))
  where
    by : {s : List Symbol} → IsExported s (exported_array a) → AreSound n s → HoldsLiteral n a
    by (of_exported_array {s = s} array) sound = literal_array n s a array sound
literals n s (scan register count source target compare) is sound =
    let parts = is.2 in
    let beyond = parts.4 in
    let shifted = beyond.2 in
    let others = shifted.4 in
    let data_on = sound_after n _ beyond.0 parts.1 beyond.1 (sound_second n parts.0 parts.1 is.0 parts.2 (sound_after n _ is.0 s is.1 sound)) in (
      literal_array n shifted.0 source shifted.3 (sound_left n shifted.0 shifted.1 (subst (AreSound n) shifted.2 data_on)),
      literal_compare n compare others.1 others.4 (sound_second n others.0 others.1 shifted.1 others.2 (sound_second n shifted.0 shifted.1 beyond.0 shifted.2 data_on)),
    )
literals n s (pad which count bits) is sound =
    let parts = is.2 in
    literal_given n bits parts.1 parts.4 (sound_second n parts.0 parts.1 is.0 parts.2 (sound_after n _ is.0 s is.1 sound))
literals n s (if_then e body) is sound =
    literals n is.1 body is.6 (sound_right n is.0 (join joins.Then ∷ is.1) (subst (AreSound n) is.2 sound).1).1
literals n s _ is sound = tt

free_name : (n : ℕ) (v : List ℕ) (w : Symbol) (a b r s : List Symbol) → s ≡ w ∷ r → r ≡ a ++ b → a ≡ name v ∷ [] → AreSound n s → IsFreeName v
free_name n v w a b r s first rest is sound =
    let second : AreSound n (a ++ b) = subst (AreSound n) rest (subst (AreSound n) first sound).1 in
    (subst (AreSound n) is (sound_left n a b second)).0 v refl

some_items : {A : Type 0} (P : A → List Symbol → Type 0) (t : Symbol) (xs : List A) (s : List Symbol) → Separated P t xs s → 1 ≤ length xs
some_items P t [] s is = absurd is
some_items P t (x ∷ xs) s is = omega arith

well_named : (n : ℕ) (s : List Symbol) (body : BodyTree) → IsBody s body → AreSound n s → IsWellNamed body
well_named n s (action v text items) is sound = (free_name n v _ is.2.0 is.2.1 is.0 s is.1 is.2.2 is.2.3 sound, some_items (IsPart item_part) comma items is.2.4.4.0 is.2.4.4.2)
well_named n s (procedure v uses) is sound = free_name n v _ is.2.0 is.2.1 is.0 s is.1 is.2.2 is.2.3 sound
well_named n s _ is sound = tt

-- what is so of each body that sound symbols mean is so of those after a label
of_labelled : (P : BodyTree → Type 0) (n : ℕ) → ((s : List Symbol) (body : BodyTree) → IsBody s body → AreSound n s → P body) →
    (s : List Symbol) (label : Option (List ℕ)) (body : BodyTree) → IsLabelled s label body → AreSound n s → P body
of_labelled P n each s None body is sound = each s body is sound
of_labelled P n each s (Some v) body is sound = each is.0 body is.3 (subst (AreSound n) is.1 sound).1.1

of_pieces : (P : BodyTree → Type 0) (text : List ℕ) → ((s : List Symbol) (body : BodyTree) → IsBody s body → AreSound (length text) s → P body) →
    (pieces : List Piece) (statements : List StmtTree) → AreReadAs text pieces (map Some statements) → All (λ (st : StmtTree). P st.body) statements
of_pieces P text each [] [] read = All-nil (λ (st : StmtTree). P st.body)
of_pieces P text each [] (st ∷ sts) read = absurd read
of_pieces P text each (p ∷ ps) [] read = absurd read
of_pieces P text each (p ∷ ps) (st ∷ sts) read =
    let own = read.0 in
    let sound = sound_tokens text p own.tokens own.are in
    All-cons (λ (st : StmtTree). P st.body) st sts (of_labelled P (length text) each (symbols_of text own.tokens) st.label st.body own.means sound) (of_pieces P text each ps sts read.1)

pub well_named_blocks : (text : List ℕ) (statements : List StmtTree) → IsProgram text statements → All (λ (st : StmtTree). IsWellNamed st.body) statements
well_named_blocks text statements program = of_pieces IsWellNamed text (well_named (length text)) program.pieces statements program.read

pub short_strings : (text : List ℕ) (statements : List StmtTree) → IsProgram text statements → All (λ (st : StmtTree). PrintsShortStrings (length text) st.body) statements
short_strings text statements program = of_pieces (PrintsShortStrings (length text)) text (short_body (length text)) program.pieces statements program.read

pub literals_hold : (text : List ℕ) (statements : List StmtTree) → IsProgram text statements → All (λ (st : StmtTree). HoldsLiterals (length text) st.body) statements
literals_hold text statements program = of_pieces (HoldsLiterals (length text)) text (literals (length text)) program.pieces statements program.read
