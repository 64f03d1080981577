-- Each number that stands in a statement of a program is a 32-bit integer with a sign.
use Rattle.std.proofs.Common.{◌≡◌, ℕ, ℤ, pos, ◌-◌, ◌%◌, ◌^◌, ◌<◌, Bool, true, false, if◌then◌else◌, List, [], ◌∷◌, ◌++◌, Option, None, Some, inl, inr, sym, refl, subst, arith}
use Rattle.std.specs.Prelude.{All, nat_le, map}
use Rattle.std.specs.Int.{w32, cast_signed, cast_unsigned}
use Rattle.std.specs.Str.{str_to_ascii_uppercase}
use Rattle.std.specs.Int.RustNames.{FitsSigned}
use Rattle.std.proofs.lemmas.Bool.{leb-true}
use Rattle.std.proofs.lemmas.List.Elements.{All-nil, All-cons}
use Rattle.std.proofs.Math.Facts.{sfits_to_z}
use Rattle.stapl_lexer.specs.declared.piece.Piece.{Piece}
use Rattle.stapl_lexer.specs.declared.terminal.Terminal.{Terminal}
use Rattle.stapl_lexer.specs.declared.terminal.Terminal.TheVariants as terminals
use Rattle.stapl_lexer.specs.declared.terminal.JoinWord.TheVariants as joins
use Rattle.stapl_lexer.specs.declared.token.Token.{Token}
use Rattle.stapl_lexer.specs.declared.token.TokenKind.{TokenKind}
use Rattle.stapl_lexer.specs.declared.token.TokenKind.TheVariants as token_kinds
use Rattle.stapl_lexer.specs.Names.{is_name}
use Rattle.stapl_lexer.specs.PieceFaults.{tokens_of, AreTokens}
use Rattle.stapl_lexer.specs.PieceTokens.{token_bytes, value_of, first_word, Lexeme, HasLexemes, number_value}
use Rattle.stapl_syntax.specs.declared.signs.Sign.TheVariants as signs
use Rattle.stapl_syntax.specs.Symbols.{Symbol, Plain, terminal_sign, name_sign, word_sign, mark_sign, symbol_as, symbols_of}
use Rattle.stapl_syntax.specs.Trees.{ExprTree, number, scalar, element, unary, binary, abs, int, ArrayTree, literal, whole, range, of_int, PartTree, CompareTree, BodyTree, boolean, boolean_array, integer, integer_array, assign, assign_element, assign_array, assign_range, if_then, for_loop, push, pop, print, exported_value, exported_array, export, exit, scan, pad, wait_cycles, wait_usec, frequency, StmtTree}
use Rattle.stapl_syntax.specs.Expressions.{operator, dots, right_round, right_square, IsExpr, of_unary, tighter, of_binary, IsUnary, negation, complement, negated, of_primary, IsPrimary, of_number, of_cell, of_brackets, of_abs, of_array, IsCell, of_scalar, of_element, IsTarget, of_whole, of_range, IsArray, of_literal, of_target, of_expr}
use Rattle.stapl_syntax.specs.Parts.{IsSigned, unsigned, minus, IsPrintPart, of_string, of_value, of_character, IsExported, of_exported_value, of_exported_array, hz, IsPart, a_signed, an_expr, maybe_hz, an_array, after, maybe, a_print_part, step_part, capture_part, compare_part, usec_part, frequency_part, Separated, comma, join}
use Rattle.stapl_syntax.specs.Statements.{IsBody, IsLabelled}
use Rattle.stapl_syntax.specs.Programs.{AreReadAs, IsProgram}
use Rattle.stapl_meaning.specs.Values.{Lookup}
use Rattle.stapl_meaning.specs.Operands.{Operand, bit_number, step_or_one, array_operands, given_operands, target_operands, compare_operands, part_operands}
use Rattle.stapl_meaning.specs.Scopes.{Scope}
use Rattle.stapl_meaning.specs.Turns.{integer_given, operands, rows}
use Rattle.stapl_codegen.proofs.Ranges.{Each}

-- ---- symbols

-- a number that is seen is a 32-bit integer with a sign
abbrev IsSmall : Symbol → Type 0
IsSmall (Plain (signs.Number z)) = FitsSigned w32 z
IsSmall _ = Unit {0}

abbrev AreSmall : List Symbol → Type 0
AreSmall [] = Unit {0}
AreSmall (t ∷ s) = IsSmall t × AreSmall s

terminal_small : (t : Terminal) → IsSmall (Plain (terminal_sign t))
unfolding terminal_sign
terminal_small (terminals.Operator op) = tt
terminal_small (terminals.Mark m) = tt
terminal_small (terminals.Outer w) = tt
terminal_small (terminals.Inner w) = tt
terminal_small (terminals.Simple w) = tt
terminal_small terminals.If = tt
terminal_small (terminals.Port w) = tt
terminal_small (terminals.Join w) = tt
terminal_small (terminals.Function f) = tt
terminal_small (terminals.State k) = tt
terminal_small terminals.LeftOutStatement = tt
terminal_small terminals.LeftOutWord = tt

name_small : (bytes : List ℕ) → IsSmall (Plain (name_sign bytes))
name_small bytes = by (is_name bytes)
  where
    by : (b : Bool) → IsSmall (Plain (if b then signs.Name bytes else signs.Other))
    by true = tt
    by false = tt

word_small : (terminal : Option Terminal) (own : List ℕ) → IsSmall (Plain (word_sign terminal own))
word_small (Some t) own = terminal_small t
word_small None own = name_small (str_to_ascii_uppercase own)

mark_small : (terminal : Option Terminal) → IsSmall (Plain (mark_sign terminal))
mark_small (Some t) = terminal_small t
mark_small None = tt

cast_small : (n : ℕ) → n < 2 ^ 32 → FitsSigned w32 (cast_signed w32 n)
cast_small n below = sfits_to_z {w = w32} (record { fits = below })

-- the value of a number
value_small : (n : ℕ) → FitsSigned w32 (if nat_le n 2147483648 then cast_signed w32 n else pos 0)
value_small n = by (nat_le n 2147483648) refl
  where
    by : (b : Bool) → nat_le n 2147483648 ≡ b → FitsSigned w32 (if b then cast_signed w32 n else pos 0)
    by true e = cast_small n (let most = leb-true n 2147483648 e in omega (arith, most))
    by false e = cast_small 0 (omega arith)

symbol_small : (kind : TokenKind) (z : ℤ) (terminal : Option Terminal) (own : List ℕ) → z ≡ value_of kind own → IsSmall (symbol_as kind z terminal own)
symbol_small token_kinds.Word z terminal own is = word_small terminal own
symbol_small token_kinds.Number z terminal own is = subst (FitsSigned w32) (sym is) (value_small (number_value own))
symbol_small token_kinds.Text z terminal own is = tt
symbol_small token_kinds.Binary z terminal own is = tt
symbol_small token_kinds.Hexadecimal z terminal own is = tt
symbol_small token_kinds.Mark z terminal own is = mark_small terminal
symbol_small token_kinds.Hex4 z terminal own is = tt

lexemes_small : (text : List ℕ) (first : Option Bool) (at limit : ℕ) (lexemes : List Lexeme) → HasLexemes text first at limit lexemes → AreSmall (symbols_of text (tokens_of lexemes))
lexemes_small text first at limit [] has = tt
lexemes_small text first at limit (l ∷ ls) has =
    let own = token_bytes text l.token in (
      symbol_small l.token.kind l.token.value l.token.terminal own has.0.value,
      lexemes_small text (first_word first l.token.kind own) l.token.end limit ls has.1,
    )

tokens_small : (text : List ℕ) (piece : Piece) (tokens : List Token) → AreTokens text piece tokens → AreSmall (symbols_of text tokens)
tokens_small text piece tokens are =
    subst (λ (t : List Token). AreSmall (symbols_of text t)) (sym are.good.tokens_are) (lexemes_small text None piece.start piece.end are.good.lexemes are.good.has)

left : (a b : List Symbol) → AreSmall (a ++ b) → AreSmall a
left [] b small = tt
left (t ∷ a) b small = (small.0, left a b small.1)

right : (a b : List Symbol) → AreSmall (a ++ b) → AreSmall b
right [] b small = small
right (t ∷ a) b small = right a b small.1

-- what stands after a symbol, and both parts of a list
beyond : {t : Symbol} {s r : List Symbol} → s ≡ t ∷ r → AreSmall s → AreSmall r
beyond is small = (subst AreSmall is small).1

front : {s : List Symbol} (a b : List Symbol) → s ≡ a ++ b → AreSmall s → AreSmall a
front a b is small = left a b (subst AreSmall is small)

back : {s : List Symbol} (a b : List Symbol) → s ≡ a ++ b → AreSmall s → AreSmall b
back a b is small = right a b (subst AreSmall is small)

-- ---- expressions and arrays

abbrev mutual
  -- each number of an expression is a 32-bit integer with a sign
  pub HasSmall : ExprTree → Type 0
  HasSmall (number z) = FitsSigned w32 z
  HasSmall (scalar name) = Unit {0}
  HasSmall (element name index) = HasSmall index
  HasSmall (unary op e) = HasSmall e
  HasSmall (binary op a b) = HasSmall a × HasSmall b
  HasSmall (abs e) = HasSmall e
  HasSmall (int a) = ArrayHasSmall a

  pub ArrayHasSmall : ArrayTree → Type 0
  ArrayHasSmall (literal bits) = Unit {0}
  ArrayHasSmall (whole name) = Unit {0}
  ArrayHasSmall (range name high low) = HasSmall high × HasSmall low
  ArrayHasSmall (of_int e) = HasSmall e

mutual
  expr_small : {n : ℕ} {s : List Symbol} {e : ExprTree} → IsExpr n s e → AreSmall s → HasSmall e
  expr_small (of_unary m) small = unary_small m small
  expr_small (tighter m) small = expr_small m small
  expr_small (of_binary {a = a} {b = b} op level one two) small =
      (expr_small one (left a (operator op ∷ b) small), expr_small two (right a (operator op ∷ b) small).1)

  unary_small : {s : List Symbol} {e : ExprTree} → IsUnary s e → AreSmall s → HasSmall e
  unary_small (negation m) small = unary_small m small.1
  unary_small (complement m) small = unary_small m small.1
  unary_small (negated m) small = unary_small m small.1
  unary_small (of_primary m) small = primary_small m small

  primary_small : {s : List Symbol} {e : ExprTree} → IsPrimary s e → AreSmall s → HasSmall e
  primary_small of_number small = small.0
  primary_small (of_cell m) small = cell_small m small
  primary_small (of_brackets {s = s} m) small = expr_small m (left s (right_round ∷ []) small.1)
  primary_small (of_abs {s = s} m) small = expr_small m (left s (right_round ∷ []) small.1.1)
  primary_small (of_array {s = s} m) small = array_small m (left s (right_round ∷ []) small.1.1)

  cell_small : {s : List Symbol} {e : ExprTree} → IsCell s e → AreSmall s → HasSmall e
  cell_small of_scalar small = tt
  cell_small (of_element {s = s} m) small = expr_small m (left s (right_square ∷ []) small.1.1)

  target_small : {s : List Symbol} {a : ArrayTree} → IsTarget s a → AreSmall s → ArrayHasSmall a
  target_small of_whole small = tt
  target_small (of_range {a = a} {b = b} high low) small =
      let rest : List Symbol = dots ∷ (b ++ right_square ∷ []) in
      (expr_small high (left a rest small.1.1), expr_small low (left b (right_square ∷ []) (right a rest small.1.1).1))

  array_small : {s : List Symbol} {a : ArrayTree} → IsArray s a → AreSmall s → ArrayHasSmall a
  array_small of_literal small = tt
  array_small (of_target m) small = target_small m small
  array_small (of_expr {s = s} m) small = expr_small m (left s (right_round ∷ []) small.1.1)

-- ---- operands

abbrev pub OperandsSmall : List Operand → Type 0
OperandsSmall [] = Unit {0}
OperandsSmall (o ∷ os) = HasSmall o.expr × OperandsSmall os

joined : (a b : List Operand) → OperandsSmall a → OperandsSmall b → OperandsSmall (a ++ b)
joined [] b one two = two
joined (o ∷ a) b one two = (one.0, joined a b one.1 two)

module _ (look : Lookup) where
  array_has : (a : ArrayTree) → ArrayHasSmall a → OperandsSmall (array_operands look a)
  array_has (literal bits) small = tt
  array_has (whole name) small = tt
  array_has (range name high low) small = (small.0, (small.1, tt))
  array_has (of_int e) small = (small, tt)

  given_has : (s : List Symbol) (a : Option ArrayTree) → IsPart (maybe (after comma an_array)) a s → AreSmall s → OperandsSmall (given_operands look a)
  given_has s None is small = tt
  given_has s (Some a) is small = array_has a (array_small is.2 (beyond is.1 small))

  target_has : (a : ArrayTree) → ArrayHasSmall a → OperandsSmall (target_operands look (Some a))
  target_has (literal bits) small = tt
  target_has (whole name) small = tt
  target_has (range name high low) small = (small.0, (small.1, tt))
  target_has (of_int e) small = tt

  capture_has : (s : List Symbol) (target : Option ArrayTree) → IsPart capture_part target s → AreSmall s → OperandsSmall (target_operands look target)
  capture_has s None is small = tt
  capture_has s (Some a) is small = target_has a (target_small is.2.2 (beyond is.2.1 (beyond is.1 small)))

  comparison_has : (expected mask : ArrayTree) (cell : ExprTree) → ArrayHasSmall expected → ArrayHasSmall mask → HasSmall cell →
      OperandsSmall (compare_operands look (Some (expected, (mask, cell))))
  comparison_has expected mask (scalar name) one two three =
      joined (array_operands look expected) _ (array_has expected one) (joined (array_operands look mask) [] (array_has mask two) tt)
  comparison_has expected mask (element name index) one two three =
      joined (array_operands look expected) _ (array_has expected one) (joined (array_operands look mask) _ (array_has mask two) (three, tt))
  comparison_has expected mask (number z) one two three = tt
  comparison_has expected mask (unary op e) one two three = tt
  comparison_has expected mask (binary op a b) one two three = tt
  comparison_has expected mask (abs e) one two three = tt
  comparison_has expected mask (int a) one two three = tt

  compare_has : (s : List Symbol) (compare : Option CompareTree) → IsPart compare_part compare s → AreSmall s → OperandsSmall (compare_operands look compare)
  compare_has s None is small = tt
  compare_has s (Some (expected, (mask, cell))) is small =
      let x = is.2.2 in
      let y = x.4.2 in
      let both = beyond is.2.1 (beyond is.1 small) in
      let mask_on = beyond x.4.1 (back x.0 x.1 x.2 both) in
      comparison_has expected mask cell (array_small x.3 (front x.0 x.1 x.2 both)) (array_small y.3 (front y.0 y.1 y.2 mask_on))
      (cell_small y.4.2 (beyond y.4.1 (back y.0 y.1 y.2 mask_on)))

  part_has : (s : List Symbol) (part : PartTree) (others : List PartTree) → IsPrintPart s part → AreSmall s → OperandsSmall (part_operands look others) →
      OperandsSmall (part_operands look (part ∷ others))
  part_has _ _ others of_string small more = more
  part_has _ _ others (of_value m) small more = (expr_small m small, more)
  part_has _ _ others (of_character {s = s} m) small more = (expr_small m (left s (right_round ∷ []) small.1.1), more)

  parts_have : (s : List Symbol) (parts : List PartTree) → Separated (IsPart a_print_part) comma parts s → AreSmall s → OperandsSmall (part_operands look parts)
  parts_have s [] is small = absurd is
  parts_have s (x ∷ []) is small = part_has s x [] is small tt
  parts_have s (x ∷ y ∷ ys) is small =
      part_has is.0 x (y ∷ ys) is.3 (front is.0 (comma ∷ is.1) is.2 small) (parts_have is.1 (y ∷ ys) is.4 (back is.0 (comma ∷ is.1) is.2 small).1)

step_has : (s : List Symbol) (step : Option ExprTree) → IsPart step_part step s → AreSmall s → HasSmall (step_or_one step)
step_has s None is small = cast_small 1 (omega arith)
step_has s (Some e) is small = expr_small is.2 (beyond is.1 small)

usec_has : (s : List Symbol) (usec : Option ExprTree) → IsPart usec_part usec s → AreSmall s → OperandsSmall (integer_given usec)
usec_has s None is small = tt
usec_has s (Some e) is small = (expr_small is.2.2 (front is.2.0 (join joins.Usec ∷ []) is.2.1 (beyond is.1 small)), tt)

hertz_has : (s : List Symbol) (e : ExprTree) → IsPart (maybe_hz an_expr) e s → AreSmall s → HasSmall e
hertz_has s e (inl is) small = expr_small is small
hertz_has s e (inr is) small = expr_small is.2 (front is.0 (hz ∷ []) is.1 small)

frequency_has : (s : List Symbol) (hertz : Option ExprTree) → IsPart frequency_part hertz s → AreSmall s → OperandsSmall (integer_given hertz)
frequency_has s None is small = tt
frequency_has s (Some e) is small = (hertz_has s e is small, tt)

exported_has : {s : List Symbol} {e : ExprTree} → IsExported s (exported_value e) → AreSmall s → HasSmall e
exported_has (of_exported_value m) small = expr_small m small

exported_array_has : {s : List Symbol} {a : ArrayTree} → IsExported s (exported_array a) → AreSmall s → ArrayHasSmall a
exported_array_has (of_exported_array m) small = array_small m small

signed_small : {s : List Symbol} {z : ℤ} → IsSigned s z → AreSmall s → FitsSigned w32 z
signed_small unsigned small = small.0
signed_small (minus {z = z}) small = cast_small ((2 ^ 32 - cast_unsigned w32 z) % 2 ^ 32) (omega arith)

values_small : (zs : List ℤ) (s : List Symbol) → Separated (IsPart a_signed) comma zs s → AreSmall s → All (FitsSigned w32) zs
values_small [] s is small = absurd is
values_small (z ∷ []) s is small = All-cons (FitsSigned w32) z [] (signed_small is small) (All-nil (FitsSigned w32))
values_small (z ∷ y ∷ ys) s is small =
    All-cons (FitsSigned w32) z (y ∷ ys) (signed_small is.3 (front is.0 (comma ∷ is.1) is.2 small)) (values_small (y ∷ ys) is.1 is.4 (back is.0 (comma ∷ is.1) is.2 small).1)

bit_small : (b : Bool) → FitsSigned w32 (bit_number b)
bit_small true = cast_small 1 (omega arith)
bit_small false = cast_small 0 (omega arith)

-- ---- rows

-- the initial integers of an array
abbrev pub ValuesSmall : BodyTree → Type 0
ValuesSmall (integer_array name size (Some zs)) = All (FitsSigned w32) zs
ValuesSmall _ = Unit {0}

pub record RowSmall (b : BodyTree) : Type 0 where
  pub all : (scope : Scope) → OperandsSmall (operands scope b)
  pub values : ValuesSmall b

pub rows_small : (s : List Symbol) (b : BodyTree) → IsBody s b → AreSmall s → Each RowSmall (rows b)
rows_small s (boolean v None) is small = tt
rows_small s (boolean v (Some b)) is small = (record { all = λ scope. (bit_small b, tt); values = tt }, tt)
rows_small s (boolean_array v n None) is small = tt
rows_small s (boolean_array v n (Some bits)) is small = (record { all = λ scope. tt; values = tt }, tt)
rows_small s (integer v None) is small = tt
rows_small s (integer v (Some z)) is small =
    let x = is.2 in
    let own = signed_small x.4.2 (beyond x.4.1 (back x.0 x.1 x.2 (beyond is.1 small))) in
    (record { all = λ scope. (own, tt); values = tt }, tt)
rows_small s (integer_array v n None) is small = tt
rows_small s (integer_array v n (Some zs)) is small =
    let x = is.2 in
    let y = x.4 in
    let own = values_small zs y.4.0 y.4.2 (beyond y.4.1 (back y.0 y.1 y.2 (back x.0 x.1 x.2 (beyond is.1 small)))) in
    (record { all = λ scope. tt; values = own }, tt)
rows_small s (assign v e) is small =
    let own = expr_small is.4.2 (beyond is.4.1 (back is.0 is.1 is.2 small)) in
    (record { all = λ scope. (own, tt); values = tt }, tt)
rows_small s (assign_element v i e) is small =
    let x = is.4.2 in
    let inside = beyond is.4.1 (back is.0 is.1 is.2 small) in
    let index = expr_small x.3 (front x.0 x.1 x.2 inside) in
    let value = expr_small x.4.2.2 (beyond x.4.2.1 (beyond x.4.1 (back x.0 x.1 x.2 inside))) in
    (record { all = λ scope. (index, (value, tt)); values = tt }, tt)
rows_small s (assign_array v a) is small =
    let own = array_small is.4.2.2.2 (beyond is.4.2.2.1 (beyond is.4.2.1 (beyond is.4.1 (back is.0 is.1 is.2 small)))) in
    (record { all = λ scope. array_has scope.look a own; values = tt }, tt)
rows_small s (assign_range v h l a) is small =
    let x = is.4.2 in
    let y = x.4.2 in
    let inside = beyond is.4.1 (back is.0 is.1 is.2 small) in
    let low_on = beyond x.4.1 (back x.0 x.1 x.2 inside) in
    let high = expr_small x.3 (front x.0 x.1 x.2 inside) in
    let low = expr_small y.3 (front y.0 y.1 y.2 low_on) in
    let own = array_small y.4.2.2 (beyond y.4.2.1 (beyond y.4.1 (back y.0 y.1 y.2 low_on))) in
    (record { all = λ scope. (high, (low, array_has scope.look a own)); values = tt }, tt)
rows_small s (if_then e b) is small =
    let inside = beyond is.2 small in
    let own = expr_small is.3 (left is.0 (join joins.Then ∷ is.1) inside) in
    (record { all = λ scope. (own, tt); values = tt }, rows_small is.1 b is.6 (right is.0 (join joins.Then ∷ is.1) inside).1)
rows_small s (for_loop v a b c) is small =
    let f = is.2 in
    let x = f.4.2 in
    let y = x.4.2 in
    let inside = beyond f.4.1 (back f.0 f.1 f.2 (beyond is.1 small)) in
    let to_on = beyond x.4.1 (back x.0 x.1 x.2 inside) in
    let from = expr_small x.3 (front x.0 x.1 x.2 inside) in
    let to = expr_small y.3 (front y.0 y.1 y.2 to_on) in
    let step = step_has y.1 c y.4 (back y.0 y.1 y.2 to_on) in
    (record { all = λ scope. (from, (to, (step, tt))); values = tt }, tt)
rows_small s (push e) is small = let own = expr_small is.2 (beyond is.1 small) in (record { all = λ scope. (own, tt); values = tt }, tt)
rows_small s (pop (element name index)) is small =
    let own : HasSmall index = cell_small is.2 (beyond is.1 small) in (record { all = λ scope. (own, tt); values = tt }, tt)
rows_small s (pop (scalar name)) is small = (record { all = λ scope. tt; values = tt }, tt)
rows_small s (pop (number z)) is small = (record { all = λ scope. tt; values = tt }, tt)
rows_small s (pop (unary op e)) is small = (record { all = λ scope. tt; values = tt }, tt)
rows_small s (pop (binary op a b)) is small = (record { all = λ scope. tt; values = tt }, tt)
rows_small s (pop (abs e)) is small = (record { all = λ scope. tt; values = tt }, tt)
rows_small s (pop (int a)) is small = (record { all = λ scope. tt; values = tt }, tt)
rows_small s (print parts) is small =
    let list = beyond is.1 small in (record { all = λ scope. parts_have scope.look is.0 parts is.2 list; values = tt }, tt)
rows_small s (export key (exported_value e)) is small =
    let p = is.2 in
    let own = exported_has p.4.2 (beyond p.4.1 (back p.0 p.1 p.2 (beyond is.1 small))) in
    (record { all = λ scope. (own, tt); values = tt }, tt)
rows_small s (export key (exported_array a)) is small =
    let p = is.2 in
    let own = exported_array_has p.4.2 (beyond p.4.1 (back p.0 p.1 p.2 (beyond is.1 small))) in
    (record { all = λ scope. array_has scope.look a own; values = tt }, tt)
rows_small s (exit e) is small = let own = expr_small is.2 (beyond is.1 small) in (record { all = λ scope. (own, tt); values = tt }, tt)
rows_small s (scan k e a t c) is small =
    let x = is.2 in
    let y = x.4.2 in
    let z = y.4 in
    let inside = beyond is.1 small in
    let data_on = beyond x.4.1 (back x.0 x.1 x.2 inside) in
    let others = back y.0 y.1 y.2 data_on in
    let count = expr_small x.3 (front x.0 x.1 x.2 inside) in
    let source = array_small y.3 (front y.0 y.1 y.2 data_on) in
    let target_on = front z.0 z.1 z.2 others in
    let compare_on = back z.0 z.1 z.2 others in (
      record {
        all = λ scope. (
          count,
          joined (array_operands scope.look a) _ (array_has scope.look a source)
              (joined (target_operands scope.look t) _ (capture_has scope.look z.0 t z.3 target_on) (compare_has scope.look z.1 c z.4 compare_on)),
        );
        values = tt;
      },
      tt,
    )
rows_small s (pad k e a) is small =
    let x = is.2 in
    let inside = beyond is.1 small in
    let count = expr_small x.3 (front x.0 x.1 x.2 inside) in
    let bits_on = back x.0 x.1 x.2 inside in
    (record { all = λ scope. (count, given_has scope.look x.1 a x.4 bits_on); values = tt }, tt)
rows_small s (wait_cycles k e u l) is small =
    let x = is.2 in
    let y = x.4 in
    let z = y.4.2 in
    let inside = back x.0 x.1 x.2 (beyond is.1 small) in
    let count = expr_small y.3 (front y.0 y.1 y.2 inside) in
    let time = usec_has z.0 u z.3 (front z.0 z.1 z.2 (beyond y.4.1 (back y.0 y.1 y.2 inside))) in
    (record { all = λ scope. (count, time); values = tt }, tt)
rows_small s (wait_usec k e l) is small =
    let x = is.2 in
    let y = x.4 in
    let time = expr_small y.3 (front y.0 y.1 y.2 (back x.0 x.1 x.2 (beyond is.1 small))) in
    (record { all = λ scope. (time, tt); values = tt }, tt)
rows_small s (frequency e) is small =
    let own = frequency_has is.0 e is.2 (beyond is.1 small) in (record { all = λ scope. own; values = tt }, tt)
rows_small s _ is small = (record { all = λ scope. tt; values = tt }, tt)

labelled_small : (s : List Symbol) (label : Option (List ℕ)) (b : BodyTree) → IsLabelled s label b → AreSmall s → Each RowSmall (rows b)
labelled_small s None b is small = rows_small s b is small
labelled_small s (Some v) b is small = rows_small is.0 b is.3 (beyond is.1 small).1

pieces_small : (text : List ℕ) (pieces : List Piece) (statements : List StmtTree) → AreReadAs text pieces (map Some statements) → All (λ (st : StmtTree). Each RowSmall (rows st.body)) statements
pieces_small text [] [] read = All-nil (λ (st : StmtTree). Each RowSmall (rows st.body))
pieces_small text [] (st ∷ sts) read = absurd read
pieces_small text (p ∷ ps) [] read = absurd read
pieces_small text (p ∷ ps) (st ∷ sts) read =
    let own = read.0 in
    All-cons (λ (st : StmtTree). Each RowSmall (rows st.body)) st sts
    (labelled_small (symbols_of text own.tokens) st.label st.body own.means (tokens_small text p own.tokens own.are)) (pieces_small text ps sts read.1)

-- each row of each statement
pub program_small : (text : List ℕ) (statements : List StmtTree) → IsProgram text statements → All (λ (st : StmtTree). Each RowSmall (rows st.body)) statements
program_small text statements program = pieces_small text program.pieces statements program.read
