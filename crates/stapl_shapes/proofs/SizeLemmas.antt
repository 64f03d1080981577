-- A statement has no more symbols than its piece has bytes, and so the statements of a program are together no larger
-- than its text.
use Rattle.std.proofs.Common.{◌≡◌, ℕ, ◌+◌, ◌<◌, ◌≤◌, inl, inr, Bool, true, false, List, [], ◌∷◌, ◌++◌, length, map, Option, Some, None, if◌then◌else◌, refl, ap, subst, arith, length-append}
use Rattle.std.specs.Prelude.{All}
use Rattle.std.specs.List.{list_all, slice_split, sum_by}
use Rattle.std.proofs.lemmas.List.{length-map}
use Rattle.std.proofs.lemmas.List.Elements.{All-head, All-tail}
use Rattle.std.proofs.lemmas.List.Sums.{sum_by-cons}
use Rattle.stapl_lexer.specs.declared.piece.Piece.{Piece}
use Rattle.stapl_lexer.specs.declared.token.Token.{Token}
use Rattle.stapl_lexer.specs.declared.terminal.JoinWord.TheVariants as joins
use Rattle.stapl_lexer.specs.PieceFaults.{AreTokens}
use Rattle.stapl_lexer.specs.PieceTokens.{token_bytes, first_word, Lexeme, HasLexemes}
use Rattle.stapl_lexer.specs.Pieces.{is_blank, is_semicolon, piece_of, pieces_from, LiesIn}
use Rattle.stapl_lexer.specs.Segments.{Segment, spelling}
use Rattle.stapl_lexer.proofs.PieceLemmas.{cut_lies}
use Rattle.stapl_syntax.specs.Symbols.{Symbol, symbol_of, symbols_of}
use Rattle.stapl_syntax.specs.Trees.{ExprTree, ArrayTree, PartTree, CompareTree, BodyTree, boolean, integer, assign, assign_element, assign_array, assign_range, if_then, for_loop, push, pop, print, ExportTree, export, exit, scan, pad, wait_cycles, wait_usec, frequency, end_data, end_procedure, StmtTree}
use Rattle.stapl_syntax.specs.Expressions.{operator, dots, right_round, right_square, IsExpr, of_unary, tighter, of_binary, IsUnary, negation, complement, negated, of_primary, IsPrimary, of_number, of_cell, of_brackets, of_abs, of_array, IsCell, of_scalar, of_element, IsTarget, of_whole, of_range, IsArray, of_literal, of_target, of_expr}
use Rattle.stapl_syntax.specs.Parts.{IsPrintPart, of_string, of_value, of_character, IsExported, of_exported_value, of_exported_array, hz, IsPart, an_expr, maybe_hz, an_array, after, maybe, a_print_part, step_part, capture_part, compare_part, usec_part, frequency_part, Separated, comma, join}
use Rattle.stapl_syntax.specs.Statements.{IsBody, IsLabelled, IsPieceStatement}
use Rattle.stapl_syntax.specs.Programs.{AreReadAs, IsProgram}
use Rattle.stapl_shapes.specs.Sizes.{expr_size, array_size, part_size, export_size, given_size, capture_size, compare_size, padding_size, body_size, statements_size}

-- ---- expressions and parts

mutual
  -- the symbols of an expression are no fewer than its size
  expr_fits : {n : ℕ} {s : List Symbol} {e : ExprTree} → IsExpr n s e → expr_size e ≤ length s
  expr_fits (of_unary m) = unary_fits m
  expr_fits (tighter m) = expr_fits m
  expr_fits (of_binary {a = a} {b = b} op level left right) =
      omega (arith, length-append a (operator op ∷ b), expr_fits left, expr_fits right)

  unary_fits : {s : List Symbol} {e : ExprTree} → IsUnary s e → expr_size e ≤ length s
  unary_fits (negation m) = omega (arith, unary_fits m)
  unary_fits (complement m) = omega (arith, unary_fits m)
  unary_fits (negated m) = omega (arith, unary_fits m)
  unary_fits (of_primary m) = primary_fits m

  primary_fits : {s : List Symbol} {e : ExprTree} → IsPrimary s e → expr_size e ≤ length s
  primary_fits of_number = omega arith
  primary_fits (of_cell m) = cell_fits m
  primary_fits (of_brackets {s = s} m) = omega (arith, length-append s (right_round ∷ []), expr_fits m)
  primary_fits (of_abs {s = s} m) = omega (arith, length-append s (right_round ∷ []), expr_fits m)
  primary_fits (of_array {s = s} m) = omega (arith, length-append s (right_round ∷ []), array_fits m)

  cell_fits : {s : List Symbol} {e : ExprTree} → IsCell s e → expr_size e ≤ length s
  cell_fits of_scalar = omega arith
  cell_fits (of_element {s = s} m) = omega (arith, length-append s (right_square ∷ []), expr_fits m)

  target_fits : {s : List Symbol} {a : ArrayTree} → IsTarget s a → array_size a ≤ length s
  target_fits of_whole = omega arith
  target_fits (of_range {a = a} {b = b} high low) =
      omega (
        arith,
        length-append a (dots ∷ (b ++ right_square ∷ [])),
        length-append b (right_square ∷ []),
        expr_fits high,
        expr_fits low,
      )

  array_fits : {s : List Symbol} {a : ArrayTree} → IsArray s a → array_size a ≤ length s
  array_fits of_literal = omega arith
  array_fits (of_target m) = target_fits m
  array_fits (of_expr {s = s} m) = omega (arith, length-append s (right_round ∷ []), expr_fits m)

part_fits : (s : List Symbol) (part : PartTree) → IsPrintPart s part → part_size part ≤ length s
part_fits _ _ of_string = omega arith
part_fits _ _ (of_value m) = expr_fits m
part_fits _ _ (of_character {s = s} m) = omega (arith, length-append s (right_round ∷ []), expr_fits m)

parts_fit : (s : List Symbol) (parts : List PartTree) → Separated (IsPart a_print_part) comma parts s →
    sum_by part_size parts ≤ length s
parts_fit s [] is = absurd is
parts_fit s (x ∷ []) is = let own = part_fits s x is in omega (arith, own)
parts_fit s (x ∷ y ∷ ys) is =
    let own = part_fits is.0 x is.3 in
    let more = parts_fit is.1 (y ∷ ys) is.4 in
    omega (arith, sum_by-cons part_size x (y ∷ ys), ap length is.2, length-append is.0 (comma ∷ is.1), own, more)

exported_fits : (s : List Symbol) (x : ExportTree) → IsExported s x → export_size x ≤ length s
exported_fits _ _ (of_exported_value m) = expr_fits m
exported_fits _ _ (of_exported_array m) = array_fits m

-- a symbol, and what follows
after_fits : {n : ℕ} {t : Symbol} {s r : List Symbol} → s ≡ t ∷ r → n ≤ length r → 1 + n ≤ length s
after_fits is fits = omega (arith, ap length is, fits)

-- the same, if the symbol does not count
later_fits : {n : ℕ} {t : Symbol} {s r : List Symbol} → s ≡ t ∷ r → n ≤ length r → n ≤ length s
later_fits is fits = omega (arith, ap length is, fits)

-- two parts, one after the other
both_fit : {m n : ℕ} {s : List Symbol} (a b : List Symbol) → s ≡ a ++ b → m ≤ length a → n ≤ length b → m + n ≤ length s
both_fit a b is left right = omega (arith, ap length is, length-append a b, left, right)

-- a name, a symbol, and what follows
named_fits : {n : ℕ} {v t : Symbol} {s r : List Symbol} (a b : List Symbol) → s ≡ a ++ b → a ≡ v ∷ [] → b ≡ t ∷ r →
    n ≤ length r → 2 + n ≤ length s
named_fits a b is name rest fits = omega (arith, ap length is, length-append a b, ap length name, ap length rest, fits)

step_fits : (s : List Symbol) (step : Option ExprTree) → IsPart step_part step s → given_size step ≤ length s
step_fits s None is = omega arith
step_fits s (Some x) is = later_fits is.1 (expr_fits is.2)

usec_fits : (s : List Symbol) (usec : Option ExprTree) → IsPart usec_part usec s → given_size usec ≤ length s
usec_fits s None is = omega arith
usec_fits s (Some x) is =
    let own = expr_fits is.2.2 in
    omega (arith, own, ap length is.1, ap length is.2.1, length-append is.2.0 (join joins.Usec ∷ []))

hertz_fits : (s : List Symbol) (x : ExprTree) → IsPart (maybe_hz an_expr) x s → expr_size x ≤ length s
hertz_fits s x (inl is) = expr_fits is
hertz_fits s x (inr is) = let own = expr_fits is.2 in omega (arith, own, ap length is.1, length-append is.0 (hz ∷ []))

frequency_fits : (s : List Symbol) (hertz : Option ExprTree) → IsPart frequency_part hertz s → given_size hertz ≤ length s
frequency_fits s None is = omega arith
frequency_fits s (Some x) is = hertz_fits s x is

-- the array of a padding, with the comma before it
padding_fits : (s : List Symbol) (a : Option ArrayTree) → IsPart (maybe (after comma an_array)) a s →
    padding_size a ≤ length s
padding_fits s None is = omega arith
padding_fits s (Some a) is = after_fits is.1 (array_fits is.2)

capture_fits : (s : List Symbol) (target : Option ArrayTree) → IsPart capture_part target s →
    capture_size target ≤ length s
capture_fits s None is = omega arith
capture_fits s (Some a) is = let all = after_fits is.1 (after_fits is.2.1 (target_fits is.2.2)) in omega (arith, all)

compare_fits : (s : List Symbol) (compare : Option CompareTree) → IsPart compare_part compare s →
    compare_size compare ≤ length s
compare_fits s None is = omega arith
compare_fits s (Some c) is =
    let x = is.2.2 in
    let y = x.4.2 in
    let cell = after_fits y.4.1 (cell_fits y.4.2) in
    let beyond = after_fits x.4.1 (both_fit y.0 y.1 y.2 (array_fits y.3) cell) in
    let all = after_fits is.1 (after_fits is.2.1 (both_fit x.0 x.1 x.2 (array_fits x.3) beyond)) in
    omega (arith, all)

-- ---- statements

body_fits : (s : List Symbol) (body : BodyTree) → IsBody s body → body_size body ≤ length s
body_fits s (assign v e) is = named_fits is.0 is.1 is.2 is.3 is.4.1 (expr_fits is.4.2)
body_fits s (assign_element v i e) is =
    let x = is.4.2 in
    let index = expr_fits x.3 in
    let value = later_fits x.4.1 (later_fits x.4.2.1 (expr_fits x.4.2.2)) in
    omega (arith, named_fits is.0 is.1 is.2 is.3 is.4.1 (both_fit x.0 x.1 x.2 index value))
body_fits s (assign_array v a) is =
    let value = later_fits is.4.2.1 (later_fits is.4.2.2.1 (array_fits is.4.2.2.2)) in
    named_fits is.0 is.1 is.2 is.3 is.4.1 value
body_fits s (assign_range v h l a) is =
    let x = is.4.2 in
    let y = x.4.2 in
    let high = expr_fits x.3 in
    let low = expr_fits y.3 in
    let value = later_fits y.4.1 (later_fits y.4.2.1 (array_fits y.4.2.2)) in
    let rest = later_fits x.4.1 (both_fit y.0 y.1 y.2 low value) in
    omega (arith, named_fits is.0 is.1 is.2 is.3 is.4.1 (both_fit x.0 x.1 x.2 high rest))
body_fits s (if_then e body) is =
    let condition = expr_fits is.3 in
    let own = body_fits is.1 body is.6 in
    omega (arith, ap length is.2, length-append is.0 (join joins.Then ∷ is.1), condition, own)
body_fits s (for_loop v a b c) is =
    let f = is.2 in
    let x = f.4.2 in
    let y = x.4.2 in
    let from = expr_fits x.3 in
    let to = expr_fits y.3 in
    let step = step_fits y.1 c y.4 in
    let rest = later_fits x.4.1 (both_fit y.0 y.1 y.2 to step) in
    omega (arith, after_fits is.1 (named_fits f.0 f.1 f.2 f.3 f.4.1 (both_fit x.0 x.1 x.2 from rest)))
body_fits s (push e) is = after_fits is.1 (expr_fits is.2)
body_fits s (print parts) is = after_fits is.1 (parts_fit is.0 parts is.2)
body_fits s (pop e) is = after_fits is.1 (cell_fits is.2)
body_fits s (export key x) is =
    let p = is.2 in
    omega (arith, ap length is.1, ap length p.2, length-append p.0 p.1, ap length p.3, exported_fits p.4.0 x p.4.2, ap length p.4.1)
body_fits s (exit e) is = after_fits is.1 (expr_fits is.2)
body_fits s (scan k e a t c) is =
    let x = is.2 in
    let y = x.4.2 in
    let z = y.4 in
    let optional = both_fit z.0 z.1 z.2 (capture_fits z.0 t z.3) (compare_fits z.1 c z.4) in
    let bits = after_fits x.4.1 (both_fit y.0 y.1 y.2 (array_fits y.3) optional) in
    let all = after_fits is.1 (both_fit x.0 x.1 x.2 (expr_fits x.3) bits) in
    omega (arith, all)
body_fits s (pad k e a) is =
    let x = is.2 in
    let all = after_fits is.1 (both_fit x.0 x.1 x.2 (expr_fits x.3) (padding_fits x.1 a x.4)) in
    omega (arith, all)
body_fits s (wait_cycles k e u l) is =
    let x = is.2 in
    let y = x.4 in
    let z = y.4.2 in
    let count = expr_fits y.3 in
    let time = usec_fits z.0 u z.3 in
    omega (
      arith,
      ap length is.1,
      ap length x.2,
      length-append x.0 x.1,
      ap length y.2,
      length-append y.0 y.1,
      ap length y.4.1,
      ap length z.2,
      length-append z.0 z.1,
      count,
      time,
    )
body_fits s (wait_usec k e l) is =
    let x = is.2 in
    let y = x.4 in
    let time = expr_fits y.3 in
    omega (arith, ap length is.1, ap length x.2, length-append x.0 x.1, ap length y.2, length-append y.0 y.1, time)
body_fits s (frequency e) is = after_fits is.1 (frequency_fits is.0 e is.2)
body_fits s (boolean v (Some b)) is =
    omega (arith, ap length is.1, ap length is.2.2, length-append is.2.0 is.2.1, ap length is.2.3)
body_fits s (integer v (Some z)) is =
    omega (arith, ap length is.1, ap length is.2.2, length-append is.2.0 is.2.1, ap length is.2.3)
body_fits s end_data is = omega (arith, ap length is)
body_fits s end_procedure is = omega (arith, ap length is)
body_fits s _ is = omega (arith, ap length is.1)

labelled_fits : (s : List Symbol) (label : Option (List ℕ)) (body : BodyTree) → IsLabelled s label body →
    body_size body ≤ length s
labelled_fits s None body is = body_fits s body is
labelled_fits s (Some v) body is = omega (arith, ap length is.1, body_fits is.0 body is.3)

-- ---- tokens

-- tokens stand one after the other, and each has a byte
lexemes_fit : (text : List ℕ) (first : Option Bool) (at limit : ℕ) (lexemes : List Lexeme) → at ≤ limit →
    HasLexemes text first at limit lexemes → at + length lexemes ≤ limit
lexemes_fit text first at limit [] le has = omega arith
lexemes_fit text first at limit (l ∷ ls) le has =
    let beyond = has.0.after in
    let some = has.0.some in
    let word = first_word first l.token.kind (token_bytes text l.token) in
    let more = lexemes_fit text word l.token.end limit ls has.0.within has.1 in
    omega (arith, beyond, some, more)

tokens_fit : (text : List ℕ) (piece : Piece) (tokens : List Token) → piece.start ≤ piece.end →
    AreTokens text piece tokens → piece.start + length (symbols_of text tokens) ≤ piece.end
tokens_fit text piece tokens le are =
    let lexemes = are.good.lexemes in
    let fits = lexemes_fit text None piece.start piece.end lexemes le are.good.has in
    omega (
      arith,
      fits,
      length-map tokens (symbol_of text),
      ap length are.good.tokens_are,
      length-map lexemes (λ (l : Lexeme). l.token),
    )

-- a statement fits into its piece
statement_fits : (text : List ℕ) (piece : Piece) (st : StmtTree) → piece.start ≤ piece.end →
    IsPieceStatement text piece st → piece.start + body_size st.body ≤ piece.end
statement_fits text piece st le is =
    let own = labelled_fits (symbols_of text is.tokens) st.label st.body is.means in
    omega (arith, own, tokens_fit text piece is.tokens le is.are)

-- ---- pieces

-- the statement of the last piece, if there is one
last_fits : (blank : Bool) (text : List ℕ) (piece : Piece) (statements : List StmtTree) → piece.start ≤ length text →
    All (LiesIn text) (if blank then [] else piece ∷ []) →
    AreReadAs text (if blank then [] else piece ∷ []) (map Some statements) →
    piece.start + statements_size statements ≤ length text
last_fits true text piece [] within lies read = omega arith
last_fits true text piece (st ∷ sts) within lies read = absurd read
last_fits false text piece [] within lies read = absurd read
last_fits false text piece (st ∷ []) within lies read =
    let place = All-head (LiesIn text) piece [] lies in
    let own = statement_fits text piece st place.ordered read.0 in
    omega (arith, own, place.within)
last_fits false text piece (st ∷ next ∷ sts) within lies read = absurd read.1

-- the statements of the pieces of these groups are no larger than the text from there on
pieces_fit : (text : List ℕ) (start : ℕ) (groups : List (List Segment)) (statements : List StmtTree) →
    start ≤ length text → All (LiesIn text) (pieces_from text start groups) →
    AreReadAs text (pieces_from text start groups) (map Some statements) →
    start + statements_size statements ≤ length text
pieces_fit text start [] [] within lies read = omega arith
pieces_fit text start [] (st ∷ sts) within lies read = absurd read
pieces_fit text start (group ∷ []) statements within lies read =
    last_fits (list_all is_blank group) text (piece_of text start group false) statements within lies read
pieces_fit text start (group ∷ next ∷ groups) [] within lies read = absurd read
pieces_fit text start (group ∷ next ∷ groups) (st ∷ sts) within lies read =
    let piece = piece_of text start group true in
    let place : LiesIn text piece = All-head (LiesIn text) piece _ lies in
    let inside : start + length (spelling group) < length text = place.before_end refl in
    let own = statement_fits text piece st place.ordered read.0 in
    let others = All-tail (LiesIn text) piece _ lies in
    let more = pieces_fit text (piece.end + 1) (next ∷ groups) sts (omega arith) others read.1 in
    omega (arith, own, more, sum_by-cons (λ (st : StmtTree). body_size st.body) st sts)

pub program_fits : (text : List ℕ) (statements : List StmtTree) → IsProgram text statements →
    statements_size statements ≤ length text
program_fits text statements program =
    let groups = slice_split is_semicolon program.cut.segments in
    let lies : All (LiesIn text) (pieces_from text 0 groups) =
    subst (All (LiesIn text)) program.cut.pieces_are (cut_lies text program.pieces program.cut) in
    let read : AreReadAs text (pieces_from text 0 groups) (map Some statements) =
    subst (λ (ps : List Piece). AreReadAs text ps (map Some statements)) program.cut.pieces_are program.read in
    omega (arith, pieces_fit text 0 groups statements (omega arith) lies read)
