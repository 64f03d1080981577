-- A statement takes no more bytes than its piece has, and so the statements of a program take together no more than its
-- text has.
use Rattle.std.proofs.Common.{◌≡◌, ℕ, ℤ, ◌+◌, ◌-◌, ◌<◌, ◌≤◌, Bool, true, false, List, [], ◌∷◌, ◌++◌, length, length-drop, drop, map, Option, Some, None, if◌then◌else◌, refl, ap, subst, arith}
use Rattle.std.specs.Prelude.{All}
use Rattle.std.specs.List.{list_all, slice_split, sum_by}
use Rattle.std.proofs.lemmas.List.{length-take}
use Rattle.std.proofs.lemmas.List.Elements.{All-head, All-tail}
use Rattle.std.proofs.lemmas.List.Sums.{sum_by-cons}
use Rattle.stapl_lexer.specs.declared.piece.Piece.{Piece}
use Rattle.stapl_lexer.specs.declared.token.Token.{Token}
use Rattle.stapl_lexer.specs.declared.terminal.JoinWord.TheVariants as joins
use Rattle.stapl_lexer.specs.PieceFaults.{tokens_of, AreTokens}
use Rattle.stapl_lexer.specs.PieceTokens.{token_bytes, first_word, Lexeme, HasLexemes}
use Rattle.stapl_lexer.specs.Pieces.{is_blank, is_semicolon, piece_of, pieces_from, LiesIn}
use Rattle.stapl_lexer.specs.Segments.{Segment, spelling}
use Rattle.stapl_lexer.proofs.PieceLemmas.{cut_lies}
use Rattle.stapl_syntax.specs.Symbols.{Symbol, symbols_of}
use Rattle.stapl_syntax.specs.Trees.{ArrayTree, PartTree, CompareTree, ItemTree, BodyTree, action, procedure, end_data, end_procedure, boolean_array, integer_array, assign, assign_element, assign_array, assign_range, if_then, print, ExportTree, export, scan, pad, state_list, StmtTree}
use Rattle.stapl_syntax.specs.Expressions.{of_whole, of_range, IsArray, of_literal, of_target, of_expr}
use Rattle.stapl_syntax.specs.Parts.{IsSigned, unsigned, minus, AreStates, one_state, more_states, more_after_comma, IsPrintPart, of_string, of_value, of_character, IsExported, of_exported_value, of_exported_array, IsPart, an_array, after, maybe, item_part, compare_part, Separated, comma, join}
use Rattle.stapl_syntax.specs.Statements.{IsBody, IsLabelled, IsPieceStatement}
use Rattle.stapl_syntax.specs.Programs.{AreReadAs, IsProgram}
use Rattle.stapl_shapes.specs.Bytes.{literal_bytes, array_bytes, given_bytes, compare_bytes, part_bytes, export_bytes, body_bytes, statement_bytes, statements_bytes}
use Rattle.stapl_shapes.proofs.SymbolBytes.{bytes_of, bytes_both, symbol_fits}

-- ---- parts

-- a symbol, and what follows
after_fits : {n : ℕ} {t : Symbol} {s r : List Symbol} → s ≡ t ∷ r → n ≤ bytes_of r → 1 + n ≤ bytes_of s
after_fits is fits = omega (arith, ap bytes_of is, fits)

-- two parts, one after the other
both_fit : {m n : ℕ} {s : List Symbol} (a b : List Symbol) → s ≡ a ++ b → m ≤ bytes_of a → n ≤ bytes_of b →
    m + n ≤ bytes_of s
both_fit a b is left right = omega (arith, ap bytes_of is, bytes_both a b, left, right)

-- the second of two parts
second_fits : {n : ℕ} {s : List Symbol} (a b : List Symbol) → s ≡ a ++ b → n ≤ bytes_of b → n ≤ bytes_of s
second_fits a b is fits = omega (arith, ap bytes_of is, bytes_both a b, fits)

-- a symbol, and then something
named_fits : {n : ℕ} {t : Symbol} {s : List Symbol} (a b : List Symbol) → s ≡ a ++ b → a ≡ t ∷ [] → n ≤ bytes_of b →
    1 + n ≤ bytes_of s
named_fits a b is name fits = omega (arith, ap bytes_of is, bytes_both a b, ap bytes_of name, fits)

array_fits : {s : List Symbol} {a : ArrayTree} → IsArray s a → array_bytes a ≤ bytes_of s
array_fits of_literal = omega arith
array_fits (of_target of_whole) = omega arith
array_fits (of_target (of_range high low)) = omega arith
array_fits (of_expr m) = omega arith

given_fits : (s : List Symbol) (a : Option ArrayTree) → IsPart (maybe (after comma an_array)) a s →
    given_bytes a ≤ bytes_of s
given_fits s None is = omega arith
given_fits s (Some a) is = let all = after_fits is.1 (array_fits is.2) in omega (arith, all)

compare_fits : (s : List Symbol) (compare : Option CompareTree) → IsPart compare_part compare s →
    compare_bytes compare ≤ bytes_of s
compare_fits s None is = omega arith
compare_fits s (Some c) is =
    let x = is.2.2 in
    let y = x.4.2 in
    let mask = array_fits y.3 in
    let beyond = second_fits_left y.0 y.1 y.2 mask in
    let both = both_fit x.0 x.1 x.2 (array_fits x.3) (after_fits x.4.1 beyond) in
    let all = after_fits is.1 (after_fits is.2.1 both) in
    omega (arith, all)
  where
    second_fits_left : {n : ℕ} {s : List Symbol} (a b : List Symbol) → s ≡ a ++ b → n ≤ bytes_of a → n ≤ bytes_of s
    second_fits_left a b is fits = omega (arith, ap bytes_of is, bytes_both a b, fits)

exported_fits : (s : List Symbol) (x : ExportTree) → IsExported s x → export_bytes x ≤ bytes_of s
exported_fits _ _ (of_exported_value m) = omega arith
exported_fits _ _ (of_exported_array m) = array_fits m

part_fits : (s : List Symbol) (part : PartTree) → IsPrintPart s part → part_bytes part ≤ bytes_of s
part_fits _ _ of_string = omega arith
part_fits _ _ (of_value m) = omega arith
part_fits _ _ (of_character m) = omega arith

-- a list with a symbol between each two of its items
module _ {A : Type 0} (P : A → List Symbol → Type 0) (t : Symbol) where
  -- by what its items take
  sums_fit : (m : A → ℕ) → ((s : List Symbol) (x : A) → P x s → m x ≤ bytes_of s) → (s : List Symbol) (xs : List A) →
      Separated P t xs s → sum_by m xs ≤ bytes_of s
  sums_fit m each s [] is = absurd is
  sums_fit m each s (x ∷ []) is = let own = each s x is in omega (arith, own, sum_by-cons m x [])
  sums_fit m each s (x ∷ y ∷ ys) is =
      let own = each is.0 x is.3 in
      let more = sums_fit m each is.1 (y ∷ ys) is.4 in
      omega (arith, sum_by-cons m x (y ∷ ys), ap bytes_of is.2, bytes_both is.0 (t ∷ is.1), own, more)

  -- by how many there are
  items_fit : ((s : List Symbol) (x : A) → P x s → 1 ≤ bytes_of s) → (s : List Symbol) (xs : List A) →
      Separated P t xs s →
      length xs ≤ bytes_of s
  items_fit each s [] is = absurd is
  items_fit each s (x ∷ []) is = let own = each s x is in omega (arith, own)
  items_fit each s (x ∷ y ∷ ys) is =
      let own = each is.0 x is.3 in
      let more = items_fit each is.1 (y ∷ ys) is.4 in
      omega (arith, ap bytes_of is.2, bytes_both is.0 (t ∷ is.1), own, more)

item_there : (s : List Symbol) (item : ItemTree) → IsPart item_part item s → 1 ≤ bytes_of s
item_there s item is = omega (arith, ap bytes_of is.2, bytes_both is.0 is.1, ap bytes_of is.3)

signed_there : (s : List Symbol) (z : ℤ) → IsSigned s z → 1 ≤ bytes_of s
signed_there _ _ unsigned = omega arith
signed_there _ _ minus = omega arith

states_fit : {s : List Symbol} {ks : List ℕ} → AreStates s ks → length ks ≤ bytes_of s
states_fit one_state = omega arith
states_fit (more_states are) = let more = states_fit are in omega (arith, more)
states_fit (more_after_comma are) = let more = states_fit are in omega (arith, more)

-- ---- statements

body_fits : (s : List Symbol) (body : BodyTree) → IsBody s body → 1 + body_bytes body ≤ bytes_of s
body_fits s (action v text items) is =
    let p = is.2 in
    let q = p.4 in
    let list = items_fit (IsPart item_part) comma item_there q.4.0 items q.4.2 in
    let beyond = second_fits q.0 q.1 q.2 (after_fits q.4.1 list) in
    omega (arith, ap bytes_of is.1, ap bytes_of p.2, bytes_both p.0 p.1, ap bytes_of p.3, length-drop 1 v, beyond)
body_fits s (procedure v uses) is =
    let p = is.2 in
    omega (arith, ap bytes_of is.1, ap bytes_of p.2, bytes_both p.0 p.1, ap bytes_of p.3, length-drop 1 v)
body_fits s (boolean_array v size (Some bits)) is =
    let p = is.2 in
    let q = p.4 in
    let literal : literal_bytes bits ≤ bytes_of q.4.0 = omega (arith, ap bytes_of q.4.2) in
    let all = after_fits is.1 (second_fits p.0 p.1 p.2 (second_fits q.0 q.1 q.2 (after_fits q.4.1 literal))) in
    omega (arith, all)
body_fits s (integer_array v size (Some zs)) is =
    let p = is.2 in
    let q = p.4 in
    let list = items_fit (λ z s. IsSigned s z) comma signed_there q.4.0 zs q.4.2 in
    let all = after_fits is.1 (second_fits p.0 p.1 p.2 (second_fits q.0 q.1 q.2 (after_fits q.4.1 list))) in
    omega (arith, all)
body_fits s (assign v e) is = let all = named_fits {n = 0} is.0 is.1 is.2 is.3 (omega arith) in omega (arith, all)
body_fits s (assign_element v i e) is =
    let all = named_fits {n = 0} is.0 is.1 is.2 is.3 (omega arith) in
    omega (arith, all)
body_fits s (assign_array v a) is =
    let x = is.4 in
    let value = array_fits x.2.2.2 in
    let all = named_fits is.0 is.1 is.2 is.3 (after_fits x.1 (after_fits x.2.1 (after_fits x.2.2.1 value))) in
    omega (arith, all)
body_fits s (assign_range v h l a) is =
    let x = is.4.2 in
    let y = x.4.2 in
    let value = after_fits y.4.1 (after_fits y.4.2.1 (array_fits y.4.2.2)) in
    let rest = second_fits x.0 x.1 x.2 (after_fits x.4.1 (second_fits y.0 y.1 y.2 value)) in
    let all = named_fits is.0 is.1 is.2 is.3 (after_fits is.4.1 rest) in
    omega (arith, all)
body_fits s (if_then e body) is =
    let own = body_fits is.1 body is.6 in
    omega (arith, ap bytes_of is.2, bytes_both is.0 (join joins.Then ∷ is.1), own)
body_fits s (print parts) is =
    after_fits is.1 (sums_fit (λ x s. IsPrintPart s x) comma part_bytes part_fits is.0 parts is.2)
body_fits s (export key x) is =
    let p = is.2 in
    let value = after_fits p.4.1 (exported_fits p.4.0 x p.4.2) in
    omega (arith, ap bytes_of is.1, ap bytes_of p.2, bytes_both p.0 p.1, ap bytes_of p.3, value)
body_fits s (scan k e a t c) is =
    let x = is.2 in
    let y = x.4.2 in
    let z = y.4 in
    let optional = second_fits z.0 z.1 z.2 (compare_fits z.1 c z.4) in
    let bits = after_fits x.4.1 (both_fit y.0 y.1 y.2 (array_fits y.3) optional) in
    let all = after_fits is.1 (second_fits x.0 x.1 x.2 bits) in
    omega (arith, all)
body_fits s (pad k e a) is = let x = is.2 in after_fits is.1 (second_fits x.0 x.1 x.2 (given_fits x.1 a x.4))
body_fits s (state_list states) is = after_fits is.1 (states_fit is.2)
body_fits s end_data is = omega (arith, ap bytes_of is)
body_fits s end_procedure is = omega (arith, ap bytes_of is)
body_fits s _ is = omega (arith, ap bytes_of is.1)

labelled_fits : (s : List Symbol) (label : Option (List ℕ)) (body : BodyTree) → IsLabelled s label body →
    1 + body_bytes body ≤ bytes_of s
labelled_fits s None body is = body_fits s body is
labelled_fits s (Some v) body is = let own = body_fits is.0 body is.3 in omega (arith, ap bytes_of is.1, own)

-- ---- tokens

-- tokens stand one after the other
lexemes_fit : (text : List ℕ) (first : Option Bool) (at limit : ℕ) (lexemes : List Lexeme) → at ≤ limit →
    HasLexemes text first at limit lexemes → at + bytes_of (symbols_of text (tokens_of lexemes)) ≤ limit
lexemes_fit text first at limit [] le has = omega arith
lexemes_fit text first at limit (l ∷ ls) le has =
    let beyond = has.0.after in
    let some = has.0.some in
    let own : List ℕ = token_bytes text l.token in
    let more = lexemes_fit text (first_word first l.token.kind own) l.token.end limit ls has.0.within has.1 in
    let short : length own ≤ l.token.end - l.token.start =
    omega (arith, length-take (l.token.end - l.token.start) (drop l.token.start text)) in
    let room : 1 ≤ l.token.end - l.token.start = omega (arith, some) in
    let one = symbol_fits own (l.token.end - l.token.start) room short l.token.kind l.token.value l.token.terminal in
    omega (arith, beyond, some, more, one)

tokens_fit : (text : List ℕ) (piece : Piece) (tokens : List Token) → piece.start ≤ piece.end →
    AreTokens text piece tokens → piece.start + bytes_of (symbols_of text tokens) ≤ piece.end
tokens_fit text piece tokens le are =
    let fits = lexemes_fit text None piece.start piece.end are.good.lexemes le are.good.has in
    omega (arith, fits, ap (λ (t : List Token). bytes_of (symbols_of text t)) are.good.tokens_are)

-- a statement fits into its piece
statement_fits : (text : List ℕ) (piece : Piece) (st : StmtTree) → piece.start ≤ piece.end →
    IsPieceStatement text piece st → piece.start + statement_bytes st ≤ piece.end
statement_fits text piece st le is =
    let own = labelled_fits (symbols_of text is.tokens) st.label st.body is.means in
    omega (arith, own, tokens_fit text piece is.tokens le is.are)

-- ---- pieces

-- the statement of the last piece, if there is one
last_fits : (blank : Bool) (text : List ℕ) (piece : Piece) (statements : List StmtTree) → piece.start ≤ length text →
    All (LiesIn text) (if blank then [] else piece ∷ []) →
    AreReadAs text (if blank then [] else piece ∷ []) (map Some statements) →
    piece.start + statements_bytes statements ≤ length text
last_fits true text piece [] within lies read = omega arith
last_fits true text piece (st ∷ sts) within lies read = absurd read
last_fits false text piece [] within lies read = absurd read
last_fits false text piece (st ∷ []) within lies read =
    let place = All-head (LiesIn text) piece [] lies in
    let own = statement_fits text piece st place.ordered read.0 in
    omega (arith, own, place.within)
last_fits false text piece (st ∷ next ∷ sts) within lies read = absurd read.1

-- the statements of the pieces of these groups take no more bytes than the text has from there on
pieces_fit : (text : List ℕ) (start : ℕ) (groups : List (List Segment)) (statements : List StmtTree) →
    start ≤ length text → All (LiesIn text) (pieces_from text start groups) →
    AreReadAs text (pieces_from text start groups) (map Some statements) →
    start + statements_bytes statements ≤ length text
pieces_fit text start [] [] within lies read = omega arith
pieces_fit text start [] (st ∷ sts) within lies read = absurd read
pieces_fit text start (group ∷ []) statements within lies read =
    last_fits (list_all is_blank group) text (piece_of text start group false) statements within lies read
pieces_fit text start (group ∷ next ∷ groups) [] within lies read = absurd read
pieces_fit text start (group ∷ next ∷ groups) (st ∷ sts) within lies read =
    let piece = piece_of text start group true in
    let place : LiesIn text piece = All-head (LiesIn text) piece _ lies in
    let inside : start + length (spelling group) < length text = place.before_end refl in
    let own = statement_fits text piece st place.ordered read.0 in
    let others = All-tail (LiesIn text) piece _ lies in
    let more = pieces_fit text (piece.end + 1) (next ∷ groups) sts (omega arith) others read.1 in
    omega (arith, own, more, sum_by-cons statement_bytes st sts)

pub program_fits : (text : List ℕ) (statements : List StmtTree) → IsProgram text statements →
    statements_bytes statements ≤ length text
program_fits text statements program =
    let groups = slice_split is_semicolon program.cut.segments in
    let lies : All (LiesIn text) (pieces_from text 0 groups) =
    subst (All (LiesIn text)) program.cut.pieces_are (cut_lies text program.pieces program.cut) in
    let read : AreReadAs text (pieces_from text 0 groups) (map Some statements) =
    subst (λ (ps : List Piece). AreReadAs text ps (map Some statements)) program.cut.pieces_are program.read in
    omega (arith, pieces_fit text 0 groups statements (omega arith) lies read)
