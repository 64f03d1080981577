-- Each statement that the grammar gives has one of the shapes.
use Rattle.std.proofs.Common.{◌≡◌, ℕ, true, false, List, [], ◌∷◌, map, Option, Some, None, refl, arith}
use Rattle.std.specs.Prelude.{All, length, nat_lt, ◌||◌}
use Rattle.std.proofs.lemmas.Bool.{lt-ltb}
use Rattle.std.proofs.lemmas.List.Elements.{All-nil, All-cons}
use Rattle.stapl_lexer.specs.declared.piece.Piece.{Piece}
use Rattle.stapl_syntax.specs.Symbols.{Symbol, symbols_of}
use Rattle.stapl_syntax.specs.Trees.{ExprTree, CompareTree, BodyTree, note, action, procedure, data_block, end_data, crc, end_procedure, boolean, boolean_array, integer, integer_array, if_then, pop, print, scan, state_list, StmtTree}
use Rattle.stapl_syntax.specs.Expressions.{IsCell, of_scalar, of_element}
use Rattle.stapl_syntax.specs.Parts.{AreStates, one_state, more_states, more_after_comma, IsPart, Separated, compare_part}
use Rattle.stapl_syntax.specs.Statements.{is_outer, is_unconditional, IsBody, IsLabelled, IsPieceStatement}
use Rattle.stapl_syntax.specs.Programs.{AreReadAs, IsProgram}
use Rattle.stapl_shapes.specs.Shapes.{is_cell, has_compare_shape, is_simple_shape, is_inner_shape, is_outer_shape, HasShape}

-- a list that is not empty has an item
has_one : {A : Type 0} (x : A) (xs : List A) → nat_lt 0 (length (x ∷ xs)) ≡ true
has_one x xs = lt-ltb 0 (length (x ∷ xs)) (omega arith)

-- so a list that is written with a symbol between each two of its items has one
separated_there : {A : Type 0} (P : A → List Symbol → Type 0) (t : Symbol) (s : List Symbol) (xs : List A) → Separated P t xs s →
    nat_lt 0 (length xs) ≡ true
separated_there P t s [] is = absurd is
separated_there P t s (x ∷ xs) is = has_one x xs

-- and so has a list of states
states_there : {s : List Symbol} {ks : List ℕ} → AreStates s ks → nat_lt 0 (length ks) ≡ true
states_there (one_state {k = k}) = has_one k []
states_there (more_states {k = k} {ks = ks} are) = has_one k ks
states_there (more_after_comma {k = k} {ks = ks} are) = has_one k ks

-- the cell of a POP or a COMPARE
cell_shaped : {s : List Symbol} {e : ExprTree} → IsCell s e → is_cell e ≡ true
cell_shaped of_scalar = refl
cell_shaped (of_element m) = refl

-- the COMPARE of a scan
compare_shaped : (s : List Symbol) (compare : Option CompareTree) → IsPart compare_part compare s → has_compare_shape compare ≡ true
compare_shaped s None is = refl
compare_shaped s (Some compare) is = let after = is.2.2.4.2 in cell_shaped after.4.2

-- a statement that may stand after THEN
simple_shaped : (s : List Symbol) (body : BodyTree) → is_outer body ≡ false → is_unconditional body ≡ false → IsBody s body →
    is_simple_shape body ≡ true
simple_shaped s (if_then e body) inner conditional is = simple_shaped is.1 body is.4 is.5 is.6
simple_shaped s (pop e) inner conditional is = cell_shaped is.2
simple_shaped s (print parts) inner conditional is = separated_there _ _ is.0 parts is.2
simple_shaped s (scan k e a t c) inner conditional is =
    let bits = is.2.4.2 in
    let after = bits.4 in
    compare_shaped after.1 c after.4
simple_shaped s (state_list states) inner conditional is = states_there is.2
simple_shaped s (note key text) inner conditional is = absurd cc
simple_shaped s (action name text items) inner conditional is = absurd cc
simple_shaped s (procedure name uses) inner conditional is = absurd cc
simple_shaped s (data_block name) inner conditional is = absurd cc
simple_shaped s end_data inner conditional is = absurd cc
simple_shaped s (crc n) inner conditional is = absurd cc
simple_shaped s end_procedure inner conditional is = absurd cc
simple_shaped s (boolean name start) inner conditional is = absurd cc
simple_shaped s (boolean_array name size bits) inner conditional is = absurd cc
simple_shaped s (integer name start) inner conditional is = absurd cc
simple_shaped s (integer_array name size start) inner conditional is = absurd cc
simple_shaped s _ inner conditional is = refl

-- a statement without its label
body_shaped : (s : List Symbol) (body : BodyTree) → IsBody s body → (is_outer_shape body || is_inner_shape body) ≡ true
body_shaped s (note key text) is = refl
body_shaped s (action name text items) is = refl
body_shaped s (procedure name uses) is = refl
body_shaped s (data_block name) is = refl
body_shaped s end_data is = refl
body_shaped s (crc n) is = refl
body_shaped s end_procedure is = refl
body_shaped s (boolean name start) is = refl
body_shaped s (boolean_array name size bits) is = refl
body_shaped s (integer name start) is = refl
body_shaped s (integer_array name size None) is = refl
body_shaped s (integer_array name size (Some zs)) is =
    let values = is.2.4.4 in
    separated_there _ _ values.0 zs values.2
body_shaped s body is = simple_shaped s body refl refl is

-- a statement, with its label or without
labelled_shaped : (s : List Symbol) (label : Option (List ℕ)) (body : BodyTree) → IsLabelled s label body →
    (is_outer_shape body || is_inner_shape body) ≡ true
labelled_shaped s None body is = body_shaped s body is
labelled_shaped s (Some name) body is = body_shaped is.0 body is.3

statement_shaped : (text : List ℕ) (piece : Piece) (st : StmtTree) → IsPieceStatement text piece st → HasShape st
statement_shaped text piece st is = labelled_shaped (symbols_of text is.tokens) st.label st.body is.means

-- the statements of all pieces
statements_shaped : (text : List ℕ) (pieces : List Piece) (statements : List StmtTree) → AreReadAs text pieces (map Some statements) →
    All HasShape statements
statements_shaped text pieces [] read = All-nil HasShape
statements_shaped text [] (st ∷ rest) read = absurd read
statements_shaped text (piece ∷ pieces) (st ∷ rest) read =
    All-cons HasShape st rest (statement_shaped text piece st read.0) (statements_shaped text pieces rest read.1)

pub program_shaped : (text : List ℕ) (statements : List StmtTree) → IsProgram text statements → All HasShape statements
program_shaped text statements program = statements_shaped text program.pieces statements program.read
