-- Which tokens mean which statement, and why a piece is no statement (JESD71, statements). The reasons are this
-- profile's.
use Rattle.std.specs.Prelude.{◌≡◌, ℕ, List, [], ◌∷◌, ◌++◌, Option, Some, None, Bool, true, false}
use Rattle.stapl_lexer.specs.declared.piece.Piece.{Piece}
use Rattle.stapl_lexer.specs.declared.token.Token.{Token}
use Rattle.stapl_lexer.specs.PieceFaults.{AreTokens}
use Rattle.stapl_lexer.specs.declared.terminal.OuterWord.{OuterWord}
use Rattle.stapl_lexer.specs.declared.terminal.OuterWord.TheVariants as outer_words
use Rattle.stapl_lexer.specs.declared.terminal.InnerWord.{InnerWord}
use Rattle.stapl_lexer.specs.declared.terminal.InnerWord.TheVariants as inner_words
use Rattle.stapl_lexer.specs.declared.terminal.SimpleWord.{SimpleWord}
use Rattle.stapl_lexer.specs.declared.terminal.SimpleWord.TheVariants as simple_words
use Rattle.stapl_lexer.specs.declared.terminal.PortWord.{PortWord}
use Rattle.stapl_lexer.specs.declared.terminal.PortWord.TheVariants as port_words
use Rattle.stapl_lexer.specs.declared.terminal.JoinWord.TheVariants as joins
use Rattle.stapl_lexer.specs.declared.terminal.Mark.TheVariants as marks
use Rattle.stapl_syntax.specs.declared.signs.Sign.TheVariants as signs
use Rattle.stapl_syntax.specs.Symbols.{Symbol, Plain, symbols_of}
use Rattle.stapl_syntax.specs.Trees.{BodyTree, StmtTree, note, action, procedure, data_block, end_data, crc, end_procedure, boolean, boolean_array, integer, integer_array, assign, assign_element, assign_array, assign_range, call, goto, if_then, for_loop, next, push, pop, print, export, exit, scan, stop, pad, state_list, wait_cycles, wait_usec, frequency}
use Rattle.stapl_syntax.specs.Expressions.{IsExpr, name, mark, left_square, right_square, dots}
use Rattle.stapl_syntax.specs.Parts.{IsPart, a_name, a_state, a_check_word, an_expr, an_array, a_cell, some_states, after, both, equals, join, note_part, action_part, procedure_part, size_part, bit_part, bits_part, signed_part, signed_list_part, for_part, print_part, export_part, scan_part, pad_part, last_part, usec_part, first_part, frequency_part}

abbrev pub outer : OuterWord → Symbol
outer w = Plain (signs.Outer w)

abbrev pub inner : InnerWord → Symbol
inner w = Plain (signs.Inner w)

abbrev pub simple : SimpleWord → Symbol
simple w = Plain (signs.Simple w)

abbrev pub if_word : Symbol
if_word = Plain signs.If

abbrev pub port : PortWord → Symbol
port w = Plain (signs.Port w)

-- a statement that stands outside procedures, and bears no label
abbrev pub is_outer : BodyTree → Bool
is_outer (note key text) = true
is_outer (action v text items) = true
is_outer (procedure v uses) = true
is_outer (data_block v) = true
is_outer end_data = true
is_outer (crc n) = true
is_outer _ = false

-- PROCEDURE
abbrev pub begins_procedure : BodyTree → Bool
begins_procedure (procedure v uses) = true
begins_procedure _ = false

-- ENDPROC
abbrev pub ends_procedure : BodyTree → Bool
ends_procedure end_procedure = true
ends_procedure _ = false

-- ENDPROC or a declaration, which may not stand after THEN
abbrev pub is_unconditional : BodyTree → Bool
is_unconditional end_procedure = true
is_unconditional (boolean v start) = true
is_unconditional (boolean_array v n bits) = true
is_unconditional (integer v start) = true
is_unconditional (integer_array v n start) = true
is_unconditional _ = false

-- The symbols are the statement: one case for each production.
abbrev pub IsBody : List Symbol → BodyTree → Type 0
IsBody s (note key text) = IsPart (after (outer outer_words.Note) note_part) (key, text) s
IsBody s (action v text items) = IsPart (after (outer outer_words.Action) action_part) (v, (text, items)) s
IsBody s (procedure v uses) = IsPart (after (outer outer_words.Procedure) procedure_part) (v, uses) s
IsBody s (data_block v) = IsPart (after (outer outer_words.Data) a_name) v s
IsBody s end_data = s ≡ outer outer_words.EndData ∷ []
IsBody s (crc n) = IsPart (after (outer outer_words.Crc) a_check_word) n s
IsBody s end_procedure = s ≡ inner inner_words.EndProcedure ∷ []
IsBody s (boolean v start) = IsPart (after (inner inner_words.Boolean) (both a_name bit_part)) (v, start) s
IsBody s (boolean_array v n bits) = IsPart (after (inner inner_words.Boolean) (both a_name (both size_part bits_part))) (v, (n, bits)) s
IsBody s (integer v start) = IsPart (after (inner inner_words.Integer) (both a_name signed_part)) (v, start) s
IsBody s (integer_array v n start) = IsPart (after (inner inner_words.Integer) (both a_name (both size_part signed_list_part))) (v, (n, start)) s
-- name "=" expr
IsBody s (assign v e) = IsPart (both a_name (after equals an_expr)) (v, e) s
-- name "[" expr "]" "=" expr
IsBody s (assign_element v i e) =
    IsPart (both a_name (after left_square (both an_expr (after right_square (after equals an_expr))))) (v, (i, e)) s
-- name "[" "]" "=" array
IsBody s (assign_array v a) = IsPart (both a_name (after left_square (after right_square (after equals an_array)))) (v, a) s
-- name "[" expr ".." expr "]" "=" array
IsBody s (assign_range v h l a) =
    IsPart (both a_name (after left_square (both an_expr (after dots (both an_expr (after right_square (after equals an_array))))))) (v, (h, (l, a))) s
IsBody s (call v) = IsPart (after (simple simple_words.Call) a_name) v s
IsBody s (goto v) = IsPart (after (simple simple_words.Goto) a_name) v s
-- IF expr THEN and a statement that is neither outer nor a declaration
IsBody s (if_then e b) =
    (c : List Symbol) × (r : List Symbol) × (s ≡ if_word ∷ (c ++ (join joins.Then ∷ r)))
    × IsExpr 10 c e × (is_outer b ≡ false) × (is_unconditional b ≡ false) × IsBody r b
IsBody s (for_loop v a b c) = IsPart (after (simple simple_words.For) for_part) (v, (a, (b, c))) s
IsBody s (next v) = IsPart (after (simple simple_words.Next) a_name) v s
IsBody s (push e) = IsPart (after (simple simple_words.Push) an_expr) e s
IsBody s (pop e) = IsPart (after (simple simple_words.Pop) a_cell) e s
IsBody s (print parts) = IsPart (after (simple simple_words.Print) print_part) parts s
IsBody s (export key x) = IsPart (after (simple simple_words.Export) export_part) (key, x) s
IsBody s (exit e) = IsPart (after (simple simple_words.Exit) an_expr) e s
IsBody s (scan k e a t c) = IsPart (after (port (port_words.Scan k)) scan_part) (e, (a, (t, c))) s
IsBody s (stop k state) = IsPart (after (port (port_words.Stop k)) a_state) state s
IsBody s (pad k e a) = IsPart (after (port (port_words.Pad k)) pad_part) (e, a) s
IsBody s (state_list states) = IsPart (after (port port_words.State) some_states) states s
IsBody s (wait_cycles k e u l) =
    IsPart (after (port port_words.Wait) (both first_part (both an_expr (after (join joins.Cycles) (both usec_part last_part))))) (k, (e, (u, l))) s
IsBody s (wait_usec k e l) =
    IsPart (after (port port_words.Wait) (both first_part (both an_expr (after (join joins.Usec) last_part)))) (k, (e, l)) s
IsBody s (frequency e) = IsPart (after (port port_words.Frequency) frequency_part) e s

-- the symbols are a statement with this label: none, or one before a statement of a procedure
abbrev pub IsLabelled : List Symbol → Option (List ℕ) → BodyTree → Type 0
IsLabelled s None body = IsBody s body
IsLabelled s (Some v) body = (r : List Symbol) × (s ≡ name v ∷ mark marks.Colon ∷ r) × (is_outer body ≡ false) × IsBody r body

-- The symbols mean the statement.
abbrev pub Means : List Symbol → StmtTree → Type 0
Means s st = IsLabelled s st.label st.body

-- The piece of the text is this statement: it has tokens, nothing is wrong with them, and what the grammar sees of them
-- means the statement.
pub record IsPieceStatement (text : List ℕ) (piece : Piece) (st : StmtTree) : Type 0 where
  pub tokens : List Token
  pub are : AreTokens text piece tokens
  pub means : Means (symbols_of text tokens) st
