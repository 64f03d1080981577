-- The tokens of statements in canonical text (JESD71, statements). Which of the brackets, signs and commas that the
-- grammar leaves open are printed is this profile's rule.
use Rattle.std.specs.Prelude.{ℕ, ℤ, pos, negsuc, ◌-◌, nat_lt, List, [], ◌∷◌, ◌++◌, Option, Some, None, Bool, true, false}
use Rattle.std.proofs.Common.{inl, inr}
use Rattle.std.specs.Int.{w32, int_wrapping_neg}
use Rattle.stapl_lexer.specs.declared.terminal.Function.TheVariants as functions
use Rattle.stapl_lexer.specs.declared.terminal.InnerWord.TheVariants as inner_words
use Rattle.stapl_lexer.specs.declared.terminal.JoinWord.TheVariants as joins
use Rattle.stapl_lexer.specs.declared.terminal.Mark.TheVariants as marks
use Rattle.stapl_lexer.specs.declared.terminal.OuterWord.TheVariants as outer_words
use Rattle.stapl_lexer.specs.declared.terminal.PortWord.TheVariants as port_words
use Rattle.stapl_lexer.specs.declared.terminal.SimpleWord.TheVariants as simple_words
use Rattle.stapl_syntax.specs.declared.signs.Sign.TheVariants as signs
use Rattle.stapl_syntax.specs.declared.signs.UnOp.TheVariants.{Negate}
use Rattle.stapl_syntax.specs.declared.statement.ItemChoice.{ItemChoice}
use Rattle.stapl_syntax.specs.declared.statement.ItemChoice.TheVariants as choices
use Rattle.stapl_syntax.specs.Symbols.{Plain, Text, Literal, CheckWord}
use Rattle.stapl_syntax.specs.Trees.{ExprTree, number, scalar, element, unary, binary, abs, int, ArrayTree, literal, whole, range, of_int, PartTree, string}
use Rattle.stapl_syntax.specs.Trees.{value, character, ExportTree, exported_value, exported_array, BodyTree, note, action, procedure, data_block, end_data}
use Rattle.stapl_syntax.specs.Trees.{crc, end_procedure, boolean, boolean_array, integer, integer_array, assign, assign_element, assign_array, assign_range}
use Rattle.stapl_syntax.specs.Trees.{call, goto, if_then, for_loop, next, push, pop, print, export, exit, scan, stop, pad, state_list, wait_cycles, wait_usec}
use Rattle.stapl_syntax.specs.Trees.{frequency, StmtTree}
use Rattle.stapl_syntax.specs.Expressions.{level_of, operator, mark, function, name, left_round, right_round, left_square, right_square, dots}
use Rattle.stapl_syntax.specs.Parts.{Part, a_name, a_state, a_number, a_signed, a_bit, a_text, a_literal, a_check_word, a_choice, an_expr, an_array, a_cell}
use Rattle.stapl_syntax.specs.Parts.{a_target, a_print_part, an_export, some_states, after, before, maybe_hz, both, maybe, either, listed, hz, comma, equals}
use Rattle.stapl_syntax.specs.Parts.{join, note_part, action_part, procedure_part, size_part, bit_part, bits_part, signed_part, signed_list_part, for_part}
use Rattle.stapl_syntax.specs.Parts.{print_part, export_part, scan_part, pad_part, last_part, usec_part, first_part, frequency_part}
use Rattle.stapl_syntax.specs.Statements.{outer, inner, simple, if_word, port}
use Rattle.canonical_text.specs.PrintedTokens.{Printed, Seen, UnaryMark}

-- tokens in brackets, or as they stand
abbrev pub bracketed_if : Bool → List Printed → List Printed
bracketed_if true ts = Seen left_round ∷ (ts ++ Seen right_round ∷ [])
bracketed_if false ts = ts

abbrev mutual
  -- The tokens of an expression that stands where operators of levels up to n may stand without brackets: 10 where any
  -- may, 0 under an operator with one operand. On the left of an operator with two operands its own level may stand, on
  -- the right only tighter ones.
  pub expr_tokens : ℕ → ExprTree → List Printed
  expr_tokens n (number z) = Seen (Plain (signs.Number z)) ∷ []
  expr_tokens n (scalar v) = Seen (name v) ∷ []
  expr_tokens n (element v i) = Seen (name v) ∷ Seen left_square ∷ (expr_tokens 10 i ++ Seen right_square ∷ [])
  expr_tokens n (unary op x) = UnaryMark op ∷ expr_tokens 0 x
  expr_tokens n (binary op x y) =
      bracketed_if (nat_lt n (level_of op))
      (expr_tokens (level_of op) x ++ Seen (operator op) ∷ expr_tokens (level_of op - 1) y)
  expr_tokens n (abs x) = Seen (function functions.Abs) ∷ Seen left_round ∷ (expr_tokens 10 x ++ Seen right_round ∷ [])
  expr_tokens n (int a) = Seen (function functions.Int) ∷ Seen left_round ∷ (array_tokens a ++ Seen right_round ∷ [])

  -- the tokens of an array
  pub array_tokens : ArrayTree → List Printed
  array_tokens (literal bits) = Seen (Literal bits) ∷ []
  array_tokens (whole v) = Seen (name v) ∷ Seen left_square ∷ Seen right_square ∷ []
  array_tokens (range v h l) =
      Seen (name v) ∷ Seen left_square
      ∷ (expr_tokens 10 h ++ (Seen dots ∷ (expr_tokens 10 l ++ Seen right_square ∷ [])))
  array_tokens (of_int x) =
      Seen (function functions.Bool) ∷ Seen left_round ∷ (expr_tokens 10 x ++ Seen right_round ∷ [])

-- an initial value: its sign, and its digits
abbrev pub signed_tokens : ℤ → List Printed
signed_tokens (pos n) = Seen (Plain (signs.Number (pos n))) ∷ []
signed_tokens (negsuc n) = UnaryMark Negate ∷ Seen (Plain (signs.Number (int_wrapping_neg w32 (negsuc n)))) ∷ []

-- 0 or 1
abbrev pub bit_tokens : Bool → List Printed
bit_tokens false = Seen (Plain (signs.Number (pos 0))) ∷ []
bit_tokens true = Seen (Plain (signs.Number (pos 1))) ∷ []

unfoldable pub choice_tokens : ItemChoice → List Printed
choice_tokens choices.Optional = Seen (join joins.Optional) ∷ []
choice_tokens choices.Recommended = Seen (join joins.Recommended) ∷ []

abbrev pub print_part_tokens : PartTree → List Printed
print_part_tokens (string bytes) = Seen (Text bytes) ∷ []
print_part_tokens (value e) = expr_tokens 10 e
print_part_tokens (character e) =
    Seen (function functions.Character) ∷ Seen left_round ∷ (expr_tokens 10 e ++ Seen right_round ∷ [])

abbrev pub export_tokens : ExportTree → List Printed
export_tokens (exported_value e) = expr_tokens 10 e
export_tokens (exported_array a) = array_tokens a

-- the tokens of each value, with a token between each two
abbrev pub separated_tokens : {A : Type 0} → (A → List Printed) → Printed → List A → List Printed
separated_tokens write t [] = []
separated_tokens write t (x ∷ []) = write x
separated_tokens write t (x ∷ y ∷ ys) = write x ++ (t ∷ separated_tokens write t (y ∷ ys))

-- states, with a comma between each two
abbrev pub states_tokens : List ℕ → List Printed
states_tokens states = separated_tokens (λ k. Seen (Plain (signs.State k)) ∷ []) (Seen comma) states

-- The tokens of a part with this value. What may be missing and is missing is not printed, and a FREQUENCY with a
-- number ends in HZ.
abbrev pub part_tokens : {A : Type 0} → Part A → A → List Printed
part_tokens a_name v = Seen (name v) ∷ []
part_tokens a_state k = Seen (Plain (signs.State k)) ∷ []
part_tokens a_number z = Seen (Plain (signs.Number z)) ∷ []
part_tokens a_signed z = signed_tokens z
part_tokens a_bit bit = bit_tokens bit
part_tokens a_text bytes = Seen (Text bytes) ∷ []
part_tokens a_literal bits = Seen (Literal bits) ∷ []
part_tokens a_check_word n = Seen (CheckWord n) ∷ []
part_tokens a_choice c = choice_tokens c
part_tokens an_expr e = expr_tokens 10 e
part_tokens an_array a = array_tokens a
part_tokens a_cell e = expr_tokens 10 e
part_tokens a_target a = array_tokens a
part_tokens a_print_part x = print_part_tokens x
part_tokens an_export x = export_tokens x
part_tokens some_states ks = states_tokens ks
part_tokens (after t p) x = Seen t ∷ part_tokens p x
part_tokens (before p t) x = part_tokens p x ++ Seen t ∷ []
part_tokens (maybe_hz p) x = part_tokens p x ++ Seen hz ∷ []
part_tokens (both p q) x = part_tokens p x.0 ++ part_tokens q x.1
part_tokens (maybe p) None = []
part_tokens (maybe p) (Some x) = part_tokens p x
part_tokens (either p q) (inl x) = part_tokens p x
part_tokens (either p q) (inr y) = part_tokens q y
part_tokens (listed t p) xs = separated_tokens (part_tokens p) (Seen t) xs

-- the tokens of a statement without its label, by its production
abbrev pub body_tokens : BodyTree → List Printed
body_tokens (note key text) = part_tokens (after (outer outer_words.Note) note_part) (key, text)
body_tokens (action v text items) = part_tokens (after (outer outer_words.Action) action_part) (v, (text, items))
body_tokens (procedure v uses) = part_tokens (after (outer outer_words.Procedure) procedure_part) (v, uses)
body_tokens (data_block v) = part_tokens (after (outer outer_words.Data) a_name) v
body_tokens end_data = Seen (outer outer_words.EndData) ∷ []
body_tokens (crc n) = part_tokens (after (outer outer_words.Crc) a_check_word) n
body_tokens end_procedure = Seen (inner inner_words.EndProcedure) ∷ []
body_tokens (boolean v start) = part_tokens (after (inner inner_words.Boolean) (both a_name bit_part)) (v, start)
body_tokens (boolean_array v n bits) =
    part_tokens (after (inner inner_words.Boolean) (both a_name (both size_part bits_part))) (v, (n, bits))
body_tokens (integer v start) = part_tokens (after (inner inner_words.Integer) (both a_name signed_part)) (v, start)
body_tokens (integer_array v n start) =
    part_tokens (after (inner inner_words.Integer) (both a_name (both size_part signed_list_part))) (v, (n, start))
body_tokens (assign v e) = part_tokens (both a_name (after equals an_expr)) (v, e)
body_tokens (assign_element v i e) =
    part_tokens (both a_name (after left_square (both an_expr (after right_square (after equals an_expr))))) (v, (i, e))
body_tokens (assign_array v a) =
    part_tokens (both a_name (after left_square (after right_square (after equals an_array)))) (v, a)
body_tokens (assign_range v h l a) =
    part_tokens (both a_name (after left_square (both an_expr (after dots (both an_expr
    (after right_square (after equals an_array))))))) (v, (h, (l, a)))
body_tokens (call v) = part_tokens (after (simple simple_words.Call) a_name) v
body_tokens (goto v) = part_tokens (after (simple simple_words.Goto) a_name) v
body_tokens (if_then e b) = Seen if_word ∷ (expr_tokens 10 e ++ (Seen (join joins.Then) ∷ body_tokens b))
body_tokens (for_loop v a b c) = part_tokens (after (simple simple_words.For) for_part) (v, (a, (b, c)))
body_tokens (next v) = part_tokens (after (simple simple_words.Next) a_name) v
body_tokens (push e) = part_tokens (after (simple simple_words.Push) an_expr) e
body_tokens (pop e) = part_tokens (after (simple simple_words.Pop) a_cell) e
body_tokens (print parts) = part_tokens (after (simple simple_words.Print) print_part) parts
body_tokens (export key x) = part_tokens (after (simple simple_words.Export) export_part) (key, x)
body_tokens (exit e) = part_tokens (after (simple simple_words.Exit) an_expr) e
body_tokens (scan k e a t c) = part_tokens (after (port (port_words.Scan k)) scan_part) (e, (a, (t, c)))
body_tokens (stop k state) = part_tokens (after (port (port_words.Stop k)) a_state) state
body_tokens (pad k e a) = part_tokens (after (port (port_words.Pad k)) pad_part) (e, a)
body_tokens (state_list states) = part_tokens (after (port port_words.State) some_states) states
body_tokens (wait_cycles k e u l) =
    part_tokens (after (port port_words.Wait) (both first_part (both an_expr (after (join joins.Cycles)
    (both usec_part last_part))))) (k, (e, (u, l)))
body_tokens (wait_usec k e l) =
    part_tokens (after (port port_words.Wait) (both first_part (both an_expr (after (join joins.Usec) last_part))))
    (k, (e, l))
body_tokens (frequency e) = part_tokens (after (port port_words.Frequency) frequency_part) e

-- the tokens of a label
abbrev pub label_tokens : Option (List ℕ) → List Printed
label_tokens None = []
label_tokens (Some v) = Seen (name v) ∷ Seen (mark marks.Colon) ∷ []

-- the tokens of a statement
abbrev pub stmt_tokens : StmtTree → List Printed
stmt_tokens st = label_tokens st.label ++ body_tokens st.body
