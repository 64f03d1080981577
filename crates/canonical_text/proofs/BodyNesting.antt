-- Brackets of printed statements are nested no deeper than those of each other writing of them.
use Rattle.std.proofs.Common.{◌≡◌, ℕ, ◌+◌, ◌≤◌, max, true, List, [], ◌∷◌, ◌++◌, Option, Some, None, refl, sym, subst, arith}
use Rattle.stapl_lexer.specs.Depth.{is_opening, is_closing}
use Rattle.stapl_lexer.specs.declared.terminal.Mark.TheVariants as marks
use Rattle.stapl_lexer.specs.declared.terminal.JoinWord.TheVariants as joins
use Rattle.stapl_syntax.specs.Symbols.{Symbol}
use Rattle.stapl_syntax.specs.Expressions.{name, mark, left_square, right_square, dots}
use Rattle.stapl_lexer.specs.declared.terminal.InnerWord.TheVariants as inner_words
use Rattle.stapl_lexer.specs.declared.terminal.OuterWord.TheVariants as outer_words
use Rattle.stapl_lexer.specs.declared.terminal.PortWord.TheVariants as port_words
use Rattle.stapl_lexer.specs.declared.terminal.SimpleWord.TheVariants as simple_words
use Rattle.stapl_syntax.specs.Trees.{BodyTree, note, action, procedure, data_block, end_data, crc, end_procedure, boolean, boolean_array, integer}
use Rattle.stapl_syntax.specs.Trees.{integer_array, assign, assign_element, assign_array, assign_range, call, goto, if_then, for_loop, next, push, pop, print}
use Rattle.stapl_syntax.specs.Trees.{export, exit, scan, stop, pad, state_list, wait_cycles, wait_usec, frequency, StmtTree}
use Rattle.stapl_syntax.specs.Parts.{Part, a_name, a_state, a_check_word, an_expr, an_array, a_cell, some_states, after, both, IsPart, equals, join, note_part}
use Rattle.stapl_syntax.specs.Parts.{action_part, procedure_part, size_part, bit_part, bits_part, signed_part, signed_list_part, for_part, print_part}
use Rattle.stapl_syntax.specs.Parts.{export_part, scan_part, pad_part, last_part, usec_part, first_part, frequency_part}
use Rattle.stapl_syntax.specs.Statements.{outer, inner, simple, if_word, port, IsBody, IsLabelled, Means}
use Rattle.canonical_text.specs.PrintedTokens.{Seen}
use Rattle.canonical_text.specs.PrintedStatements.{expr_tokens, part_tokens, body_tokens, label_tokens, stmt_tokens}
use Rattle.canonical_text.specs.Printable.{sign_terminal, symbol_terminal, OpensMany}
use Rattle.canonical_text.proofs.Grammar.{symbols, symbols-append}
use Rattle.canonical_text.proofs.Heights.{Walk, walk_on, Reaches, goes_high, many_by_depth}
use Rattle.canonical_text.proofs.Nesting.{expr_depth, expr_walk, expr_nests}
use Rattle.canonical_text.proofs.PartNesting.{part_end, part_peak, fits, part_walk, GoesTo, part_goes, from_nest, two, renamed, from_flat, less}

-- how many brackets of a statement are open at most
abbrev pub body_peak : BodyTree → ℕ
body_peak (note key text) = part_peak 0 (after (outer outer_words.Note) note_part) (key, text)
body_peak (action v text items) = part_peak 0 (after (outer outer_words.Action) action_part) (v, (text, items))
body_peak (procedure v uses) = part_peak 0 (after (outer outer_words.Procedure) procedure_part) (v, uses)
body_peak (data_block v) = part_peak 0 (after (outer outer_words.Data) a_name) v
body_peak end_data = 0
body_peak (crc n) = part_peak 0 (after (outer outer_words.Crc) a_check_word) n
body_peak end_procedure = 0
body_peak (boolean v start) = part_peak 0 (after (inner inner_words.Boolean) (both a_name bit_part)) (v, start)
body_peak (boolean_array v n bits) = part_peak 0 (after (inner inner_words.Boolean) (both a_name (both size_part bits_part))) (v, (n, bits))
body_peak (integer v start) = part_peak 0 (after (inner inner_words.Integer) (both a_name signed_part)) (v, start)
body_peak (integer_array v n start) = part_peak 0 (after (inner inner_words.Integer) (both a_name (both size_part signed_list_part))) (v, (n, start))
body_peak (assign v e) = part_peak 0 (both a_name (after equals an_expr)) (v, e)
body_peak (assign_element v i e) = part_peak 0 (both a_name (after left_square (both an_expr (after right_square (after equals an_expr))))) (v, (i, e))
body_peak (assign_array v a) = part_peak 0 (both a_name (after left_square (after right_square (after equals an_array)))) (v, a)
body_peak (assign_range v h l a) = part_peak 0 (both a_name (after left_square (both an_expr (after dots (both an_expr (after right_square (after equals an_array))))))) (v, (h, (l, a)))
body_peak (call v) = part_peak 0 (after (simple simple_words.Call) a_name) v
body_peak (goto v) = part_peak 0 (after (simple simple_words.Goto) a_name) v
body_peak (if_then e b) = max (expr_depth 10 e) (body_peak b)
body_peak (for_loop v a b c) = part_peak 0 (after (simple simple_words.For) for_part) (v, (a, (b, c)))
body_peak (next v) = part_peak 0 (after (simple simple_words.Next) a_name) v
body_peak (push e) = part_peak 0 (after (simple simple_words.Push) an_expr) e
body_peak (pop e) = part_peak 0 (after (simple simple_words.Pop) a_cell) e
body_peak (print parts) = part_peak 0 (after (simple simple_words.Print) print_part) parts
body_peak (export key x) = part_peak 0 (after (simple simple_words.Export) export_part) (key, x)
body_peak (exit e) = part_peak 0 (after (simple simple_words.Exit) an_expr) e
body_peak (scan k e a t c) = part_peak 0 (after (port (port_words.Scan k)) scan_part) (e, (a, (t, c)))
body_peak (stop k state) = part_peak 0 (after (port (port_words.Stop k)) a_state) state
body_peak (pad k e a) = part_peak 0 (after (port (port_words.Pad k)) pad_part) (e, a)
body_peak (state_list states) = part_peak 0 (after (port port_words.State) some_states) states
body_peak (wait_cycles k e u l) = part_peak 0 (after (port port_words.Wait) (both first_part (both an_expr (after (join joins.Cycles) (both usec_part last_part))))) (k, (e, (u, l)))
body_peak (wait_usec k e l) = part_peak 0 (after (port port_words.Wait) (both first_part (both an_expr (after (join joins.Usec) last_part)))) (k, (e, l))
body_peak (frequency e) = part_peak 0 (after (port port_words.Frequency) frequency_part) e

walk_part : {A : Type 0} (d : ℕ) (p : Part A) (x : A) → fits 0 p ≡ true → part_end 0 p ≡ 0 → part_peak 0 p x ≤ d → Walk d 0 (symbols (part_tokens p x)) 0
walk_part d p x e z le = subst (λ (k : ℕ). Walk d 0 (symbols (part_tokens p x)) k) z (part_walk d 0 p x (omega arith) e le)

pub body_walk : (d : ℕ) (b : BodyTree) → body_peak b ≤ d → Walk d 0 (symbols (body_tokens b)) 0
unfolding symbol_terminal sign_terminal is_opening is_closing
body_walk d (note key text) le = walk_part d (after (outer outer_words.Note) note_part) (key, text) refl refl le
body_walk d (action v text items) le = walk_part d (after (outer outer_words.Action) action_part) (v, (text, items)) refl refl le
body_walk d (procedure v uses) le = walk_part d (after (outer outer_words.Procedure) procedure_part) (v, uses) refl refl le
body_walk d (data_block v) le = walk_part d (after (outer outer_words.Data) a_name) v refl refl le
body_walk d end_data le = ((λ e. absurd cc), omega arith, refl)
body_walk d (crc n) le = walk_part d (after (outer outer_words.Crc) a_check_word) n refl refl le
body_walk d end_procedure le = ((λ e. absurd cc), omega arith, refl)
body_walk d (boolean v start) le = walk_part d (after (inner inner_words.Boolean) (both a_name bit_part)) (v, start) refl refl le
body_walk d (boolean_array v n bits) le = walk_part d (after (inner inner_words.Boolean) (both a_name (both size_part bits_part))) (v, (n, bits)) refl refl le
body_walk d (integer v start) le = walk_part d (after (inner inner_words.Integer) (both a_name signed_part)) (v, start) refl refl le
body_walk d (integer_array v n start) le = walk_part d (after (inner inner_words.Integer) (both a_name (both size_part signed_list_part))) (v, (n, start)) refl refl le
body_walk d (assign v e) le = walk_part d (both a_name (after equals an_expr)) (v, e) refl refl le
body_walk d (assign_element v i e) le = walk_part d (both a_name (after left_square (both an_expr (after right_square (after equals an_expr))))) (v, (i, e)) refl refl le
body_walk d (assign_array v a) le = walk_part d (both a_name (after left_square (after right_square (after equals an_array)))) (v, a) refl refl le
body_walk d (assign_range v h l a) le =
    walk_part d (both a_name (after left_square (both an_expr (after dots (both an_expr (after right_square (after equals an_array))))))) (v, (h, (l, a))) refl refl le
body_walk d (call v) le = walk_part d (after (simple simple_words.Call) a_name) v refl refl le
body_walk d (goto v) le = walk_part d (after (simple simple_words.Goto) a_name) v refl refl le
body_walk d (for_loop v a b c) le = walk_part d (after (simple simple_words.For) for_part) (v, (a, (b, c))) refl refl le
body_walk d (next v) le = walk_part d (after (simple simple_words.Next) a_name) v refl refl le
body_walk d (push e) le = walk_part d (after (simple simple_words.Push) an_expr) e refl refl le
body_walk d (pop e) le = walk_part d (after (simple simple_words.Pop) a_cell) e refl refl le
body_walk d (print parts) le = walk_part d (after (simple simple_words.Print) print_part) parts refl refl le
body_walk d (export key x) le = walk_part d (after (simple simple_words.Export) export_part) (key, x) refl refl le
body_walk d (exit e) le = walk_part d (after (simple simple_words.Exit) an_expr) e refl refl le
body_walk d (scan k e a t c) le = walk_part d (after (port (port_words.Scan k)) scan_part) (e, (a, (t, c))) refl refl le
body_walk d (stop k state) le = walk_part d (after (port (port_words.Stop k)) a_state) state refl refl le
body_walk d (pad k e a) le = walk_part d (after (port (port_words.Pad k)) pad_part) (e, a) refl refl le
body_walk d (state_list states) le = walk_part d (after (port port_words.State) some_states) states refl refl le
body_walk d (wait_cycles k e u l) le = walk_part d (after (port port_words.Wait) (both first_part (both an_expr (after (join joins.Cycles) (both usec_part last_part))))) (k, (e, (u, l))) refl refl le
body_walk d (wait_usec k e l) le = walk_part d (after (port port_words.Wait) (both first_part (both an_expr (after (join joins.Usec) last_part)))) (k, (e, l)) refl refl le
body_walk d (frequency e) le = walk_part d (after (port port_words.Frequency) frequency_part) e refl refl le
body_walk d (if_then e b) le = (
  (λ e. absurd cc),
  omega arith,
  subst (λ (v : List Symbol). Walk d 0 v 0) (sym (symbols-append (expr_tokens 10 e) (Seen (join joins.Then) ∷ body_tokens b)))
      (walk_on d 0 0 0 (symbols (expr_tokens 10 e)) (join joins.Then ∷ symbols (body_tokens b)) (expr_walk d 0 10 e (omega arith))
      ((λ e. absurd cc), omega arith, body_walk d b (omega arith))),
)

goes_part : {A : Type 0} (p : Part A) (x : A) (s : List Symbol) → fits 0 p ≡ true → part_end 0 p ≡ 0 → IsPart p x s → GoesTo 0 (part_peak 0 p x) 0 s
goes_part p x s e z is = subst (λ (k : ℕ). GoesTo 0 (part_peak 0 p x) k s) z (part_goes 0 p x s e is)

pub body_goes : (s : List Symbol) (b : BodyTree) → IsBody s b → GoesTo 0 (body_peak b) 0 s
unfolding symbol_terminal sign_terminal is_opening is_closing
body_goes s (note key text) is = goes_part (after (outer outer_words.Note) note_part) (key, text) s refl refl is
body_goes s (action v text items) is = goes_part (after (outer outer_words.Action) action_part) (v, (text, items)) s refl refl is
body_goes s (procedure v uses) is = goes_part (after (outer outer_words.Procedure) procedure_part) (v, uses) s refl refl is
body_goes s (data_block v) is = goes_part (after (outer outer_words.Data) a_name) v s refl refl is
body_goes s end_data is = renamed 0 0 0 _ s is (from_flat 0 _ refl)
body_goes s (crc n) is = goes_part (after (outer outer_words.Crc) a_check_word) n s refl refl is
body_goes s end_procedure is = renamed 0 0 0 _ s is (from_flat 0 _ refl)
body_goes s (boolean v start) is = goes_part (after (inner inner_words.Boolean) (both a_name bit_part)) (v, start) s refl refl is
body_goes s (boolean_array v n bits) is = goes_part (after (inner inner_words.Boolean) (both a_name (both size_part bits_part))) (v, (n, bits)) s refl refl is
body_goes s (integer v start) is = goes_part (after (inner inner_words.Integer) (both a_name signed_part)) (v, start) s refl refl is
body_goes s (integer_array v n start) is = goes_part (after (inner inner_words.Integer) (both a_name (both size_part signed_list_part))) (v, (n, start)) s refl refl is
body_goes s (assign v e) is = goes_part (both a_name (after equals an_expr)) (v, e) s refl refl is
body_goes s (assign_element v i e) is = goes_part (both a_name (after left_square (both an_expr (after right_square (after equals an_expr))))) (v, (i, e)) s refl refl is
body_goes s (assign_array v a) is = goes_part (both a_name (after left_square (after right_square (after equals an_array)))) (v, a) s refl refl is
body_goes s (assign_range v h l a) is =
    goes_part (both a_name (after left_square (both an_expr (after dots (both an_expr (after right_square (after equals an_array))))))) (v, (h, (l, a))) s refl refl is
body_goes s (call v) is = goes_part (after (simple simple_words.Call) a_name) v s refl refl is
body_goes s (goto v) is = goes_part (after (simple simple_words.Goto) a_name) v s refl refl is
body_goes s (for_loop v a b c) is = goes_part (after (simple simple_words.For) for_part) (v, (a, (b, c))) s refl refl is
body_goes s (next v) is = goes_part (after (simple simple_words.Next) a_name) v s refl refl is
body_goes s (push e) is = goes_part (after (simple simple_words.Push) an_expr) e s refl refl is
body_goes s (pop e) is = goes_part (after (simple simple_words.Pop) a_cell) e s refl refl is
body_goes s (print parts) is = goes_part (after (simple simple_words.Print) print_part) parts s refl refl is
body_goes s (export key x) is = goes_part (after (simple simple_words.Export) export_part) (key, x) s refl refl is
body_goes s (exit e) is = goes_part (after (simple simple_words.Exit) an_expr) e s refl refl is
body_goes s (scan k e a t c) is = goes_part (after (port (port_words.Scan k)) scan_part) (e, (a, (t, c))) s refl refl is
body_goes s (stop k state) is = goes_part (after (port (port_words.Stop k)) a_state) state s refl refl is
body_goes s (pad k e a) is = goes_part (after (port (port_words.Pad k)) pad_part) (e, a) s refl refl is
body_goes s (state_list states) is = goes_part (after (port port_words.State) some_states) states s refl refl is
body_goes s (wait_cycles k e u l) is = goes_part (after (port port_words.Wait) (both first_part (both an_expr (after (join joins.Cycles) (both usec_part last_part))))) (k, (e, (u, l))) s refl refl is
body_goes s (wait_usec k e l) is = goes_part (after (port port_words.Wait) (both first_part (both an_expr (after (join joins.Usec) last_part)))) (k, (e, l)) s refl refl is
body_goes s (frequency e) is = goes_part (after (port port_words.Frequency) frequency_part) e s refl refl is
body_goes s (if_then e b) is =
    renamed 0 _ 0 _ s is.2
    (less 0 (max (expr_depth 10 e) (body_peak b)) (max 0 (max (expr_depth 10 e) (max 0 (body_peak b)))) 0 _ (omega arith)
    (two 0 0 0 (max (expr_depth 10 e) (max 0 (body_peak b))) 0 (if_word ∷ []) (is.0 ++ join joins.Then ∷ is.1) (from_flat 0 (if_word ∷ []) refl)
    (two 0 (expr_depth 10 e) 0 (max 0 (body_peak b)) 0 is.0 (join joins.Then ∷ is.1)
    (less 0 (expr_depth 10 e) (0 + expr_depth 10 e) 0 is.0 (omega arith) (from_nest 0 (expr_depth 10 e) is.0 (expr_nests 10 10 is.0 e is.3 (omega arith))))
    (two 0 0 0 (body_peak b) 0 (join joins.Then ∷ []) is.1 (from_flat 0 (join joins.Then ∷ []) refl) (body_goes is.1 b is.6)))))

-- ---- labels

labelled_walk : (d : ℕ) (label : Option (List ℕ)) (b : BodyTree) → body_peak b ≤ d → Walk d 0 (symbols (label_tokens label ++ body_tokens b)) 0
unfolding symbol_terminal sign_terminal is_opening is_closing
labelled_walk d None b le = body_walk d b le
labelled_walk d (Some v) b le = ((λ e. absurd cc), omega arith, ((λ e. absurd cc), omega arith, body_walk d b le))

labelled_goes : (s : List Symbol) (label : Option (List ℕ)) (b : BodyTree) → IsLabelled s label b → GoesTo 0 (body_peak b) 0 s
unfolding symbol_terminal sign_terminal is_opening is_closing
labelled_goes s None b is = body_goes s b is
labelled_goes s (Some v) b is =
    renamed 0 _ 0 _ s is.1
    (less 0 (body_peak b) (max 0 (body_peak b)) 0 _ (omega arith)
    (two 0 0 0 (body_peak b) 0 (name v ∷ mark marks.Colon ∷ []) is.0 (from_flat 0 (name v ∷ mark marks.Colon ∷ []) refl) (body_goes is.0 b is.3)))

reached : (d : ℕ) (s : List Symbol) → GoesTo 0 d 0 s → Reaches d s
reached d s g = record { front = g.front; rest = g.rest; parts = g.parts; height = omega (arith, g.top) }

-- where brackets are printed too deep, they are too deep in each other writing
pub no_deeper : (s : List Symbol) (st : StmtTree) → Means s st → OpensMany (symbols (stmt_tokens st)) → OpensMany s
no_deeper s st is many =
    many_by_depth (body_peak st.body) s
    (goes_high (body_peak st.body) 0 (symbols (stmt_tokens st)) (labelled_walk (body_peak st.body) st.label st.body (omega arith)) many)
    (reached (body_peak st.body) s (labelled_goes s st.label st.body is))
