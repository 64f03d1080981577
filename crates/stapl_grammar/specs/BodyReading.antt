-- Reading statements from left to right. Productions that begin alike are read together.
use Rattle.std.specs.Prelude.{ℕ, ℤ, zero, suc, List, length, Option, Some, None, Bool, ◌⊎◌, if◌then◌else◌}
use Rattle.std.proofs.Common.{inl, inr}
use Rattle.std.specs.Option.{option_map_or}
use Rattle.stapl_lexer.specs.declared.terminal.Mark.TheVariants as marks
use Rattle.stapl_lexer.specs.declared.terminal.Register.{Register}
use Rattle.stapl_lexer.specs.declared.terminal.Padding.{Padding}
use Rattle.stapl_lexer.specs.declared.terminal.JoinWord.TheVariants as joins
use Rattle.stapl_lexer.specs.declared.terminal.OuterWord.{OuterWord}
use Rattle.stapl_lexer.specs.declared.terminal.OuterWord.TheVariants as outer_words
use Rattle.stapl_lexer.specs.declared.terminal.InnerWord.{InnerWord}
use Rattle.stapl_lexer.specs.declared.terminal.InnerWord.TheVariants as inner_words
use Rattle.stapl_lexer.specs.declared.terminal.SimpleWord.{SimpleWord}
use Rattle.stapl_lexer.specs.declared.terminal.SimpleWord.TheVariants as simple_words
use Rattle.stapl_lexer.specs.declared.terminal.PortWord.{PortWord}
use Rattle.stapl_lexer.specs.declared.terminal.PortWord.TheVariants as port_words
use Rattle.stapl_syntax.specs.declared.signs.Sign.{Sign}
use Rattle.stapl_syntax.specs.declared.signs.Sign.TheVariants as signs
use Rattle.stapl_syntax.specs.Symbols.{Symbol}
use Rattle.stapl_syntax.specs.Trees.{ExprTree, ArrayTree, ItemTree, ExportTree, CompareTree, BodyTree, note, action, procedure, data_block, end_data, crc, end_procedure, boolean, boolean_array, integer, integer_array, assign, assign_element, assign_array, assign_range, call, goto, if_then, for_loop, next, push, pop, print, export, exit, scan, stop, pad, state_list, wait_cycles, wait_usec, frequency}
use Rattle.stapl_syntax.specs.Expressions.{left_square, right_square, dots}
use Rattle.stapl_syntax.specs.Parts.{Part, a_name, a_state, a_check_word, an_expr, an_array, a_cell, some_states, after, both, either, equals, join, note_part, action_part, procedure_part, size_part, bit_part, bits_part, signed_part, signed_list_part, for_part, print_part, export_part, scan_part, pad_part, last_part, usec_part, first_part, frequency_part}
use Rattle.stapl_grammar.specs.Looks.{begins_anything, after_mark, after_join}
use Rattle.stapl_grammar.specs.Reading.{◌>>=◌, Reader, next_sign, name_at, expr}
use Rattle.stapl_grammar.specs.PartReading.{part_at}

-- what is read, made into something else
abbrev pub mapped : {A B : Type 0} → (A → B) → Option (A × List Symbol) → Option (B × List Symbol)
mapped f read = read >>= λ x. Some (f x.0, x.1)

-- ---- statements outside procedures

abbrev pub note_of : List ℕ × List ℕ → BodyTree
note_of x = note x.0 x.1

abbrev pub action_of : List ℕ × (Option (List ℕ) × List ItemTree) → BodyTree
action_of x = action x.0 x.1.0 x.1.1

abbrev pub procedure_of : List ℕ × Option (List (List ℕ)) → BodyTree
procedure_of x = procedure x.0 x.1

unfoldable pub outer_from : OuterWord → Reader BodyTree
outer_from outer_words.Note s = mapped note_of (part_at note_part s)
outer_from outer_words.Action s = mapped action_of (part_at action_part s)
outer_from outer_words.Procedure s = mapped procedure_of (part_at procedure_part s)
outer_from outer_words.Data s = mapped data_block (part_at a_name s)
outer_from outer_words.EndData s = Some (end_data, s)
outer_from outer_words.Crc s = mapped crc (part_at a_check_word s)

-- ---- ENDPROC and declarations

-- BOOLEAN name, and then "[" number "]" ["=" literal] | ["=" bit]
abbrev pub boolean_part : Part (List ℕ × ((ℤ × Option (List Bool)) ⊎ Option Bool))
boolean_part = both a_name (either (both size_part bits_part) bit_part)

-- INTEGER name, and then "[" number "]" ["=" signed {"," signed}] | ["=" signed]
abbrev pub integer_part : Part (List ℕ × ((ℤ × Option (List ℤ)) ⊎ Option ℤ))
integer_part = both a_name (either (both size_part signed_list_part) signed_part)

abbrev pub boolean_with : List ℕ → ((ℤ × Option (List Bool)) ⊎ Option Bool) → BodyTree
boolean_with v (inl x) = boolean_array v x.0 x.1
boolean_with v (inr start) = boolean v start

abbrev pub integer_with : List ℕ → ((ℤ × Option (List ℤ)) ⊎ Option ℤ) → BodyTree
integer_with v (inl x) = integer_array v x.0 x.1
integer_with v (inr start) = integer v start

abbrev pub boolean_of : List ℕ × ((ℤ × Option (List Bool)) ⊎ Option Bool) → BodyTree
boolean_of x = boolean_with x.0 x.1

abbrev pub integer_of : List ℕ × ((ℤ × Option (List ℤ)) ⊎ Option ℤ) → BodyTree
integer_of x = integer_with x.0 x.1

unfoldable pub inner_from : InnerWord → Reader BodyTree
inner_from inner_words.EndProcedure s = Some (end_procedure, s)
inner_from inner_words.Boolean s = mapped boolean_of (part_at boolean_part s)
inner_from inner_words.Integer s = mapped integer_of (part_at integer_part s)

-- ---- assignments

-- After a name, its bracket and an expression: ".." expr "]" "=" array | "]" "=" expr
abbrev pub range_or_element_part : Part ((ExprTree × ArrayTree) ⊎ ExprTree)
range_or_element_part =
    either (after dots (both an_expr (after right_square (after equals an_array))))
    (after right_square (after equals an_expr))

-- After a name and its bracket: "]" "=" array | expr ".." expr "]" "=" array | expr "]" "=" expr
abbrev pub indexed_part : Part (ArrayTree ⊎ (ExprTree × ((ExprTree × ArrayTree) ⊎ ExprTree)))
indexed_part =
    either (after right_square (after equals an_array)) (both an_expr range_or_element_part)

-- After a name: "=" expr, or one of those after "["
abbrev pub assign_part : Part (ExprTree ⊎ (ArrayTree ⊎ (ExprTree × ((ExprTree × ArrayTree) ⊎ ExprTree))))
assign_part = either (after equals an_expr) (after left_square indexed_part)

abbrev pub range_or_element_of : List ℕ → ExprTree → ((ExprTree × ArrayTree) ⊎ ExprTree) → BodyTree
range_or_element_of v first (inl x) = assign_range v first x.0 x.1
range_or_element_of v first (inr e) = assign_element v first e

abbrev pub indexed_of : List ℕ → (ArrayTree ⊎ (ExprTree × ((ExprTree × ArrayTree) ⊎ ExprTree))) → BodyTree
indexed_of v (inl a) = assign_array v a
indexed_of v (inr x) = range_or_element_of v x.0 x.1

abbrev pub assign_of : List ℕ → (ExprTree ⊎ (ArrayTree ⊎ (ExprTree × ((ExprTree × ArrayTree) ⊎ ExprTree)))) → BodyTree
assign_of v (inl e) = assign v e
assign_of v (inr x) = indexed_of v x

-- ---- other statements that may stand after THEN

abbrev pub for_of : List ℕ × (ExprTree × (ExprTree × Option ExprTree)) → BodyTree
for_of x = for_loop x.0 x.1.0 x.1.1.0 x.1.1.1

abbrev pub export_of : List ℕ × ExportTree → BodyTree
export_of x = export x.0 x.1

-- after IF, given a reader for the statement after THEN
unfoldable pub if_from : Reader BodyTree → Reader BodyTree
if_from inner s = do
  c ← expr 10 s
  rest ← after_join joins.Then c.1
  b ← inner rest
  Some (if_then c.0 b.0, b.1)

-- a statement after its first word
unfoldable pub simple_word_from : SimpleWord → Reader BodyTree
simple_word_from simple_words.Call s = mapped call (part_at a_name s)
simple_word_from simple_words.Goto s = mapped goto (part_at a_name s)
simple_word_from simple_words.For s = mapped for_of (part_at for_part s)
simple_word_from simple_words.Next s = mapped next (part_at a_name s)
simple_word_from simple_words.Push s = mapped push (part_at an_expr s)
simple_word_from simple_words.Pop s = mapped pop (part_at a_cell s)
simple_word_from simple_words.Print s = mapped print (part_at print_part s)
simple_word_from simple_words.Export s = mapped export_of (part_at export_part s)
simple_word_from simple_words.Exit s = mapped exit (part_at an_expr s)

-- ---- statements that drive the test access port

-- CYCLES ["," expr USEC] ["," state] | USEC ["," state]
abbrev pub units_part : Part ((Option ExprTree × Option ℕ) ⊎ Option ℕ)
units_part =
    either (after (join joins.Cycles) (both usec_part last_part)) (after (join joins.Usec) last_part)

-- WAIT [state ","] expr, and then one of the units
abbrev pub wait_part : Part (Option ℕ × (ExprTree × ((Option ExprTree × Option ℕ) ⊎ Option ℕ)))
wait_part = both first_part (both an_expr units_part)

abbrev pub scan_of : Register → ExprTree × (ArrayTree × (Option ArrayTree × Option CompareTree)) → BodyTree
scan_of k x = scan k x.0 x.1.0 x.1.1.0 x.1.1.1

abbrev pub pad_of : Padding → ExprTree × Option ArrayTree → BodyTree
pad_of k x = pad k x.0 x.1

abbrev pub wait_with : Option ℕ → ExprTree → ((Option ExprTree × Option ℕ) ⊎ Option ℕ) → BodyTree
wait_with k e (inl x) = wait_cycles k e x.0 x.1
wait_with k e (inr l) = wait_usec k e l

abbrev pub wait_of : Option ℕ × (ExprTree × ((Option ExprTree × Option ℕ) ⊎ Option ℕ)) → BodyTree
wait_of x = wait_with x.0 x.1.0 x.1.1

unfoldable pub port_from : PortWord → Reader BodyTree
port_from (port_words.Scan k) s = mapped (scan_of k) (part_at scan_part s)
port_from (port_words.Stop k) s = mapped (stop k) (part_at a_state s)
port_from (port_words.Pad k) s = mapped (pad_of k) (part_at pad_part s)
port_from port_words.State s = mapped state_list (part_at some_states s)
port_from port_words.Wait s = mapped wait_of (part_at wait_part s)
port_from port_words.Frequency s = mapped frequency (part_at frequency_part s)

-- ---- all statements

-- after the first sign: a statement that may stand after THEN
unfoldable pub simple_from : Reader BodyTree → Sign → Reader BodyTree
simple_from inner (signs.Name v) s = mapped (assign_of v) (part_at assign_part s)
simple_from inner (signs.Simple w) s = simple_word_from w s
simple_from inner signs.If s = if_from inner s
simple_from inner (signs.Port w) s = port_from w s
simple_from inner _ s = None

abbrev pub simple_by : Reader BodyTree → Reader BodyTree
simple_by inner s = next_sign s >>= λ g. simple_from inner g.0 g.1

-- with at most so many statements inside one another
unfoldable pub simple_in : ℕ → Reader BodyTree
simple_in zero s = None
simple_in (suc f) s = simple_by (simple_in f) s

unfoldable pub simple_at : Reader BodyTree
simple_at s = simple_in (suc (length s)) s

-- after the first sign: a statement that may bear a label
unfoldable pub labelled_from : Sign → Reader BodyTree
labelled_from (signs.Inner w) s = inner_from w s
labelled_from sign s = simple_from simple_at sign s

abbrev pub labelled_at : Reader BodyTree
labelled_at s = next_sign s >>= λ g. labelled_from g.0 g.1

-- after the first sign: a statement
unfoldable pub any_from : Sign → Reader BodyTree
any_from (signs.Outer w) s = outer_from w s
any_from sign s = labelled_from sign s

abbrev pub any_at : Reader BodyTree
any_at s = next_sign s >>= λ g. any_from g.0 g.1

-- the label before a statement, if there is one, and what stands after it
unfoldable pub label_at : List Symbol → Option (List ℕ) × List Symbol
label_at s =
    option_map_or (λ v. option_map_or (λ r. (Some v.0, r)) (after_mark marks.Colon v.1) (None, s)) (name_at s) (None, s)

unfoldable pub after_label_at : Option (List ℕ) → Reader BodyTree
after_label_at None s = any_at s
after_label_at (Some v) s = labelled_at s

-- the same, with the label
abbrev pub with_label_at : Option (List ℕ) → Reader (Option (List ℕ) × BodyTree)
with_label_at label s = mapped (λ b. (label, b)) (after_label_at label s)

-- all of the symbols
unfoldable pub statement_of : List Symbol → Option (Option (List ℕ) × BodyTree)
statement_of s = do
  st ← with_label_at (label_at s).0 (label_at s).1
  if begins_anything st.1 then None else Some st.0
