-- Reading parts of statements from left to right.
use Rattle.std.specs.Prelude.{◌≡◌, ◌<◌, Result, Ok, Err, ℕ, ℤ, pos, zero, suc, List, [], ◌∷◌, ◌++◌, length, Option, Some, None, Bool, true, false, codes, if◌then◌else◌}
use Rattle.std.proofs.Common.{inl, inr}
use Rattle.std.specs.Int.{w32, int_wrapping_neg}
use Rattle.std.specs.Option.{option_map_or}
use Rattle.std.specs.Str.{bytes_eq}
use Rattle.stapl_lexer.specs.declared.terminal.BinOp.TheVariants.{Subtract}
use Rattle.stapl_lexer.specs.declared.terminal.Mark.TheVariants as marks
use Rattle.stapl_lexer.specs.declared.terminal.Function.TheVariants as functions
use Rattle.stapl_syntax.specs.declared.signs.Sign.{Sign}
use Rattle.stapl_syntax.specs.declared.signs.Sign.TheVariants as signs
use Rattle.stapl_syntax.specs.declared.statement.ItemChoice.{ItemChoice}
use Rattle.stapl_syntax.specs.Symbols.{Symbol, Plain, Text, CheckWord, sign_of}
use Rattle.stapl_syntax.specs.Trees.{ExprTree, ArrayTree, PartTree, string, value, character, ExportTree, exported_value, exported_array}
use Rattle.stapl_syntax.specs.Parts.{Part, a_name, a_state, a_number, a_signed, a_bit, a_text, a_literal, a_check_word, a_choice, an_expr, an_array, a_cell, a_target, a_print_part, an_export, some_states, after, before, maybe_hz, both, maybe, either, listed}
use Rattle.stapl_grammar.specs.declared.refused.Refused.{Refused}
use Rattle.stapl_grammar.specs.Given.{Fails}
use Rattle.stapl_grammar.specs.Looks.{after_symbol, begins, begins_text, choice_of}
use Rattle.stapl_grammar.specs.Reading.{◌>>=◌, Reader, next_sign, name_at, literal_at, named_by, target_by, array_by, bracketed_by, expr}

unfoldable pub state_of : Sign → Option ℕ
state_of (signs.State k) = Some k
state_of _ = None

unfoldable pub state_at : Reader ℕ
state_at s = do
  g ← next_sign s
  k ← state_of g.0
  Some (k, g.1)

unfoldable pub number_of : Sign → Option ℤ
number_of (signs.Number z) = Some z
number_of _ = None

unfoldable pub number_at : Reader ℤ
number_at s = do
  g ← next_sign s
  z ← number_of g.0
  Some (z, g.1)

-- the symbols after a minus that they begin with
unfoldable pub is_minus : Sign → Bool
is_minus (signs.Operator Subtract) = true
is_minus _ = false

unfoldable pub after_minus : List Symbol → Option (List Symbol)
after_minus [] = None
after_minus (t ∷ s) = if is_minus (sign_of t) then Some s else None

-- a number, or its wrapped negation after a minus
unfoldable pub signed_at : Reader ℤ
signed_at s =
    option_map_or (λ r. number_at r >>= λ x. Some (int_wrapping_neg w32 x.0, x.1)) (after_minus s) (number_at s)

unfoldable pub bit_of : ℤ → Option Bool
bit_of (pos zero) = Some false
bit_of (pos (suc zero)) = Some true
bit_of _ = None

unfoldable pub bit_at : Reader Bool
bit_at s = do
  z ← number_at s
  bit ← bit_of z.0
  Some (bit, z.1)

unfoldable pub text_at : Reader (List ℕ)
text_at (Text bytes ∷ s) = Some (bytes, s)
text_at _ = None

unfoldable pub check_word_at : Reader ℕ
check_word_at (CheckWord n ∷ s) = Some (n, s)
check_word_at _ = None

unfoldable pub choice_at : Reader ItemChoice
choice_at s = do
  g ← next_sign s
  c ← choice_of g.0
  Some (c, g.1)

unfoldable pub array_at : Reader ArrayTree
array_at s = array_by (expr 10) s

unfoldable pub cell_at : Reader ExprTree
cell_at s = name_at s >>= λ v. named_by (expr 10) v.0 v.1

unfoldable pub target_at : Reader ArrayTree
target_at s = name_at s >>= λ v. target_by (expr 10) v.0 v.1

-- the symbols after CHR$, where they begin with it
unfoldable pub is_character : Sign → Bool
is_character (signs.Function functions.Character) = true
is_character _ = false

unfoldable pub after_character : List Symbol → Option (List Symbol)
after_character [] = None
after_character (t ∷ s) = if is_character (sign_of t) then Some s else None

-- a string, a character or an expression
unfoldable pub print_part_at : Reader PartTree
print_part_at s =
    if begins_text s then (text_at s >>= λ x. Some (string x.0, x.1))
    else option_map_or (λ r. bracketed_by (expr 10) r >>= λ x. Some (character x.0, x.1)) (after_character s)
    (expr 10 s >>= λ x. Some (value x.0, x.1))

-- an array, or where none stands there an expression
unfoldable pub export_at : Reader ExportTree
export_at s =
    option_map_or (λ x. Some (exported_array x.0, x.1)) (array_at s) (expr 10 s >>= λ x. Some (exported_value x.0, x.1))

-- values put before those that are read
abbrev pub with_front : {A : Type 0} → List A → Option (List A × List Symbol) → Option (List A × List Symbol)
with_front front read = read >>= λ x. Some (front ++ x.0, x.1)

-- the values that stand after a separator, with at most so many of them
unfoldable pub more_in : {A : Type 0} → ℕ → Reader A → Symbol → Reader (List A)
more_in zero read t s = None
more_in (suc f) read t s =
    option_map_or (λ r. read r >>= λ x. with_front (x.0 ∷ []) (more_in f read t x.1)) (after_symbol t s) (Some ([], s))

unfoldable pub more_by : {A : Type 0} → Reader A → Symbol → Reader (List A)
more_by read t s = more_in (suc (length s)) read t s

unfoldable pub listed_by : {A : Type 0} → Reader A → Symbol → Reader (List A)
listed_by read t s = do
  x ← read s
  with_front (x.0 ∷ []) (more_by read t x.1)

-- states, each but the first after a comma or not
unfoldable pub more_states_at : Reader (List ℕ)
more_states_at [] = Some ([], [])
more_states_at (Plain (signs.State k) ∷ s) = with_front (k ∷ []) (more_states_at s)
more_states_at (Plain (signs.Mark marks.Comma) ∷ Plain (signs.State k) ∷ s) = with_front (k ∷ []) (more_states_at s)
more_states_at (Plain (signs.Mark marks.Comma) ∷ s) = None
more_states_at s = Some ([], s)

unfoldable pub states_at : Reader (List ℕ)
states_at s = do
  k ← state_at s
  with_front (k.0 ∷ []) (more_states_at k.1)

-- whether a sign is the word HZ, which is no reserved word
unfoldable pub is_hz : Sign → Bool
is_hz (signs.Name v) = bytes_eq v (codes "HZ")
is_hz _ = false

-- the symbols after the word HZ, where they begin with it, or all of them
unfoldable pub after_hz : List Symbol → List Symbol
after_hz [] = []
after_hz (t ∷ s) = if is_hz (sign_of t) then s else (t ∷ s)

unfoldable pub part_at : {A : Type 0} → Part A → Reader A
part_at a_name s = name_at s
part_at a_state s = state_at s
part_at a_number s = number_at s
part_at a_signed s = signed_at s
part_at a_bit s = bit_at s
part_at a_text s = text_at s
part_at a_literal s = literal_at s
part_at a_check_word s = check_word_at s
part_at a_choice s = choice_at s
part_at an_expr s = expr 10 s
part_at an_array s = array_at s
part_at a_cell s = cell_at s
part_at a_target s = target_at s
part_at a_print_part s = print_part_at s
part_at an_export s = export_at s
part_at some_states s = states_at s
part_at (after t p) s = after_symbol t s >>= part_at p
part_at (before p t) s = do
  x ← part_at p s
  rest ← after_symbol t x.1
  Some (x.0, rest)
part_at (maybe_hz p) s = part_at p s >>= λ x. Some (x.0, after_hz x.1)
part_at (both p q) s = do
  x ← part_at p s
  y ← part_at q x.1
  Some ((x.0, y.0), y.1)
part_at (maybe p) s = if begins p s then (part_at p s >>= λ x. Some (Some x.0, x.1)) else Some (None, s)
part_at (either p q) s =
    if begins p s then (part_at p s >>= λ x. Some (inl x.0, x.1)) else (part_at q s >>= λ x. Some (inr x.0, x.1))
part_at (listed t p) s = listed_by (part_at p) t s

-- What a step through states gave: the next state, nothing where the states end, or an error where a comma stands and
-- no state after it.
abbrev pub StepsOn : Result (Option ℕ) Refused → List Symbol → List Symbol → Type 0
StepsOn (Ok (Some k)) old new = (more_states_at old ≡ with_front (k ∷ []) (more_states_at new)) × (length new < length old)
StepsOn (Ok None) old new = (more_states_at old ≡ Some ([], old)) × (new ≡ old)
StepsOn (Err e) old new = Fails e (more_states_at old)
