-- The parts that statements are made of, how each is written, and what stands after the first word of each statement
-- (JESD71, statements).
use Rattle.std.specs.Prelude.{◌≡◌, ℕ, ℤ, pos, List, [], ◌∷◌, ◌++◌, Option, Some, None, Bool, true, false, ◌⊎◌, codes}
use Rattle.std.proofs.Common.{inl, inr}
use Rattle.std.specs.Int.{w32, int_wrapping_neg}
use Rattle.stapl_lexer.specs.declared.terminal.BinOp.TheVariants.{Subtract}
use Rattle.stapl_lexer.specs.declared.terminal.Mark.TheVariants as marks
use Rattle.stapl_lexer.specs.declared.terminal.JoinWord.{JoinWord}
use Rattle.stapl_lexer.specs.declared.terminal.JoinWord.TheVariants as joins
use Rattle.stapl_lexer.specs.declared.terminal.Function.TheVariants as functions
use Rattle.stapl_syntax.specs.declared.signs.Sign.TheVariants as signs
use Rattle.stapl_syntax.specs.declared.statement.ItemChoice.{ItemChoice}
use Rattle.stapl_syntax.specs.declared.statement.ItemChoice.TheVariants as choices
use Rattle.stapl_syntax.specs.Symbols.{Symbol, Plain, Text, Literal, CheckWord}
use Rattle.stapl_syntax.specs.Trees.{ExprTree, ArrayTree, ItemTree, CompareTree, PartTree, string, value, character, ExportTree, exported_value, exported_array}
use Rattle.stapl_syntax.specs.Expressions.{IsExpr, IsArray, IsTarget, IsCell, operator, mark, function, name, left_round, right_round, left_square, right_square}

-- ---- parts without choices

-- a number, or a minus and a number
pub data IsSigned : List Symbol → ℤ → Type 0 where
  unsigned : {z : ℤ} → IsSigned (Plain (signs.Number z) ∷ []) z
  minus : {z : ℤ} → IsSigned (operator Subtract ∷ Plain (signs.Number z) ∷ []) (int_wrapping_neg w32 z)

-- the number 0 or 1
pub data IsBit : List Symbol → Bool → Type 0 where
  zero_bit : IsBit (Plain (signs.Number (pos 0)) ∷ []) false
  one_bit : IsBit (Plain (signs.Number (pos 1)) ∷ []) true

-- OPTIONAL or RECOMMENDED
pub data IsChoice : List Symbol → ItemChoice → Type 0 where
  optional_item : IsChoice (Plain (signs.Join joins.Optional) ∷ []) choices.Optional
  recommended_item : IsChoice (Plain (signs.Join joins.Recommended) ∷ []) choices.Recommended

-- a part of what PRINT prints
pub data IsPrintPart : List Symbol → PartTree → Type 0 where
  of_string : {bytes : List ℕ} → IsPrintPart (Text bytes ∷ []) (string bytes)
  of_value : {s : List Symbol} {e : ExprTree} → IsExpr 10 s e → IsPrintPart s (value e)
  of_character : {s : List Symbol} {e : ExprTree} → IsExpr 10 s e →
      IsPrintPart (function functions.Character ∷ left_round ∷ (s ++ right_round ∷ [])) (character e)

-- what EXPORT exports: an expression or an array
pub data IsExported : List Symbol → ExportTree → Type 0 where
  of_exported_value : {s : List Symbol} {e : ExprTree} → IsExpr 10 s e → IsExported s (exported_value e)
  of_exported_array : {s : List Symbol} {a : ArrayTree} → IsArray s a → IsExported s (exported_array a)

-- states, with or without a comma between two of them
pub data AreStates : List Symbol → List ℕ → Type 0 where
  one_state : {k : ℕ} → AreStates (Plain (signs.State k) ∷ []) (k ∷ [])
  more_states : {k : ℕ} {s : List Symbol} {ks : List ℕ} → AreStates s ks →
      AreStates (Plain (signs.State k) ∷ s) (k ∷ ks)
  more_after_comma : {k : ℕ} {s : List Symbol} {ks : List ℕ} → AreStates s ks →
      AreStates (Plain (signs.State k) ∷ mark marks.Comma ∷ s) (k ∷ ks)

-- ---- all parts

-- A part, by the type of its value.
pub data Part : Type 0 → Type 1 where
  a_name : Part (List ℕ)
  a_state : Part ℕ
  a_number : Part ℤ
  a_signed : Part ℤ
  a_bit : Part Bool
  a_text : Part (List ℕ)
  a_literal : Part (List Bool)
  a_check_word : Part ℕ
  a_choice : Part ItemChoice
  an_expr : Part ExprTree
  an_array : Part ArrayTree
  a_cell : Part ExprTree
  a_target : Part ArrayTree
  a_print_part : Part PartTree
  an_export : Part ExportTree
  some_states : Part (List ℕ)
  -- the symbol, and then the part
  after : {A : Type 0} → Symbol → Part A → Part A
  -- the part, and then the symbol
  before : {A : Type 0} → Part A → Symbol → Part A
  -- the part, and then the word HZ or not; it is no reserved word
  maybe_hz : {A : Type 0} → Part A → Part A
  -- one part, and then another
  both : {A B : Type 0} → Part A → Part B → Part (A × B)
  -- the part, or nothing
  maybe : {A : Type 0} → Part A → Part (Option A)
  -- one of two parts
  either : {A B : Type 0} → Part A → Part B → Part (A ⊎ B)
  -- the part once or more, with the symbol between each two
  listed : {A : Type 0} → Symbol → Part A → Part (List A)

-- a value, or none and no symbols
abbrev pub optional : {A : Type 0} → (A → List Symbol → Type 0) → Option A → List Symbol → Type 0
optional P None s = s ≡ []
optional P (Some x) s = P x s

-- a value of one of two kinds
abbrev pub one_of : {A B : Type 0} → (A → List Symbol → Type 0) → (B → List Symbol → Type 0) → (A ⊎ B) → List Symbol → Type 0
one_of P Q (inl x) s = P x s
one_of P Q (inr y) s = Q y s

-- the symbols are these values, with the symbol between each two
abbrev pub Separated : {A : Type 0} → (A → List Symbol → Type 0) → Symbol → List A → List Symbol → Type 0
Separated P t [] s = ⊥
Separated P t (x ∷ []) s = P x s
Separated P t (x ∷ y ∷ ys) s = (a : List Symbol) × (b : List Symbol) × (s ≡ a ++ (t ∷ b)) × P x a × Separated P t (y ∷ ys) b

-- the word HZ
abbrev pub hz : Symbol
hz = name (codes "HZ")

-- the symbols are the part, with this value
abbrev pub IsPart : {A : Type 0} → Part A → A → List Symbol → Type 0
IsPart a_name v s = s ≡ name v ∷ []
IsPart a_state k s = s ≡ Plain (signs.State k) ∷ []
IsPart a_number z s = s ≡ Plain (signs.Number z) ∷ []
IsPart a_signed z s = IsSigned s z
IsPart a_bit bit s = IsBit s bit
IsPart a_text bytes s = s ≡ Text bytes ∷ []
IsPart a_literal bits s = s ≡ Literal bits ∷ []
IsPart a_check_word n s = s ≡ CheckWord n ∷ []
IsPart a_choice c s = IsChoice s c
IsPart an_expr e s = IsExpr 10 s e
IsPart an_array a s = IsArray s a
IsPart a_cell e s = IsCell s e
IsPart a_target a s = IsTarget s a
IsPart a_print_part x s = IsPrintPart s x
IsPart an_export x s = IsExported s x
IsPart some_states ks s = AreStates s ks
IsPart (after t p) x s = (r : List Symbol) × (s ≡ t ∷ r) × IsPart p x r
IsPart (before p t) x s = (r : List Symbol) × (s ≡ r ++ (t ∷ [])) × IsPart p x r
IsPart (maybe_hz p) x s = IsPart p x s ⊎ ((r : List Symbol) × (s ≡ r ++ (hz ∷ [])) × IsPart p x r)
IsPart (both p q) x s = (a : List Symbol) × (b : List Symbol) × (s ≡ a ++ b) × IsPart p x.0 a × IsPart q x.1 b
IsPart (maybe p) x s = optional (IsPart p) x s
IsPart (either p q) x s = one_of (IsPart p) (IsPart q) x s
IsPart (listed t p) xs s = Separated (IsPart p) t xs s

-- ---- what stands after the first word of a statement

-- a comma
abbrev pub comma : Symbol
comma = mark marks.Comma

-- the mark "="
abbrev pub equals : Symbol
equals = mark marks.Equals

-- a word that stands inside statements
abbrev pub join : JoinWord → Symbol
join w = Plain (signs.Join w)

-- ---- statements outside blocks

-- NOTE string string
abbrev pub note_part : Part (List ℕ × List ℕ)
note_part = both a_text a_text

-- name [OPTIONAL | RECOMMENDED]
abbrev pub item_part : Part ItemTree
item_part = both a_name (maybe a_choice)

-- ACTION name [string] "=" item {"," item}
abbrev pub action_part : Part (List ℕ × (Option (List ℕ) × List ItemTree))
action_part = both a_name (both (maybe a_text) (after equals (listed comma item_part)))

-- [USES name {"," name}]
abbrev pub uses_part : Part (Option (List (List ℕ)))
uses_part = maybe (after (join joins.Uses) (listed comma a_name))

-- PROCEDURE name [USES name {"," name}]
abbrev pub procedure_part : Part (List ℕ × Option (List (List ℕ)))
procedure_part = both a_name uses_part

-- ---- declarations

-- "[" number "]"
abbrev pub size_part : Part ℤ
size_part = after left_square (before a_number right_square)

-- ["=" bit]
abbrev pub bit_part : Part (Option Bool)
bit_part = maybe (after equals a_bit)

-- ["=" literal]
abbrev pub bits_part : Part (Option (List Bool))
bits_part = maybe (after equals a_literal)

-- ["=" signed]
abbrev pub signed_part : Part (Option ℤ)
signed_part = maybe (after equals a_signed)

-- ["=" signed {"," signed}]
abbrev pub signed_list_part : Part (Option (List ℤ))
signed_list_part = maybe (after equals (listed comma a_signed))

-- ---- statements that may stand after THEN

-- [STEP expr]
abbrev pub step_part : Part (Option ExprTree)
step_part = maybe (after (join joins.Step) an_expr)

-- FOR name "=" expr TO expr [STEP expr]
abbrev pub for_part : Part (List ℕ × (ExprTree × (ExprTree × Option ExprTree)))
for_part = both a_name (after equals (both an_expr (after (join joins.To) (both an_expr step_part))))

-- PRINT part {"," part}
abbrev pub print_part : Part (List PartTree)
print_part = listed comma a_print_part

-- EXPORT string "," (expr | array)
abbrev pub export_part : Part (List ℕ × ExportTree)
export_part = both a_text (after comma an_export)

-- ---- statements that drive the test access port

-- ["," CAPTURE target]
abbrev pub capture_part : Part (Option ArrayTree)
capture_part = maybe (after comma (after (join joins.Capture) a_target))

-- array "," array "," cell
abbrev pub compared_part : Part CompareTree
compared_part = both an_array (after comma (both an_array (after comma a_cell)))

-- ["," COMPARE array "," array "," cell]
abbrev pub compare_part : Part (Option CompareTree)
compare_part = maybe (after comma (after (join joins.Compare) compared_part))

-- (DRSCAN | IRSCAN) expr "," array ["," CAPTURE target] ["," COMPARE array "," array "," cell]
abbrev pub scan_part : Part (ExprTree × (ArrayTree × (Option ArrayTree × Option CompareTree)))
scan_part = both an_expr (after comma (both an_array (both capture_part compare_part)))

-- (PREDR | POSTDR | PREIR | POSTIR) expr ["," array]
abbrev pub pad_part : Part (ExprTree × Option ArrayTree)
pad_part = both an_expr (maybe (after comma an_array))

-- ["," state]
abbrev pub last_part : Part (Option ℕ)
last_part = maybe (after comma a_state)

-- ["," expr USEC]
abbrev pub usec_part : Part (Option ExprTree)
usec_part = maybe (after comma (before an_expr (join joins.Usec)))

-- [state ","]
abbrev pub first_part : Part (Option ℕ)
first_part = maybe (before a_state comma)

-- FREQUENCY [expr [HZ]]
abbrev pub frequency_part : Part (Option ExprTree)
frequency_part = maybe (maybe_hz an_expr)
