-- A program gives the compiler what it asks for.
use Rattle.std.proofs.Common.{◌≡◌, ℕ, ◌≤◌, Bool, true, false, ◌||◌, if◌then◌else◌, List, [], ◌∷◌, ◌++◌, Option, None, Some, length, drop, get_or, arith, refl, sym, ap, subst, ◌∙◌, true≢false}
use Rattle.std.specs.Prelude.{All, IfSome, sum_by}
use Rattle.std.proofs.lemmas.List.{append-nil}
use Rattle.std.proofs.lemmas.List.Elements.{All-nil, All-cons, All-head, All-tail, All-append, All-weaker}
use Rattle.std.proofs.lemmas.List.Sums.{sum_by-cons}
use Rattle.stapl_lexer.specs.Pieces.{text_limit}
use Rattle.stapl_syntax.specs.Trees.{ArrayTree, literal, PartTree, string, value, character, CompareTree, BodyTree, end_data, boolean, boolean_array, integer, integer_array, assign, assign_element, assign_array, assign_range, if_then, for_loop, push, pop, print, exported_value, exported_array, export, exit, scan, pad, scalar, element, wait_cycles, wait_usec, frequency, StmtTree}
use Rattle.stapl_shapes.specs.Shapes.{is_outer_shape, is_inner_shape, HasShape}
use Rattle.stapl_syntax.specs.Programs.{IsProgram}
use Rattle.stapl_shapes.specs.Sizes.{body_size, statements_size}
use Rattle.stapl_syntax.specs.Contents.{IsWellNamed, IsShortPart, PrintsShortStrings, AreLiteralBits, HoldsLiteral, HoldsBoth, HoldsLiterals}
use Rattle.stapl_meaning.specs.Turns.{rows}
use Rattle.stapl_meaning.specs.Scopes.{data_after, plays, idle, pieces_from, has_initial_value, Preset, preset_of, presets_from, Played, as_played}
use Rattle.stapl_meaning.specs.Typed.{IsTypedPreset, IsTyped}
use Rattle.stapl_meaning.proofs.Blocks.{preset_in}
use Rattle.stapl_code.specs.Ranges.{IsLiteral}
use Rattle.stapl_codegen.specs.Emit.{part_texts, array_literals, given_literals, compare_literals, row_texts, row_literals, rows_items, preset_items, statements_items, first_items, pieces_items, texts_of, literals_of}
use Rattle.stapl_codegen.specs.Accepted.{preset_size, IsAccepted}
use Rattle.stapl_codegen.specs.Correct.{Starts, AllStart}
use Rattle.stapl_codegen.proofs.Drafts.{one_row}

-- what holds of the items of each row holds of those of the program
module _ {A : Type 0} (of : BodyTree → List A) (P : A → Type 0) (Q : BodyTree → Type 0) (row : (b : BodyTree) → Q b → All P (rows_items of (rows b))) where
  all_items : (sts : List StmtTree) → All (λ (st : StmtTree). Q st.body) sts → All P (statements_items of sts)
  all_items [] each = All-nil P
  all_items (st ∷ rest) each =
      let R : StmtTree → Type 0 = λ st. Q st.body in
      All-append P (rows_items of (rows st.body)) (statements_items of rest) (row st.body (All-head R st rest each)) (all_items rest (All-tail R st rest each))

-- the texts of a program are the strings that it prints, and its literals are those of its statements
module _ (n : ℕ) where
  abbrev IsShort : List ℕ → Type 0
  IsShort text = length text ≤ n

  short_parts : (list : List PartTree) → All (IsShortPart n) list → All IsShort (part_texts list)
  short_parts [] short = All-nil IsShort
  short_parts (string bytes ∷ list) short =
      All-cons IsShort bytes (part_texts list) (All-head (IsShortPart n) (string bytes) list short) (short_parts list (All-tail (IsShortPart n) (string bytes) list short))
  short_parts (value e ∷ list) short = short_parts list (All-tail (IsShortPart n) (value e) list short)
  short_parts (character e ∷ list) short = short_parts list (All-tail (IsShortPart n) (character e) list short)

  short_body : (body : BodyTree) → PrintsShortStrings n body → All IsShort (rows_items row_texts (rows body))
  short_body (print list) short = All-append IsShort (part_texts list) [] (short_parts list short) (All-nil IsShort)
  short_body (export key x) short = All-cons IsShort key [] short (All-nil IsShort)
  short_body (if_then e body) short = short_body body short
  short_body (boolean name None) short = All-nil IsShort
  short_body (boolean name (Some b)) short = All-nil IsShort
  short_body (boolean_array name size None) short = All-nil IsShort
  short_body (boolean_array name size (Some bits)) short = All-nil IsShort
  short_body (integer name None) short = All-nil IsShort
  short_body (integer name (Some z)) short = All-nil IsShort
  short_body (integer_array name size None) short = All-nil IsShort
  short_body (integer_array name size (Some zs)) short = All-nil IsShort
  short_body _ short = All-nil IsShort

  one_literal : (bits : List Bool) → AreLiteralBits n bits → All (AreLiteralBits n) (bits ∷ [])
  one_literal bits are = All-cons (AreLiteralBits n) bits [] are (All-nil (AreLiteralBits n))

  held_array : (a : ArrayTree) → HoldsLiteral n a → All (AreLiteralBits n) (array_literals a)
  held_array (literal bits) holds = one_literal bits holds
  held_array _ holds = All-nil (AreLiteralBits n)

  held_both : (expected mask : ArrayTree) → HoldsLiteral n expected × HoldsLiteral n mask → All (AreLiteralBits n) (array_literals expected ++ array_literals mask)
  held_both expected mask holds = All-append (AreLiteralBits n) (array_literals expected) (array_literals mask) (held_array expected holds.0) (held_array mask holds.1)

  held_compare : (compare : Option CompareTree) → IfSome compare (HoldsBoth n) → All (AreLiteralBits n) (compare_literals compare)
  held_compare None holds = All-nil (AreLiteralBits n)
  held_compare (Some (expected, (mask, scalar name))) holds = held_both expected mask holds
  held_compare (Some (expected, (mask, element name index))) holds = held_both expected mask holds
  held_compare (Some (expected, (mask, _))) holds = All-nil (AreLiteralBits n)

  held_given : (a : Option ArrayTree) → IfSome a (HoldsLiteral n) → All (AreLiteralBits n) (given_literals a)
  held_given None holds = All-nil (AreLiteralBits n)
  held_given (Some a) holds = held_array a holds

  held_body : (body : BodyTree) → HoldsLiterals n body → All (AreLiteralBits n) (rows_items row_literals (rows body))
  held_body (boolean_array name size (Some bits)) holds = one_literal bits holds
  held_body (assign_array name a) holds = All-append (AreLiteralBits n) (array_literals a) [] (held_array a holds) (All-nil (AreLiteralBits n))
  held_body (assign_range name high low a) holds = All-append (AreLiteralBits n) (array_literals a) [] (held_array a holds) (All-nil (AreLiteralBits n))
  held_body (export key (exported_value e)) holds = All-nil (AreLiteralBits n)
  held_body (export key (exported_array a)) holds = All-append (AreLiteralBits n) (array_literals a) [] (held_array a holds) (All-nil (AreLiteralBits n))
  held_body (scan register count source target compare) holds =
      let all : List (List Bool) = array_literals source ++ compare_literals compare in
      let both = All-append (AreLiteralBits n) (array_literals source) (compare_literals compare) (held_array source holds.0) (held_compare compare holds.1) in
      All-append (AreLiteralBits n) all [] both (All-nil (AreLiteralBits n))
  held_body (pad which count bits) holds = All-append (AreLiteralBits n) (given_literals bits) [] (held_given bits holds) (All-nil (AreLiteralBits n))
  held_body (if_then e body) holds = held_body body holds
  held_body (boolean name None) holds = All-nil (AreLiteralBits n)
  held_body (boolean name (Some b)) holds = All-nil (AreLiteralBits n)
  held_body (boolean_array name size None) holds = All-nil (AreLiteralBits n)
  held_body (integer name None) holds = All-nil (AreLiteralBits n)
  held_body (integer name (Some z)) holds = All-nil (AreLiteralBits n)
  held_body (integer_array name size None) holds = All-nil (AreLiteralBits n)
  held_body (integer_array name size (Some zs)) holds = All-nil (AreLiteralBits n)
  held_body _ holds = All-nil (AreLiteralBits n)

module _ (n : ℕ) (short : n ≤ text_limit) where
  weaker : (texts : List (List ℕ)) → All (IsShort n) texts → All (λ text. length text ≤ text_limit) texts
  weaker texts all = λ k d below. let own = all k d below in omega (arith, short, own)

  few_bits : (literals : List (List Bool)) → All (AreLiteralBits n) literals → All IsLiteral literals
  few_bits literals all = λ k d below. record { some = (all k d below).some; few = omega (arith, (all k d below).few, short) }

-- what holds of each statement and of an idle one holds of the pieces, and of the initial values of DATA blocks
module _ (P : BodyTree → Type 0) where
  abbrev Holds : StmtTree → Type 0
  Holds st = P st.body

  pub pieces_all : P end_data → (now : Option (List ℕ)) (rest : List StmtTree) → All Holds rest → All Holds (pieces_from now rest)
  pieces_all none now [] each = All-nil Holds
  pieces_all none now (st ∷ rest) each =
      All-cons Holds (if plays now st.body then st else idle) (pieces_from (data_after now st.body) rest) (by (plays now st.body))
      (pieces_all none (data_after now st.body) rest (All-tail Holds st rest each))
    where
      by : (b : Bool) → Holds (if b then st else idle)
      by true = All-head Holds st rest each
      by false = none

  abbrev HoldsOf : Option Preset → Type 0
  HoldsOf o = IfSome o (λ (preset : Preset). P preset.body)

  pub presets_all : (now : Option (List ℕ)) (rest : List StmtTree) → All Holds rest → All HoldsOf (presets_from now rest)
  presets_all now [] each = All-nil HoldsOf
  presets_all now (st ∷ rest) each =
      All-cons HoldsOf (preset_of now st.body) (presets_from (data_after now st.body) rest) (by (preset_of now st.body) refl)
      (presets_all (data_after now st.body) rest (All-tail Holds st rest each))
    where
      by : (o : Option Preset) → preset_of now st.body ≡ o → HoldsOf o
      by None e = tt
      by (Some preset) e = subst P (sym (preset_in now st.body preset e).is) (All-head Holds st rest each)

-- the same of the items of rows
module _ {A : Type 0} (of : BodyTree → List A) (P : A → Type 0) (Q : BodyTree → Type 0) (row : (b : BodyTree) → Q b → All P (rows_items of (rows b))) where
  abbrev OfPreset : Option Preset → Type 0
  OfPreset o = IfSome o (λ (preset : Preset). Q preset.body)

  items_of_first : (sts : List StmtTree) → All (λ (st : StmtTree). Q st.body) sts → All P (first_items of sts)
  items_of_first [] each = All-nil P
  items_of_first (st ∷ rest) each = row st.body (All-head (λ (st : StmtTree). Q st.body) st rest each)

  items_of_preset : (o : Option Preset) → Starts o → OfPreset o → All P (preset_items of o)
  items_of_preset None starts own = All-nil P
  items_of_preset (Some preset) starts own =
      subst (All P) (ap (rows_items of) (one_row preset.body starts) ∙ append-nil (of preset.body)) (row preset.body own)

  items_of_pieces : (presets : List (Option Preset)) (sts : List StmtTree) → AllStart presets → All OfPreset presets → All (λ (st : StmtTree). Q st.body) sts → All P (pieces_items of presets sts)
  items_of_pieces [] sts starts own each = all_items of P Q row sts each
  items_of_pieces (o ∷ os) sts starts own each =
      All-append P (first_items of sts) (preset_items of o ++ pieces_items of os (drop 1 sts)) (items_of_first sts each)
      (All-append P (preset_items of o) (pieces_items of os (drop 1 sts)) (items_of_preset o (All-head Starts o os starts) (All-head OfPreset o os own))
      (items_of_pieces os (drop 1 sts) (All-tail Starts o os starts) (All-tail OfPreset o os own) (others sts each)))
    where
      others : (sts : List StmtTree) → All (λ (st : StmtTree). Q st.body) sts → All (λ (st : StmtTree). Q st.body) (drop 1 sts)
      others [] each = each
      others (st ∷ rest) each = All-tail (λ (st : StmtTree). Q st.body) st rest each

  items_of_program : Q end_data → (statements : List StmtTree) → AllStart (presets_from None statements) → All (λ (st : StmtTree). Q st.body) statements →
      All P (pieces_items of (presets_from None statements) (pieces_from None statements))
  items_of_program none statements starts each =
      items_of_pieces (presets_from None statements) (pieces_from None statements) starts (presets_all Q None statements each) (pieces_all Q none None statements each)

-- each initial value of a typed program is one
pub all_start : (program : Played) → IsTyped program → AllStart program.presets
all_start program typed = All-weaker (λ (o : Option Preset). IfSome o (IsTypedPreset program)) Starts by program.presets typed.presets
  where
    by : (o : Option Preset) → IfSome o (IsTypedPreset program) → Starts o
    by None typed = tt
    by (Some preset) typed = typed.starts

-- how large the pieces are, and the initial values of DATA blocks: each statement has a symbol

some_size : (b : BodyTree) → 1 ≤ body_size b
some_size (boolean name (Some b)) = omega arith
some_size (integer name (Some z)) = omega arith
some_size (assign name x) = omega arith
some_size (assign_element name index x) = omega arith
some_size (assign_array name a) = omega arith
some_size (assign_range name high low a) = omega arith
some_size (if_then x body) = omega arith
some_size (for_loop name from to step) = omega arith
some_size (push x) = omega arith
some_size (pop cell) = omega arith
some_size (export key x) = omega arith
some_size (print parts) = omega arith
some_size (exit x) = omega arith
some_size (scan register count source target compare) = omega arith
some_size (pad which count bits) = omega arith
some_size (wait_cycles state x usec end) = omega arith
some_size (wait_usec state x end) = omega arith
some_size (frequency hertz) = omega arith
some_size _ = omega arith

pub pieces_size : (now : Option (List ℕ)) (rest : List StmtTree) → statements_size (pieces_from now rest) ≤ statements_size rest
pieces_size now [] = omega arith
pieces_size now (st ∷ rest) =
    let more = pieces_size (data_after now st.body) rest in
    let own = by (plays now st.body) in
    omega (
      arith,
      more,
      own,
      sum_by-cons (λ (st : StmtTree). body_size st.body) st rest,
      sum_by-cons (λ (st : StmtTree). body_size st.body) (if plays now st.body then st else idle) (pieces_from (data_after now st.body) rest),
    )
  where
    by : (b : Bool) → body_size (if b then st else idle).body ≤ body_size st.body
    by true = omega arith
    by false = some_size st.body

pub presets_size : (now : Option (List ℕ)) (rest : List StmtTree) → sum_by preset_size (presets_from now rest) ≤ statements_size rest
presets_size now [] = omega arith
presets_size now (st ∷ rest) =
    let more = presets_size (data_after now st.body) rest in
    let own = by (preset_of now st.body) refl in
    omega (
      arith,
      more,
      own,
      sum_by-cons (λ (st : StmtTree). body_size st.body) st rest,
      sum_by-cons preset_size (preset_of now st.body) (presets_from (data_after now st.body) rest),
    )
  where
    by : (o : Option Preset) → preset_of now st.body ≡ o → preset_size o ≤ body_size st.body
    by None e = omega arith
    by (Some preset) e = omega (arith, ap body_size (preset_in now st.body preset e).is)

-- an initial value is that of a statement of a procedure or a DATA block
inner_start : (b : BodyTree) → has_initial_value b ≡ true → (is_outer_shape b || is_inner_shape b) ≡ true → is_inner_shape b ≡ true
inner_start (boolean name start) starts shaped = shaped
inner_start (boolean_array name size start) starts shaped = shaped
inner_start (integer name start) starts shaped = shaped
inner_start (integer_array name size start) starts shaped = shaped
inner_start _ starts shaped = absurd (true≢false (sym starts))

presets_inner : (program : Played) (presets : List (Option Preset)) → All (λ o. IfSome o (IsTypedPreset program)) presets →
    All (HoldsOf (λ b. (is_outer_shape b || is_inner_shape b) ≡ true)) presets → All (HoldsOf (λ b. is_inner_shape b ≡ true)) presets
presets_inner program presets typed shaped = λ k d below. by (get_or presets k d) (typed k d below) (shaped k d below)
  where
    by : (o : Option Preset) → IfSome o (IsTypedPreset program) → HoldsOf (λ b. (is_outer_shape b || is_inner_shape b) ≡ true) o → HoldsOf (λ b. is_inner_shape b ≡ true) o
    by None typed shaped = tt
    by (Some preset) typed shaped = inner_start preset.body typed.starts shaped

pub accepted : (text : List ℕ) (program : List StmtTree) → IsProgram text program → IsTyped (as_played program) → All HasShape program →
    All (λ (st : StmtTree). IsWellNamed st.body) program → All (λ (st : StmtTree). PrintsShortStrings (length text) st.body) program →
    All (λ (st : StmtTree). HoldsLiterals (length text) st.body) program → statements_size program ≤ length text → IsAccepted (as_played program)
accepted text program is typed shaped named short held small = record {
  shaped = pieces_all (λ b. (is_outer_shape b || is_inner_shape b) ≡ true) refl None program shaped;
  presets_shaped = presets_inner (as_played program) (presets_from None program) typed.presets (presets_all (λ b. (is_outer_shape b || is_inner_shape b) ≡ true) None program shaped);
  typed = typed;
  named = pieces_all IsWellNamed tt None program named;
  size = let few = is.short in omega (arith, small, few, pieces_size None program);
  presets_size = let few = is.short in omega (arith, small, few, presets_size None program);
  literals = few_bits (length text) is.short (literals_of (as_played program))
      (items_of_program row_literals (AreLiteralBits (length text)) (HoldsLiterals (length text)) (held_body (length text)) tt program (all_start (as_played program) typed) held);
  texts = weaker (length text) is.short (texts_of (as_played program))
      (all_items row_texts (IsShort (length text)) (PrintsShortStrings (length text)) (short_body (length text)) (pieces_from None program)
      (pieces_all (PrintsShortStrings (length text)) tt None program short));
}
