-- The parts of a statement that are evaluated before it does anything, in the written order, and the first that breaks.
-- Source: JESD71, statements. That they are evaluated from left to right, and each is tested before the next, is this
-- profile's rule. The order is that of the table below, and is not taken from the operands of the meaning.
use Rattle.std.specs.Prelude.{◌≡◌, ℕ, ℤ, pos, ◌<◌, ◌≤◌, ◌+◌, Bool, List, [], ◌∷◌, ◌++◌, map, Option, Some, None}
use Rattle.stapl_syntax.specs.Kinds.{expr_kind}
use Rattle.stapl_syntax.specs.Trees.{ExprTree, number, scalar, element, ArrayTree, literal as bit_literal, whole, range, of_int, CompareTree, PartTree, string, value, character, BodyTree, boolean, integer, assign, assign_element, assign_array, assign_range, if_then, for_loop, push, pop, print, exported_value, exported_array, export, exit, scan, pad, wait_cycles, wait_usec, frequency}
use Rattle.stapl_meaning.specs.declared.events.RunFault.{RunFault}
use Rattle.stapl_meaning.specs.declared.events.RunFault.TheVariants.{DivideByZero, IndexOutOfRange, ShiftCount, BadChar}
use Rattle.stapl_meaning.specs.declared.values.ValueKind.{ValueKind}
use Rattle.stapl_meaning.specs.declared.values.ValueKind.TheVariants as kinds
use Rattle.stapl_meaning.specs.declared.values.Value.{Value}
use Rattle.stapl_meaning.specs.declared.values.Value.TheVariants.{Int}
use Rattle.stapl_meaning.specs.declared.values.Held.{Held}
use Rattle.stapl_meaning.specs.Values.{Known, Lookup, value_of}
use Rattle.stapl_meaning.specs.Operands.{printed_kind, given_kind, bit_number, step_or_one}
use Rattle.meaning_laws.specs.Limits.{IsOutside, IsNoIndex}
use Rattle.meaning_laws.specs.ExprFaults.{size_of, bit_count, held_by, IsInteger, ExprBreaks, ArrayBreaks}

-- An expression of which a value of a kind is wanted; the number of a character in CHR$; an index of the array of a
-- name; or an array, of which a range has two indexes.
pub data WrittenPart : Type 0 where
  value_part : ValueKind → ExprTree → WrittenPart
  character_part : ExprTree → WrittenPart
  index_part : (name : List ℕ) → ExprTree → WrittenPart
  array_part : ArrayTree → WrittenPart

-- the faults of parts: they come before anything is done
abbrev pub IsPartFault : RunFault → Type 0
IsPartFault DivideByZero = Unit {0}
IsPartFault IndexOutOfRange = Unit {0}
IsPartFault ShiftCount = Unit {0}
IsPartFault BadChar = Unit {0}
IsPartFault _ = ⊥

-- an expression that may be left out
abbrev pub given_part : Option ExprTree → List WrittenPart
given_part None = []
given_part (Some e) = value_part kinds.Int e ∷ []

abbrev pub printed_parts : Lookup → List PartTree → List WrittenPart
printed_parts look [] = []
printed_parts look (string bytes ∷ parts) = printed_parts look parts
printed_parts look (value e ∷ parts) = value_part (printed_kind (expr_kind look.kind e)) e ∷ printed_parts look parts
printed_parts look (character e ∷ parts) = character_part e ∷ printed_parts look parts

-- The arrays of a scan: its data, where captured bits go, and the expected bits and the mask of a comparison. Other
-- trees stand there in no program.
abbrev pub target_arrays : Option ArrayTree → List ArrayTree
target_arrays (Some (whole name)) = whole name ∷ []
target_arrays (Some (range name first second)) = range name first second ∷ []
target_arrays _ = []

abbrev pub compared_arrays : Option CompareTree → List ArrayTree
compared_arrays (Some (expected, (mask, scalar name))) = expected ∷ mask ∷ []
compared_arrays (Some (expected, (mask, element name index))) = expected ∷ mask ∷ []
compared_arrays _ = []

abbrev pub scan_arrays : ArrayTree → Option ArrayTree → Option CompareTree → List ArrayTree
scan_arrays source target compare = source ∷ (target_arrays target ++ compared_arrays compare)

-- the index of the element that takes the result of a comparison
abbrev pub result_parts : Option CompareTree → List WrittenPart
result_parts (Some (expected, (mask, element name index))) = index_part name index ∷ []
result_parts _ = []

-- the array of a padding, which may be left out
abbrev pub padding_arrays : Option ArrayTree → List ArrayTree
padding_arrays None = []
padding_arrays (Some a) = a ∷ []

-- the parts of a statement, in the written order
abbrev pub written_parts : Lookup → BodyTree → List WrittenPart
written_parts look (boolean name (Some b)) = value_part kinds.Bit (number (bit_number b)) ∷ []
written_parts look (integer name (Some z)) = value_part kinds.Int (number z) ∷ []
written_parts look (assign name e) = value_part (given_kind (look.kind name)) e ∷ []
written_parts look (assign_element name index e) = index_part name index ∷ value_part (given_kind (look.kind name)) e ∷ []
written_parts look (assign_array name a) = array_part a ∷ []
written_parts look (assign_range name first second a) = array_part (range name first second) ∷ array_part a ∷ []
written_parts look (if_then e body) = value_part kinds.Bit e ∷ []
written_parts look (for_loop name from to step) =
    value_part kinds.Int from ∷ value_part kinds.Int to ∷ value_part kinds.Int (step_or_one step) ∷ []
written_parts look (push e) = value_part (printed_kind (expr_kind look.kind e)) e ∷ []
written_parts look (pop (element name index)) = index_part name index ∷ []
written_parts look (print parts) = printed_parts look parts
written_parts look (export key (exported_value e)) = value_part (printed_kind (expr_kind look.kind e)) e ∷ []
written_parts look (export key (exported_array a)) = array_part a ∷ []
written_parts look (exit e) = value_part kinds.Int e ∷ []
written_parts look (scan register count source target compare) =
    value_part kinds.Int count ∷ (map array_part (scan_arrays source target compare) ++ result_parts compare)
written_parts look (pad which count bits) = value_part kinds.Int count ∷ map array_part (padding_arrays bits)
written_parts look (wait_cycles state cycles usec last) = value_part kinds.Int cycles ∷ given_part usec
written_parts look (wait_usec state usec last) = value_part kinds.Int usec ∷ []
written_parts look (frequency hertz) = given_part hertz
written_parts look _ = []

-- How many bits a range has whose two indexes are these. The elements at both indexes are among them, and either index
-- may be the lower one.
pub data RangeHas (first second n : ℕ) : Type 0 where
  to_lower : second ≤ first → n + second ≡ first + 1 → RangeHas first second n
  to_higher : first < second → n + first ≡ second + 1 → RangeHas first second n

module _ (look : Lookup) (variables : List Held) where
  -- an array whose indexes break nothing, and their values
  pub data ArrayIs : ArrayTree → List Value → Type 0 where
    literal_is : {bits : List Bool} → ArrayIs (bit_literal bits) []
    whole_is : {name : List ℕ} → ArrayIs (whole name) []
    range_is : {name : List ℕ} {first second : ExprTree} (i j size : ℕ) → IsInteger look variables first (pos i) →
        IsInteger look variables second (pos j) → bit_count (held_by look variables name) ≡ Some size → i < size →
        j < size → ArrayIs (range name first second) (Int (pos i) ∷ Int (pos j) ∷ [])
    integer_is : {e : ExprTree} (v : Value) → value_of look variables kinds.Int e ≡ Known v → ArrayIs (of_int e) (v ∷ [])

  -- a part that breaks nothing, and its values
  pub data PartIs : WrittenPart → List Value → Type 0 where
    value_is : {kind : ValueKind} {e : ExprTree} (v : Value) → value_of look variables kind e ≡ Known v →
        PartIs (value_part kind e) (v ∷ [])
    character_is : {e : ExprTree} (n : ℕ) → IsInteger look variables e (pos n) → n ≤ 255 →
        PartIs (character_part e) (Int (pos n) ∷ [])
    index_is : {name : List ℕ} {e : ExprTree} (i size : ℕ) → IsInteger look variables e (pos i) →
        size_of (held_by look variables name) ≡ Some size → i < size → PartIs (index_part name e) (Int (pos i) ∷ [])
    array_is : {a : ArrayTree} {vs : List Value} → ArrayIs a vs → PartIs (array_part a) vs

  -- parts that break nothing, and their values
  pub data PartsAre : List WrittenPart → List Value → Type 0 where
    no_parts : PartsAre [] []
    more_parts : {p : WrittenPart} {ps : List WrittenPart} {us vs : List Value} → PartIs p us → PartsAre ps vs → PartsAre (p ∷ ps) (us ++ vs)

  -- the fault of a part: that of its expression, and then its own
  pub data PartBreaks : WrittenPart → RunFault → Type 0 where
    of_value : {kind : ValueKind} {e : ExprTree} {k : RunFault} → ExprBreaks look variables kind e k → PartBreaks (value_part kind e) k
    of_character : {e : ExprTree} {k : RunFault} → ExprBreaks look variables kinds.Int e k → PartBreaks (character_part e) k
    no_character : {e : ExprTree} (z : ℤ) → IsInteger look variables e z → IsOutside (pos 0) (pos 255) z →
        PartBreaks (character_part e) BadChar
    of_target_index : {name : List ℕ} {e : ExprTree} {k : RunFault} → ExprBreaks look variables kinds.Int e k →
        PartBreaks (index_part name e) k
    target_outside : {name : List ℕ} {e : ExprTree} (z : ℤ) (size : ℕ) → IsInteger look variables e z →
        size_of (held_by look variables name) ≡ Some size → IsNoIndex size z → PartBreaks (index_part name e) IndexOutOfRange
    of_part_array : {a : ArrayTree} {k : RunFault} → ArrayBreaks look variables a k → PartBreaks (array_part a) k

  -- the fault of the first part that has one, if all parts before it break nothing
  pub data PartsBreak : List WrittenPart → RunFault → Type 0 where
    first_part : {p : WrittenPart} {ps : List WrittenPart} {k : RunFault} → PartBreaks p k → PartsBreak (p ∷ ps) k
    later_part : {p : WrittenPart} {ps : List WrittenPart} {us : List Value} {k : RunFault} → PartIs p us → PartsBreak ps k → PartsBreak (p ∷ ps) k

  -- How many bits an array has that is no literal. A literal has as many as are asked of it.
  pub data HasBits : ArrayTree → ℕ → Type 0 where
    whole_has : {name : List ℕ} {n : ℕ} → bit_count (held_by look variables name) ≡ Some n → HasBits (whole name) n
    range_has : {name : List ℕ} {first second : ExprTree} {n : ℕ} (i j size : ℕ) →
        IsInteger look variables first (pos i) → IsInteger look variables second (pos j) →
        bit_count (held_by look variables name) ≡ Some size → i < size → j < size → RangeHas i j n →
        HasBits (range name first second) n
    integer_has : {e : ExprTree} (z : ℤ) → IsInteger look variables e z → HasBits (of_int e) 32

  -- an array that has bits
  pub data HasItsBits : ArrayTree → Type 0 where
    literal_there : {bits : List Bool} → HasItsBits (bit_literal bits)
    other_there : {a : ArrayTree} (n : ℕ) → HasBits a n → HasItsBits a

  -- an array that is no literal has fewer bits than are asked of it
  pub record IsTooShort (a : ArrayTree) (asked : ℕ) : Type 0 where
    pub bits : ℕ
    pub has : HasBits a bits
    pub fewer : bits < asked

  -- all arrays have bits
  pub data AreThere : List ArrayTree → Type 0 where
    no_array : AreThere []
    more_arrays : {a : ArrayTree} {rest : List ArrayTree} → HasItsBits a → AreThere rest → AreThere (a ∷ rest)

  -- one of these arrays has fewer bits than are asked of it, and all others have bits
  pub data OneIsShort (asked : ℕ) : List ArrayTree → Type 0 where
    this_short : {a : ArrayTree} {rest : List ArrayTree} → IsTooShort a asked → AreThere rest → OneIsShort asked (a ∷ rest)
    later_short : {a : ArrayTree} {rest : List ArrayTree} → HasItsBits a → OneIsShort asked rest → OneIsShort asked (a ∷ rest)
