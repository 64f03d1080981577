-- Values of expressions. Source: JESD71, expressions and Boolean arrays. That integers wrap modulo 2 to the power of
-- 32, and what faults, are this profile's rules.
use Rattle.std.specs.Prelude.{ℕ, zero, suc, ◌+◌, ◌-◌, ◌^◌, nat_lt, nat_le, nat_abs, if◌then◌else◌, Bool, true, false, not, ◌&&◌, ◌||◌, List, [], ◌∷◌}
use Rattle.std.specs.Prelude.{◌++◌, length, take, reverse, replicate, Option, None, Some, slice_get}
use Rattle.std.specs.Prelude.{ℤ, pos, negsuc, ◌+ℤ◌, ◌-ℤ◌, ◌*ℤ◌, neg_ℤ, int_lt, int_le, int_div, int_rem, unsigned_abs}
use Rattle.std.specs.Int.{int_wrap, int_div_euclid, w32}
use Rattle.std.specs.Bool.{beq}
use Rattle.std.specs.Ordering.{int_eq}
use Rattle.bit_list.specs.Integers.{int_of, bits_of_int}
use Rattle.bit_list.specs.Ranges.{taken, spliced}
use Rattle.stapl_lexer.specs.declared.terminal.BinOp.{BinOp}
use Rattle.stapl_lexer.specs.declared.terminal.BinOp.TheVariants.{Multiply, Divide, Remainder, Add, Subtract}
use Rattle.stapl_lexer.specs.declared.terminal.BinOp.TheVariants.{ShiftLeft, ShiftRight, BitAnd, BitXor, BitOr, And, Or}
use Rattle.stapl_lexer.specs.declared.terminal.BinOp.TheVariants.{Less, AtMost, Greater, AtLeast, Equal, NotEqual}
use Rattle.stapl_syntax.specs.declared.signs.UnOp.{UnOp}
use Rattle.stapl_syntax.specs.declared.signs.UnOp.TheVariants.{Negate, Complement, Not}
use Rattle.stapl_syntax.specs.declared.names.Kind.{Kind}
use Rattle.stapl_syntax.specs.Kinds.{VarKinds, is_bit_alone, expr_kind}
use Rattle.stapl_syntax.specs.Trees.{ExprTree, number, scalar, element, unary, binary, abs, int, ArrayTree, literal as bit_literal, whole, range, of_int}
use Rattle.stapl_meaning.specs.declared.profiles.Profile.{Profile}
use Rattle.stapl_meaning.specs.declared.profiles.Profile.TheVariants.{One, Two}
use Rattle.stapl_meaning.specs.declared.events.RunFault.{RunFault}
use Rattle.stapl_meaning.specs.declared.events.RunFault.TheVariants.{DivideByZero, IndexOutOfRange, RangeReversed, LengthMismatch, ShiftCount}
use Rattle.stapl_meaning.specs.declared.values.ValueKind.{ValueKind}
use Rattle.stapl_meaning.specs.declared.values.ValueKind.TheVariants as kinds
use Rattle.stapl_meaning.specs.declared.values.Value.{Value}
use Rattle.stapl_meaning.specs.declared.values.Value.TheVariants.{Int, Bit}
use Rattle.stapl_meaning.specs.declared.values.Held.{Held}
use Rattle.stapl_meaning.specs.declared.values.Held.TheVariants as held

-- what is asked for, or the fault in its place; or stuck, which no accepted program meets
pub data Got (A : Type 0) : Type 0 where
  Known : A → Got A
  Faults : RunFault → Got A
  Stuck : Got A

-- goes on with what was asked for; the first fault is that of the whole
abbrev pub then_get : {A B : Type 0} → Got A → (A → Got B) → Got B
then_get (Known x) go = go x
then_get (Faults k) go = Faults k
then_get Stuck go = Stuck

-- an integer, of which 32 bits are left
abbrev pub wrapped : ℤ → Got Value
wrapped z = Known (Int (int_wrap w32 z))

-- the outcome of a division by this integer
abbrev pub divided_by : ℤ → ℤ → Got Value
divided_by (pos zero) outcome = Faults DivideByZero
divided_by (pos (suc n)) outcome = Known (Int outcome)
divided_by (negsuc n) outcome = Known (Int outcome)

-- the outcome of a shift by this count
abbrev pub shifted_by : ℤ → (ℕ → ℤ) → Got Value
shifted_by (pos n) outcome = if nat_lt n 32 then Known (Int (outcome n)) else Faults ShiftCount
shifted_by (negsuc n) outcome = Faults ShiftCount

-- the two Booleans are not the same
abbrev pub differ : Bool → Bool → Bool
differ a b = not (beq a b)

-- two lists of bits, combined place by place
abbrev pub combined_bits : (Bool → Bool → Bool) → List Bool → List Bool → List Bool
combined_bits f (x ∷ xs) (y ∷ ys) = f x y ∷ combined_bits f xs ys
combined_bits f _ _ = []

-- the integer whose bits in two's complement are those of two integers, combined place by place
unfoldable pub bitwise : (Bool → Bool → Bool) → ℤ → ℤ → ℤ
bitwise f a b = int_of (combined_bits f (bits_of_int a) (bits_of_int b))

-- The value of two integers with an operator between them. A quotient is rounded toward zero, and a remainder has the
-- sign of the first integer. A shift to the left multiplies by a power of two, and one to the right divides by it and
-- rounds down: `int_div_euclid` is the quotient that leaves no negative remainder.
abbrev pub combined_integers : BinOp → ℤ → ℤ → Got Value
combined_integers Multiply a b = wrapped (a *ℤ b)
combined_integers Divide a b = divided_by b (int_wrap w32 (int_div a b))
combined_integers Remainder a b = divided_by b (int_rem a b)
combined_integers Add a b = wrapped (a +ℤ b)
combined_integers Subtract a b = wrapped (a -ℤ b)
combined_integers ShiftLeft a b = shifted_by b (λ n. int_wrap w32 (a *ℤ pos (2 ^ n)))
combined_integers ShiftRight a b = shifted_by b (λ n. int_div_euclid a (pos (2 ^ n)))
combined_integers Less a b = Known (Bit (int_lt a b))
combined_integers AtMost a b = Known (Bit (int_le a b))
combined_integers Greater a b = Known (Bit (int_lt b a))
combined_integers AtLeast a b = Known (Bit (int_le b a))
combined_integers Equal a b = Known (Bit (int_eq a b))
combined_integers NotEqual a b = Known (Bit (not (int_eq a b)))
combined_integers BitAnd a b = Known (Int (bitwise ◌&&◌ a b))
combined_integers BitXor a b = Known (Int (bitwise differ a b))
combined_integers BitOr a b = Known (Int (bitwise ◌||◌ a b))
combined_integers And a b = Stuck
combined_integers Or a b = Stuck

-- the value of two Booleans with an operator between them
abbrev pub combined_booleans : BinOp → Bool → Bool → Got Value
combined_booleans Equal a b = Known (Bit (beq a b))
combined_booleans NotEqual a b = Known (Bit (differ a b))
combined_booleans BitAnd a b = Known (Bit (a && b))
combined_booleans BitXor a b = Known (Bit (differ a b))
combined_booleans BitOr a b = Known (Bit (a || b))
combined_booleans And a b = Known (Bit (a && b))
combined_booleans Or a b = Known (Bit (a || b))
combined_booleans _ a b = Stuck

-- the value of two values with an operator between them
abbrev pub combined : BinOp → Value → Value → Got Value
combined op (Int a) (Int b) = combined_integers op a b
combined op (Bit a) (Bit b) = combined_booleans op a b
combined op _ _ = Stuck

-- The value of a value with an operator before it. The complement, which turns each bit, is -1 less the integer.
abbrev pub signed : UnOp → Value → Got Value
signed Negate (Int a) = wrapped (neg_ℤ a)
signed Complement (Int a) = Known (Int (negsuc 0 -ℤ a))
signed Not (Bit a) = Known (Bit (not a))
signed _ _ = Stuck

-- the absolute value
abbrev pub absolute : Value → Got Value
absolute (Int a) = wrapped (pos (unsigned_abs a))
absolute (Bit a) = Stuck

-- the value of a scalar variable
abbrev pub scalar_of : Option Held → Got Value
scalar_of (Some (held.Int z)) = Known (Int z)
scalar_of (Some (held.Bit b)) = Known (Bit b)
scalar_of _ = Stuck

-- Arrays.

-- an index of a list of so many items
abbrev pub is_index : ℤ → ℕ → Bool
is_index (pos i) n = nat_lt i n
is_index (negsuc i) n = false

-- what passes, or the fault of what does not
abbrev pub passed : {A : Type 0} → Bool → RunFault → A → Got A
passed true k x = Known x
passed false k x = Faults k

-- the item at an index
abbrev pub item_of : {A : Type 0} → (A → Value) → Option A → Got Value
item_of make None = Faults IndexOutOfRange
item_of make (Some x) = Known (make x)

abbrev pub item_at : {A : Type 0} → (A → Value) → List A → ℤ → Got Value
item_at make xs (pos i) = item_of make (slice_get xs i)
item_at make xs (negsuc i) = Faults IndexOutOfRange

-- the element of an array at an index
abbrev pub element_of : Option Held → Value → Got Value
element_of (Some (held.Ints zs)) (Int i) = item_at Int zs i
element_of (Some (held.Bits bs)) (Int i) = item_at Bit bs i
element_of _ _ = Stuck

-- an index that is one of an array
abbrev pub index_held : Option Held → Value → Got Value
index_held (Some (held.Ints zs)) (Int i) = passed (is_index i (length zs)) IndexOutOfRange (Int i)
index_held (Some (held.Bits bs)) (Int i) = passed (is_index i (length bs)) IndexOutOfRange (Int i)
index_held _ _ = Stuck

-- the bits of a BOOLEAN array
abbrev pub bits_held : Option Held → Got (List Bool)
bits_held (Some (held.Bits bs)) = Known bs
bits_held _ = Stuck

-- the bits of a variable, of which only a BOOLEAN array has some
abbrev pub bits_of : Held → List Bool
bits_of (held.Bits bs) = bs
bits_of _ = []

abbrev pub bits_in : Option Held → List Bool
bits_in (Some h) = bits_of h
bits_in None = []

-- A part of an array: its lowest index, how many bits it has, and whether these go from its highest index down and not
-- from its lowest index up.
pub record Span : Type 0 where
  pub low : ℕ
  pub count : ℕ
  pub falls : Bool

-- the whole of an array of so many bits
abbrev pub whole_span : ℕ → Span
whole_span n = record { low = 0; count = n; falls = false }

-- bits in this order, or in the other one
abbrev pub turned : Bool → List Bool → List Bool
turned false bits = bits
turned true bits = reverse bits

-- the bits of a part, in its order
abbrev pub span_bits : Span → List Bool → List Bool
span_bits span bits = turned span.falls (taken span.low span.count bits)

-- the lowest index of the first n places of a part
abbrev pub first_places : Span → ℕ → ℕ
first_places span n = if span.falls then span.low + span.count - n else span.low

-- an array with these bits in the first places of a part, in its order
abbrev pub span_put : Span → List Bool → List Bool → List Bool
span_put span new old = spliced (first_places span (length new)) (turned span.falls new) old

-- a range whose first index is below its second, under a profile
abbrev pub rising_span : Profile → ℕ → ℕ → Got Span
rising_span One first second = Faults RangeReversed
rising_span Two first second = Known (record { low = first; count = second + 1 - first; falls = true })

-- The part that a range of an array of so many bits is. It begins with the second written index and goes to the first,
-- upwards or downwards. The first index is tested first.
abbrev pub span_between : Profile → ℕ → ℤ → ℤ → Got Span
span_between profile n first second =
    if not (is_index first n && is_index second n) then Faults IndexOutOfRange
    else if int_le second first
    then Known (record { low = nat_abs second; count = nat_abs first + 1 - nat_abs second; falls = false })
    else rising_span profile (nat_abs first) (nat_abs second)

abbrev pub span_of : Profile → ℕ → Value → Value → Got Span
span_of profile n (Int first) (Int second) = span_between profile n first second
span_of profile n _ _ = Stuck

-- the second index of a range whose first index is this one, if it is a range of the array
abbrev pub range_held : Profile → Option Held → Value → Value → Got Value
range_held profile array first second =
    then_get (bits_held array) (λ bits. then_get (span_of profile (length bits) first second) (λ span. Known second))

-- the bits of a part of an array
abbrev pub bits_between : Profile → Option Held → Value → Value → Got (List Bool)
bits_between profile array first second =
    then_get (bits_held array)
    (λ bits. then_get (span_of profile (length bits) first second) (λ span. Known (span_bits span bits)))

-- Where bits come from: these bits, the whole of the variable of a number, a range of it by two indexes under a
-- profile, an integer.
pub data Source : Type 0 where
  These : List Bool → Source
  Whole : ℕ → Source
  Range : Profile → ℕ → Source
  OfInt : Source

-- the bits of a source, by the values of its indexes or of its integer
abbrev pub source_bits : List Held → Source → List Value → Got (List Bool)
source_bits variables (These bits) [] = Known bits
source_bits variables (Whole n) [] = bits_held (slice_get variables n)
source_bits variables (Range profile n) (first ∷ second ∷ []) =
    bits_between profile (slice_get variables n) first second
source_bits variables OfInt (Int z ∷ []) = Known (bits_of_int z)
source_bits variables _ _ = Stuck

-- so many items, the first of a list; missing ones are this one
abbrev pub padded : {A : Type 0} → A → ℕ → List A → List A
padded missing n xs = take n (xs ++ replicate n missing)

-- So many bits of a source that has these: the lowest. Missing bits of a literal are 0; no other source may miss one.
abbrev pub asked : Source → ℕ → List Bool → Got (List Bool)
asked (These own) n bits = Known (padded false n bits)
asked (Whole v) n bits = passed (nat_le n (length bits)) LengthMismatch (take n bits)
asked (Range profile v) n bits = passed (nat_le n (length bits)) LengthMismatch (take n bits)
asked OfInt n bits = passed (nat_le n (length bits)) LengthMismatch (take n bits)

-- the integer whose lowest bits these are: missing bits are 0, and those from index 32 on are dropped
abbrev pub integer_from : List Bool → Value
integer_from bits = Int (int_of (take 32 bits))

abbrev pub source_integer : List Held → Source → List Value → Got Value
source_integer variables source values = then_get (source_bits variables source values) (λ bits. Known (integer_from bits))

-- the value of a number where a value of a kind is wanted
abbrev pub literal : ValueKind → ℤ → Got Value
literal kinds.Int z = Known (Int z)
literal kinds.Bit (pos zero) = Known (Bit false)
literal kinds.Bit (pos (suc zero)) = Known (Bit true)
literal kinds.Bit _ = Stuck

-- the kind of what an operator before a value wants
abbrev pub unary_side : UnOp → ValueKind
unary_side Not = kinds.Bit
unary_side _ = kinds.Int

-- Booleans if one of two expressions of these kinds is a Boolean, else integers
abbrev pub alike : Option Kind → Option Kind → ValueKind
alike a b = if is_bit_alone a || is_bit_alone b then kinds.Bit else kinds.Int

-- the kind of both sides of an operator, by the kinds of the expressions
abbrev pub side : BinOp → Option Kind → Option Kind → ValueKind
side And a b = kinds.Bit
side Or a b = kinds.Bit
side Equal a b = alike a b
side NotEqual a b = alike a b
side BitAnd a b = alike a b
side BitXor a b = alike a b
side BitOr a b = alike a b
side _ a b = kinds.Int

-- the kinds of the variables that names stand for, and their numbers
pub record Lookup : Type 0 where
  pub kind : VarKinds
  pub variable : List ℕ → ℕ

-- the kind of both sides of an operator between two expressions
abbrev pub sides : Lookup → BinOp → ExprTree → ExprTree → ValueKind
sides look op a b = side op (expr_kind look.kind a) (expr_kind look.kind b)

-- the profile of programs
abbrev pub of_programs : Profile
of_programs = Two

-- where the bits of an array come from
abbrev pub source_of : Lookup → ArrayTree → Source
source_of look (bit_literal bits) = These bits
source_of look (whole name) = Whole (look.variable name)
source_of look (range name first second) = Range of_programs (look.variable name)
source_of look (of_int e) = OfInt

module _ (look : Lookup) (variables : List Held) where
  abbrev mutual
    -- The value of an expression where one of a kind is wanted. Operands are taken from left to right.
    pub value_of : ValueKind → ExprTree → Got Value
    value_of kind (number z) = literal kind z
    value_of kind (scalar name) = scalar_of (slice_get variables (look.variable name))
    value_of kind (element name index) = then_get (value_of kinds.Int index) (element_of (slice_get variables (look.variable name)))
    value_of kind (unary op e) = then_get (value_of (unary_side op) e) (signed op)
    value_of kind (binary op a b) =
        then_get (value_of (sides look op a b) a) (λ x. then_get (value_of (sides look op a b) b) (λ y. combined op x y))
    value_of kind (abs e) = then_get (value_of kinds.Int e) absolute
    value_of kind (int a) = then_get (source_values a) (source_integer variables (source_of look a))

    -- the values of the indexes of an array, or of its integer
    pub source_values : ArrayTree → Got (List Value)
    source_values (bit_literal bits) = Known []
    source_values (whole name) = Known []
    source_values (range name high low) =
        then_get (value_of kinds.Int high) (λ h. then_get (value_of kinds.Int low) (λ l. Known (h ∷ l ∷ [])))
    source_values (of_int e) = then_get (value_of kinds.Int e) (λ v. Known (v ∷ []))

-- the integer that a value is
abbrev pub integer_of : Value → Got ℤ
integer_of (Int z) = Known z
integer_of (Bit b) = Stuck
