-- Expressions break by the table exactly if their values are faults
use Rattle.std.proofs.Common.{◌≡◌, ℕ, zero, suc, ◌<◌, Bool, true, false, List, [], ◌∷◌, length, Option, Some, None, ℤ, pos, negsuc, refl, ap, ◌∙◌, subst, arith}
use Rattle.std.proofs.Common.{nat_lt, slice_get, get_or, if◌then◌else◌}
use Rattle.std.proofs.lemmas.Option.{slice_get_past, slice_get-get_or}
use Rattle.std.proofs.lemmas.Bool.{ltb-true, ltb-false}
use Rattle.stapl_lexer.specs.declared.terminal.BinOp.{BinOp}
use Rattle.stapl_lexer.specs.declared.terminal.BinOp.TheVariants.{Multiply, Divide, Remainder, Add, Subtract}
use Rattle.stapl_lexer.specs.declared.terminal.BinOp.TheVariants.{ShiftLeft, ShiftRight, BitAnd, BitXor, BitOr, And, Or}
use Rattle.stapl_lexer.specs.declared.terminal.BinOp.TheVariants.{Less, AtMost, Greater, AtLeast, Equal, NotEqual}
use Rattle.stapl_syntax.specs.declared.signs.UnOp.{UnOp}
use Rattle.stapl_syntax.specs.declared.signs.UnOp.TheVariants.{Negate, Complement, Not}
use Rattle.stapl_syntax.specs.Trees.{ExprTree, number, scalar, element, unary, binary, abs, int, ArrayTree, literal as bit_literal, whole, range, of_int}
use Rattle.stapl_meaning.specs.declared.events.RunFault.{RunFault}
use Rattle.stapl_meaning.specs.declared.events.RunFault.TheVariants.{DivideByZero, IndexOutOfRange, ShiftCount}
use Rattle.stapl_meaning.specs.declared.values.ValueKind.{ValueKind}
use Rattle.stapl_meaning.specs.declared.values.ValueKind.TheVariants as kinds
use Rattle.stapl_meaning.specs.declared.values.Value.{Value}
use Rattle.stapl_meaning.specs.declared.values.Value.TheVariants.{Int, Bit}
use Rattle.stapl_meaning.specs.declared.values.Held.{Held}
use Rattle.stapl_meaning.specs.declared.values.Held.TheVariants as held
use Rattle.stapl_meaning.specs.Values.{Got, Known, Faults, Stuck, then_get, divided_by, shifted_by, combined, combined_integers, combined_booleans, signed, absolute, scalar_of, item_of}
use Rattle.stapl_meaning.specs.Values.{item_at, element_of, bits_held, Span, span_of, span_bits, span_between, bits_between, Range, OfInt, integer_from, source_integer, literal, unary_side}
use Rattle.stapl_meaning.specs.Values.{sides, of_programs, source_of, Lookup, value_of, source_values}
use Rattle.meaning_laws.specs.Limits.{IsOutside, IsNoIndex}
use Rattle.meaning_laws.specs.ExprFaults.{size_of, bit_count, IsDivision, quotient, remainder, IsShift, to_left, to_right, RangeBreaks, held_by, ExprBreaks, of_index, index_outside}
use Rattle.meaning_laws.specs.ExprFaults.{of_operand, of_absolute, of_array, of_left, of_right, divides_by_zero, shifts_too_far, ArrayBreaks, of_first, of_second, of_range, of_integer}
use Rattle.meaning_laws.proofs.Gets.{Gives, Breaks, then_gives, then_breaks, breaks_more, then_known, then_faults}
use Rattle.meaning_laws.proofs.LimitLemmas.{no_index, not_index, outside, not_outside, range_faults, part_of, range_gives}

-- an index of a list has an item there
none_within : {A : Type 0} (xs : List A) (i : ℕ) → i < length xs → slice_get xs i ≡ None → ⊥
none_within [] i inside e = absurd (omega (arith, inside))
none_within (x ∷ xs) i inside e = let some : slice_get (x ∷ xs) i ≡ Some (get_or (x ∷ xs) i x) = slice_get-get_or (x ∷ xs) i x inside in cc

-- ---- what can break has a case of its own, and the rest never breaks

module _ (P : RunFault → Type 0) where
  literal_breaks : (kind : ValueKind) (z : ℤ) → Breaks P (literal kind z)
  literal_breaks kinds.Int z = tt
  literal_breaks kinds.Bit (pos zero) = tt
  literal_breaks kinds.Bit (pos (suc zero)) = tt
  literal_breaks kinds.Bit (pos (suc (suc n))) = tt
  literal_breaks kinds.Bit (negsuc n) = tt

  scalar_breaks : (o : Option Held) → Breaks P (scalar_of o)
  scalar_breaks None = tt
  scalar_breaks (Some (held.Int z)) = tt
  scalar_breaks (Some (held.Bit b)) = tt
  scalar_breaks (Some (held.Ints zs)) = tt
  scalar_breaks (Some (held.Bits bs)) = tt

  signed_breaks : (op : UnOp) (v : Value) → Breaks P (signed op v)
  signed_breaks Negate (Int a) = tt
  signed_breaks Negate (Bit a) = tt
  signed_breaks Complement (Int a) = tt
  signed_breaks Complement (Bit a) = tt
  signed_breaks Not (Int a) = tt
  signed_breaks Not (Bit a) = tt

  absolute_breaks : (v : Value) → Breaks P (absolute v)
  absolute_breaks (Int a) = tt
  absolute_breaks (Bit a) = tt

  pub whole_breaks : (o : Option Held) → Breaks P (bits_held o)
  whole_breaks None = tt
  whole_breaks (Some (held.Int z)) = tt
  whole_breaks (Some (held.Bit b)) = tt
  whole_breaks (Some (held.Ints zs)) = tt
  whole_breaks (Some (held.Bits bs)) = tt

  -- operators

  division_breaks : (b outcome : ℤ) → (b ≡ pos 0 → P DivideByZero) → Breaks P (divided_by b outcome)
  division_breaks (pos zero) outcome p = p refl
  division_breaks (pos (suc n)) outcome p = tt
  division_breaks (negsuc n) outcome p = tt

  shift_breaks : (b : ℤ) (outcome : ℕ → ℤ) → (IsOutside (pos 0) (pos 31) b → P ShiftCount) → Breaks P (shifted_by b outcome)
  shift_breaks (negsuc n) outcome p = p (outside 31 (negsuc n) refl)
  shift_breaks (pos n) outcome p = by (nat_lt n 32) refl
    where
      by : (t : Bool) → nat_lt n 32 ≡ t → Breaks P (if t then Known (Int (outcome n)) else Faults ShiftCount)
      by true e = tt
      by false e = p (outside 31 (pos n) e)

  integers_break : (op : BinOp) (a b : ℤ) → (IsDivision op → b ≡ pos 0 → P DivideByZero) →
      (IsShift op → IsOutside (pos 0) (pos 31) b → P ShiftCount) → Breaks P (combined_integers op a b)
  integers_break Multiply a b divides shifts = tt
  integers_break Divide a b divides shifts = division_breaks b _ (divides quotient)
  integers_break Remainder a b divides shifts = division_breaks b _ (divides remainder)
  integers_break Add a b divides shifts = tt
  integers_break Subtract a b divides shifts = tt
  integers_break ShiftLeft a b divides shifts = shift_breaks b _ (shifts to_left)
  integers_break ShiftRight a b divides shifts = shift_breaks b _ (shifts to_right)
  integers_break BitAnd a b divides shifts = tt
  integers_break BitXor a b divides shifts = tt
  integers_break BitOr a b divides shifts = tt
  integers_break And a b divides shifts = tt
  integers_break Or a b divides shifts = tt
  integers_break Less a b divides shifts = tt
  integers_break AtMost a b divides shifts = tt
  integers_break Greater a b divides shifts = tt
  integers_break AtLeast a b divides shifts = tt
  integers_break Equal a b divides shifts = tt
  integers_break NotEqual a b divides shifts = tt

  booleans_break : (op : BinOp) (a b : Bool) → Breaks P (combined_booleans op a b)
  booleans_break Multiply a b = tt
  booleans_break Divide a b = tt
  booleans_break Remainder a b = tt
  booleans_break Add a b = tt
  booleans_break Subtract a b = tt
  booleans_break ShiftLeft a b = tt
  booleans_break ShiftRight a b = tt
  booleans_break BitAnd a b = tt
  booleans_break BitXor a b = tt
  booleans_break BitOr a b = tt
  booleans_break And a b = tt
  booleans_break Or a b = tt
  booleans_break Less a b = tt
  booleans_break AtMost a b = tt
  booleans_break Greater a b = tt
  booleans_break AtLeast a b = tt
  booleans_break Equal a b = tt
  booleans_break NotEqual a b = tt

  combined_breaks : (op : BinOp) (x y : Value) → ((a : ℤ) → x ≡ Int a → IsDivision op → y ≡ Int (pos 0) → P DivideByZero) →
      ((a b : ℤ) → x ≡ Int a → y ≡ Int b → IsShift op → IsOutside (pos 0) (pos 31) b → P ShiftCount) → Breaks P (combined op x y)
  combined_breaks op (Int a) (Int b) divides shifts =
      integers_break op a b (λ is by_zero. divides a refl is (ap Int by_zero)) (λ is out. shifts a b refl refl is out)
  combined_breaks op (Int a) (Bit b) divides shifts = tt
  combined_breaks op (Bit a) (Int b) divides shifts = tt
  combined_breaks op (Bit a) (Bit b) divides shifts = booleans_break op a b

  -- elements

  item_breaks : {A : Type 0} (make : A → Value) (xs : List A) (i : ℤ) → (IsNoIndex (length xs) i → P IndexOutOfRange) → Breaks P (item_at make xs i)
  item_breaks make xs (negsuc i) p = p (no_index (length xs) (negsuc i) refl)
  item_breaks {A = A} make xs (pos i) p = by (nat_lt i (length xs)) refl (slice_get xs i) refl
    where
      by : (t : Bool) → nat_lt i (length xs) ≡ t → (x : Option A) → slice_get xs i ≡ x → Breaks P (item_of make x)
      by t e (Some x) f = tt
      by false e None f = p (no_index (length xs) (pos i) e)
      by true e None f = p (absurd (none_within xs i (ltb-true i (length xs) e) f))

  element_breaks : (o : Option Held) (v : Value) →
      ((z : ℤ) (size : ℕ) → v ≡ Int z → size_of o ≡ Some size → IsNoIndex size z → P IndexOutOfRange) → Breaks P (element_of o v)
  element_breaks None v p = tt
  element_breaks (Some (held.Int z)) v p = tt
  element_breaks (Some (held.Bit b)) v p = tt
  element_breaks (Some (held.Ints zs)) (Bit b) p = tt
  element_breaks (Some (held.Bits bs)) (Bit b) p = tt
  element_breaks (Some (held.Ints zs)) (Int i) p = item_breaks Int zs i (p i (length zs) refl refl)
  element_breaks (Some (held.Bits bs)) (Int i) p = item_breaks Bit bs i (p i (length bs) refl refl)

  -- ranges

  pub span_breaks : {A : Type 0} (Q : A → Type 0) (o : Option Held) (x y : Value) (make : List Bool → Span → A) →
      ((i j : ℤ) (size : ℕ) → x ≡ Int i → y ≡ Int j → bit_count o ≡ Some size → (k : RunFault) → RangeBreaks size i j k → P k) →
      ((bs : List Bool) (i j : ℕ) → o ≡ Some (held.Bits bs) → x ≡ Int (pos i) → y ≡ Int (pos j) → i < length bs → j < length bs →
      Q (make bs (part_of i j))) →
      Gives Q P (then_get (bits_held o) (λ bits. then_get (span_of of_programs (length bits) x y) (λ span. Known (make bits span))))
  span_breaks Q None x y make p q = tt
  span_breaks Q (Some (held.Int z)) x y make p q = tt
  span_breaks Q (Some (held.Bit b)) x y make p q = tt
  span_breaks Q (Some (held.Ints zs)) x y make p q = tt
  span_breaks Q (Some (held.Bits bs)) (Bit b) y make p q = tt
  span_breaks Q (Some (held.Bits bs)) (Int i) (Bit b) make p q = tt
  span_breaks Q (Some (held.Bits bs)) (Int i) (Int j) make p q =
      then_gives (λ span. Q (make bs span)) Q P (span_between of_programs (length bs) i j) (λ span. Known (make bs span))
      (range_gives (λ span. Q (make bs span)) P (length bs) i j (p i j (length bs) refl refl refl)
      (λ m n e f first_in second_in. q bs m n refl (ap Int e) (ap Int f) first_in second_in))
      (λ span _ h. h)

-- ---- the other way round

shift_faults : (b : ℤ) (outcome : ℕ → ℤ) → IsOutside (pos 0) (pos 31) b → shifted_by b outcome ≡ Faults ShiftCount
shift_faults (negsuc n) outcome out = refl
shift_faults (pos n) outcome out = let e : nat_lt n 32 ≡ false = not_outside 31 (pos n) out in ap (λ t. if t then Known (Int (outcome n)) else Faults ShiftCount) e

none_at : {A : Type 0} (make : A → Value) (xs : List A) (i : ℤ) → IsNoIndex (length xs) i → item_at make xs i ≡ Faults IndexOutOfRange
none_at make xs (negsuc i) out = refl
none_at make xs (pos i) out = ap (item_of make) (slice_get_past xs i (ltb-false i (length xs) (not_index (length xs) (pos i) out)))

element_faults : (o : Option Held) (z : ℤ) (size : ℕ) → size_of o ≡ Some size → IsNoIndex size z → element_of o (Int z) ≡ Faults IndexOutOfRange
element_faults None z size e out = absurd cc
element_faults (Some (held.Int x)) z size e out = absurd cc
element_faults (Some (held.Bit b)) z size e out = absurd cc
element_faults (Some (held.Ints zs)) z size e out =
    let same : size ≡ length zs = cc in none_at Int zs z (subst (λ n. IsNoIndex n z) same out)
element_faults (Some (held.Bits bs)) z size e out =
    let same : size ≡ length bs = cc in none_at Bit bs z (subst (λ n. IsNoIndex n z) same out)

pub span_faults : {A : Type 0} (o : Option Held) (i j : ℤ) (size : ℕ) (k : RunFault) (make : List Bool → Span → A) → bit_count o ≡ Some size →
    RangeBreaks size i j k →
    then_get (bits_held o) (λ bits. then_get (span_of of_programs (length bits) (Int i) (Int j)) (λ span. Known (make bits span))) ≡ Faults k
span_faults None i j size k make e out = absurd cc
span_faults (Some (held.Int x)) i j size k make e out = absurd cc
span_faults (Some (held.Bit b)) i j size k make e out = absurd cc
span_faults (Some (held.Ints zs)) i j size k make e out = absurd cc
span_faults (Some (held.Bits bs)) i j size k make e out =
    let same : size ≡ length bs = cc in
    then_faults (λ span. Known (make bs span)) (range_faults (subst (λ n. RangeBreaks n i j k) same out))

-- both sides of a division and of a shift are integers
division_sides : (look : Lookup) (op : BinOp) (a b : ExprTree) → IsDivision op → sides look op a b ≡ kinds.Int
division_sides look _ a b quotient = refl
division_sides look _ a b remainder = refl

shift_sides : (look : Lookup) (op : BinOp) (a b : ExprTree) → IsShift op → sides look op a b ≡ kinds.Int
shift_sides look _ a b to_left = refl
shift_sides look _ a b to_right = refl

module _ (look : Lookup) (variables : List Held) where
  -- the values of the indexes of a range, and what is made of them
  abbrev range_got : List ℕ → Got Value → Got Value → Got Value
  range_got name x y =
      then_get (then_get x (λ v. then_get y (λ w. Known (v ∷ w ∷ [])))) (source_integer variables (Range of_programs (look.variable name)))

  abbrev whole_bits : List Bool → Span → List Bool
  whole_bits bits span = span_bits span bits

  -- that the value of an expression, where one of a kind is wanted, is an integer
  abbrev IsIntegerOf : ValueKind → ExprTree → ℤ → Type 0
  IsIntegerOf kind e z = value_of look variables kind e ≡ Known (Int z)

  mutual
    pub expr_breaks : (kind : ValueKind) (e : ExprTree) → Breaks (ExprBreaks look variables kind e) (value_of look variables kind e)
    expr_breaks kind (number z) = literal_breaks (ExprBreaks look variables kind (number z)) kind z
    expr_breaks kind (scalar name) = scalar_breaks (ExprBreaks look variables kind (scalar name)) (held_by look variables name)
    expr_breaks kind (element name e) =
        let P : RunFault → Type 0 = ExprBreaks look variables kind (element name e) in
        let o : Option Held = held_by look variables name in
        let v : Got Value = value_of look variables kinds.Int e in
        then_breaks P v (element_of o) (breaks_more (ExprBreaks look variables kinds.Int e) P v (λ k h. of_index h) (expr_breaks kinds.Int e))
        (λ x known. element_breaks P o x (λ z size is sized out. index_outside z size (known ∙ ap Known is) sized out))
    expr_breaks kind (unary op e) =
        let P : RunFault → Type 0 = ExprBreaks look variables kind (unary op e) in
        let v : Got Value = value_of look variables (unary_side op) e in
        then_breaks P v (signed op) (breaks_more (ExprBreaks look variables (unary_side op) e) P v (λ k h. of_operand h) (expr_breaks (unary_side op) e))
        (λ x known. signed_breaks P op x)
    expr_breaks kind (binary op a b) =
        let P : RunFault → Type 0 = ExprBreaks look variables kind (binary op a b) in
        let side : ValueKind = sides look op a b in
        let v : Got Value = value_of look variables side a in
        let w : Got Value = value_of look variables side b in
        then_breaks P v (λ x. then_get w (λ y. combined op x y))
        (breaks_more (ExprBreaks look variables side a) P v (λ k h. of_left h) (expr_breaks side a))
        (λ x known. then_breaks P w (combined op x)
        (breaks_more (ExprBreaks look variables side b) P w (λ k h. of_right x known h) (expr_breaks side b))
        (λ y known2. combined_breaks P op x y
        (λ z is division by_zero. divides_by_zero z division
        (subst (λ s. IsIntegerOf s a z) (division_sides look op a b division) (known ∙ ap Known is))
        (subst (λ s. IsIntegerOf s b (pos 0)) (division_sides look op a b division) (known2 ∙ ap Known by_zero)))
        (λ z n is count shift out. shifts_too_far z n shift
        (subst (λ s. IsIntegerOf s a z) (shift_sides look op a b shift) (known ∙ ap Known is))
        (subst (λ s. IsIntegerOf s b n) (shift_sides look op a b shift) (known2 ∙ ap Known count)) out)))
    expr_breaks kind (abs e) =
        let P : RunFault → Type 0 = ExprBreaks look variables kind (abs e) in
        let v : Got Value = value_of look variables kinds.Int e in
        then_breaks P v absolute (breaks_more (ExprBreaks look variables kinds.Int e) P v (λ k h. of_absolute h) (expr_breaks kinds.Int e))
        (λ x known. absolute_breaks P x)
    expr_breaks kind (int a) =
        breaks_more (ArrayBreaks look variables a) (ExprBreaks look variables kind (int a))
        (then_get (source_values look variables a) (source_integer variables (source_of look a))) (λ k h. of_array h) (integer_breaks a)

    -- the integer of the bits of an array
    integer_breaks : (a : ArrayTree) →
        Breaks (ArrayBreaks look variables a) (then_get (source_values look variables a) (source_integer variables (source_of look a)))
    integer_breaks (bit_literal bits) = tt
    integer_breaks (whole name) =
        let P : RunFault → Type 0 = ArrayBreaks look variables (whole name) in
        then_breaks P (bits_held (held_by look variables name)) (λ bits. Known (integer_from bits)) (whole_breaks P (held_by look variables name)) (λ bits _. tt)
    integer_breaks (range name first second) =
        by (value_of look variables kinds.Int first) refl (expr_breaks kinds.Int first) (value_of look variables kinds.Int second) refl (expr_breaks kinds.Int second)
      where
        by : (x : Got Value) → value_of look variables kinds.Int first ≡ x → Breaks (ExprBreaks look variables kinds.Int first) x →
            (y : Got Value) → value_of look variables kinds.Int second ≡ y → Breaks (ExprBreaks look variables kinds.Int second) y →
            Breaks (ArrayBreaks look variables (range name first second)) (range_got name x y)
        by (Faults k) e p y f q = of_first p
        by Stuck e p y f q = tt
        by (Known x) e p (Faults k) f q = of_second x e q
        by (Known x) e p Stuck f q = tt
        by (Known x) e p (Known y) f q =
            then_breaks (ArrayBreaks look variables (range name first second)) (bits_between of_programs (held_by look variables name) x y) (λ bits. Known (integer_from bits))
            (span_breaks (ArrayBreaks look variables (range name first second)) (λ _. Unit {0}) (held_by look variables name) x y whole_bits
            (λ i j size is_i is_j sized k out. of_range i j size (e ∙ ap Known is_i) (f ∙ ap Known is_j) sized out)
            (λ bs i j _ _ _ _ _. tt))
            (λ bits _. tt)
    integer_breaks (of_int e) = by (value_of look variables kinds.Int e) (expr_breaks kinds.Int e)
      where
        by : (x : Got Value) → Breaks (ExprBreaks look variables kinds.Int e) x →
            Breaks (ArrayBreaks look variables (of_int e)) (then_get (then_get x (λ v. Known (v ∷ []))) (source_integer variables OfInt))
        by (Faults k) p = of_integer p
        by Stuck p = tt
        by (Known (Int z)) p = tt
        by (Known (Bit b)) p = tt

  mutual
    pub expr_faults : {kind : ValueKind} {e : ExprTree} {k : RunFault} → ExprBreaks look variables kind e k → value_of look variables kind e ≡ Faults k
    expr_faults (of_index {name = name} h) = then_faults (element_of (held_by look variables name)) (expr_faults h)
    expr_faults (index_outside {name = name} z size is sized out) =
        then_known (element_of (held_by look variables name)) is ∙ element_faults (held_by look variables name) z size sized out
    expr_faults (of_operand {op = op} h) = then_faults (signed op) (expr_faults h)
    expr_faults (of_absolute h) = then_faults absolute (expr_faults h)
    expr_faults (of_array h) = integer_faults h
    expr_faults (of_left {op = op} {a = a} {b = b} h) =
        then_faults (λ x. then_get (value_of look variables (sides look op a b) b) (λ y. combined op x y)) (expr_faults h)
    expr_faults (of_right {op = op} {a = a} {b = b} x is h) =
        then_known (λ x. then_get (value_of look variables (sides look op a b) b) (λ y. combined op x y)) is ∙ then_faults (combined op x) (expr_faults h)
    expr_faults (divides_by_zero {b = b} x quotient is by_zero) =
        then_known (λ x. then_get (value_of look variables kinds.Int b) (λ y. combined Divide x y)) is ∙ then_known (combined Divide (Int x)) by_zero
    expr_faults (divides_by_zero {b = b} x remainder is by_zero) =
        then_known (λ x. then_get (value_of look variables kinds.Int b) (λ y. combined Remainder x y)) is ∙ then_known (combined Remainder (Int x)) by_zero
    expr_faults (shifts_too_far {b = b} x z to_left is count out) =
        then_known (λ x. then_get (value_of look variables kinds.Int b) (λ y. combined ShiftLeft x y)) is
        ∙ then_known (combined ShiftLeft (Int x)) count ∙ shift_faults z _ out
    expr_faults (shifts_too_far {b = b} x z to_right is count out) =
        then_known (λ x. then_get (value_of look variables kinds.Int b) (λ y. combined ShiftRight x y)) is
        ∙ then_known (combined ShiftRight (Int x)) count ∙ shift_faults z _ out

    integer_faults : {a : ArrayTree} {k : RunFault} → ArrayBreaks look variables a k →
        then_get (source_values look variables a) (source_integer variables (source_of look a)) ≡ Faults k
    integer_faults (of_first {name = name} {second = second} h) = ap (λ x. range_got name x (value_of look variables kinds.Int second)) (expr_faults h)
    integer_faults (of_second {name = name} {second = second} x is h) =
        ap (λ x. range_got name x (value_of look variables kinds.Int second)) is ∙ ap (range_got name (Known x)) (expr_faults h)
    integer_faults (of_range {name = name} {second = second} {k = k} i j size is_i is_j sized out) =
        ap (λ x. range_got name x (value_of look variables kinds.Int second)) is_i ∙ ap (range_got name (Known (Int i))) is_j
        ∙ then_faults (λ bits. Known (integer_from bits)) (span_faults (held_by look variables name) i j size k whole_bits sized out)
    integer_faults (of_integer h) = ap (λ x. then_get (then_get x (λ v. Known (v ∷ []))) (source_integer variables OfInt)) (expr_faults h)
