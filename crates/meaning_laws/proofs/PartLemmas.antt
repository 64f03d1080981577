-- The operands of a statement are its written parts, and they break by the table exactly if their values are faults
use Rattle.std.proofs.Common.{◌≡◌, ℕ, ◌<◌, ◌≤◌, Bool, true, false, List, [], ◌∷◌, ◌++◌, map, length, Option, Some, None, ℤ, pos, negsuc, refl, sym, ap, ◌∙◌, subst, subst₂, arith, nat_lt, append-nil}
use Rattle.std.proofs.lemmas.Bool.{ltb-true, lt-ltb}
use Rattle.stapl_syntax.specs.Kinds.{expr_kind}
use Rattle.stapl_syntax.specs.Trees.{ExprTree, number, scalar, element, unary, binary, abs, int, ArrayTree, literal as bit_literal, whole, range, of_int, CompareTree, PartTree, string, value, character, BodyTree, note, action, procedure, data_block, end_data, crc, end_procedure, boolean, boolean_array, integer, integer_array, assign, assign_element, assign_array, assign_range, call, goto, if_then, for_loop, next, push, pop, print, exported_value, exported_array, export, exit, scan, stop, pad, state_list, wait_cycles, wait_usec, frequency}
use Rattle.stapl_meaning.specs.declared.events.RunFault.{RunFault}
use Rattle.stapl_meaning.specs.declared.events.RunFault.TheVariants.{IndexOutOfRange, BadChar}
use Rattle.stapl_meaning.specs.declared.values.ValueKind.{ValueKind}
use Rattle.stapl_meaning.specs.declared.values.ValueKind.TheVariants as kinds
use Rattle.stapl_meaning.specs.declared.values.Value.{Value}
use Rattle.stapl_meaning.specs.declared.values.Value.TheVariants.{Int, Bit}
use Rattle.stapl_meaning.specs.declared.values.Held.{Held}
use Rattle.stapl_meaning.specs.declared.values.Held.TheVariants as held
use Rattle.stapl_meaning.specs.Values.{Got, Known, Faults, Stuck, then_get, is_index, passed, index_held, bits_held, Span, span_of, range_held, of_programs, Lookup, value_of}
use Rattle.stapl_meaning.specs.Operands.{Plain, Character, Index, Range, Operand, plain, an_integer, a_character, an_index, array_operands, target_operands, compare_operands, part_operands, character_of, tested, operand_value, values_after, printed_kind}
use Rattle.stapl_meaning.specs.Turns.{operands}
use Rattle.stapl_meaning.specs.Scopes.{Scope}
use Rattle.meaning_laws.specs.Limits.{IsOutside, IsNoIndex}
use Rattle.meaning_laws.specs.ExprFaults.{size_of, bit_count, held_by, IsInteger, ExprBreaks, ArrayBreaks, of_first, of_second, of_range, of_integer}
use Rattle.meaning_laws.specs.PartFaults.{WrittenPart, value_part, character_part, index_part, array_part, printed_parts, target_arrays, compared_arrays, result_parts, written_parts, ArrayIs, literal_is, whole_is, range_is, integer_is, PartIs, value_is, character_is, index_is, array_is, PartsAre, no_parts, more_parts, PartBreaks, of_value, of_character, no_character, of_target_index, target_outside, of_part_array, PartsBreak, first_part, later_part}
use Rattle.meaning_laws.proofs.Gets.{Gives, then_gives, gives_more, then_known, then_faults}
use Rattle.meaning_laws.proofs.LimitLemmas.{no_index, not_index, outside, not_outside, part_of, part_known}
use Rattle.meaning_laws.proofs.ExprLemmas.{span_breaks, span_faults, expr_breaks, expr_faults}

-- ---- parts as operands

abbrev pub operands_of : Lookup → List WrittenPart → List Operand
operands_of look [] = []
operands_of look (value_part kind e ∷ ps) = plain kind e ∷ operands_of look ps
operands_of look (character_part e ∷ ps) = a_character e ∷ operands_of look ps
operands_of look (index_part name e ∷ ps) = an_index (look.variable name) e ∷ operands_of look ps
operands_of look (array_part a ∷ ps) = array_operands look a ++ operands_of look ps

printed_operands : (look : Lookup) (parts : List PartTree) → part_operands look parts ≡ operands_of look (printed_parts look parts)
printed_operands look [] = refl
printed_operands look (string bytes ∷ parts) = printed_operands look parts
printed_operands look (value e ∷ parts) = ap (λ os. plain (printed_kind (expr_kind look.kind e)) e ∷ os) (printed_operands look parts)
printed_operands look (character e ∷ parts) = ap (λ os. a_character e ∷ os) (printed_operands look parts)

compared_operands : (look : Lookup) (compare : Option CompareTree) →
    compare_operands look compare ≡ operands_of look (map array_part (compared_arrays compare) ++ result_parts compare)
compared_operands look None = refl
compared_operands look (Some (expected, (mask, number z))) = refl
compared_operands look (Some (expected, (mask, scalar name))) = refl
compared_operands look (Some (expected, (mask, element name index))) = refl
compared_operands look (Some (expected, (mask, unary op e))) = refl
compared_operands look (Some (expected, (mask, binary op a b))) = refl
compared_operands look (Some (expected, (mask, abs e))) = refl
compared_operands look (Some (expected, (mask, int a))) = refl

after_target : (look : Lookup) (target : Option ArrayTree) (compared : List ArrayTree) (result : List WrittenPart) (os : List Operand) →
    os ≡ operands_of look (map array_part compared ++ result) →
    target_operands look target ++ os ≡ operands_of look (map array_part (target_arrays target ++ compared) ++ result)
after_target look None compared result os e = e
after_target look (Some (bit_literal bits)) compared result os e = e
after_target look (Some (whole name)) compared result os e = e
after_target look (Some (range name first second)) compared result os e = ap (λ os. array_operands look (range name first second) ++ os) e
after_target look (Some (of_int x)) compared result os e = e

pub operands_are : (scope : Scope) (b : BodyTree) → operands scope b ≡ operands_of scope.look (written_parts scope.look b)
operands_are scope (note key text) = refl
operands_are scope (action name text items) = refl
operands_are scope (procedure name uses) = refl
operands_are scope (data_block name) = refl
operands_are scope end_data = refl
operands_are scope (crc n) = refl
operands_are scope end_procedure = refl
operands_are scope (boolean name None) = refl
operands_are scope (boolean name (Some b)) = refl
operands_are scope (boolean_array name size bits) = refl
operands_are scope (integer name None) = refl
operands_are scope (integer name (Some z)) = refl
operands_are scope (integer_array name size zs) = refl
operands_are scope (assign name e) = refl
operands_are scope (assign_element name index e) = refl
operands_are scope (assign_array name a) = sym (append-nil (array_operands scope.look a))
operands_are scope (assign_range name first second a) =
    ap (λ os. array_operands scope.look (range name first second) ++ os) (sym (append-nil (array_operands scope.look a)))
operands_are scope (call name) = refl
operands_are scope (goto name) = refl
operands_are scope (if_then e body) = refl
operands_are scope (for_loop name from to step) = refl
operands_are scope (next name) = refl
operands_are scope (push e) = refl
operands_are scope (pop (number z)) = refl
operands_are scope (pop (scalar name)) = refl
operands_are scope (pop (element name index)) = refl
operands_are scope (pop (unary op e)) = refl
operands_are scope (pop (binary op a b)) = refl
operands_are scope (pop (abs e)) = refl
operands_are scope (pop (int a)) = refl
operands_are scope (print parts) = printed_operands scope.look parts
operands_are scope (export key (exported_value e)) = refl
operands_are scope (export key (exported_array a)) = sym (append-nil (array_operands scope.look a))
operands_are scope (exit e) = refl
operands_are scope (scan register count source target compare) =
    ap (λ os. an_integer count ∷ (array_operands scope.look source ++ os))
    (after_target scope.look target (compared_arrays compare) (result_parts compare) (compare_operands scope.look compare)
    (compared_operands scope.look compare))
operands_are scope (stop register state) = refl
operands_are scope (pad which count None) = refl
operands_are scope (pad which count (Some a)) = ap (λ os. an_integer count ∷ os) (sym (append-nil (array_operands scope.look a)))
operands_are scope (state_list states) = refl
operands_are scope (wait_cycles state cycles None last) = refl
operands_are scope (wait_cycles state cycles (Some e) last) = refl
operands_are scope (wait_usec state usec last) = refl
operands_are scope (frequency None) = refl
operands_are scope (frequency (Some e)) = refl

-- ---- small facts

same_list : {A : Type 0} (g : Got (List A)) → g ≡ then_get g (λ vs. Known ([] ++ vs))
same_list (Known vs) = refl
same_list (Faults k) = refl
same_list Stuck = refl

two_after : (x y : Value) (g : Got (List Value)) →
    then_get (then_get g (λ vs. Known (y ∷ vs))) (λ vs. Known (x ∷ vs)) ≡ then_get g (λ vs. Known (x ∷ (y ∷ vs)))
two_after x y (Known vs) = refl
two_after x y (Faults k) = refl
two_after x y Stuck = refl

-- a variable that has bits
pub record HoldsBits (o : Option Held) : Type 0 where
  pub bits : List Bool
  pub is : o ≡ Some (held.Bits bits)

pub holds_bits : (o : Option Held) (n : ℕ) → bit_count o ≡ Some n → HoldsBits o
holds_bits None n e = absurd cc
holds_bits (Some (held.Int z)) n e = absurd cc
holds_bits (Some (held.Bit b)) n e = absurd cc
holds_bits (Some (held.Ints zs)) n e = absurd cc
holds_bits (Some (held.Bits bs)) n e = record { bits = bs; is = refl }

pub some_same : {x y : ℕ} → Some x ≡ Some y → x ≡ y
some_same e = cc

-- the last of some values, if there are any, else what stood before them
abbrev last_of : Option Value → List Value → Option Value
last_of before [] = before
last_of before (v ∷ vs) = last_of (Some v) vs

module _ (look : Lookup) (variables : List Held) where
  -- the values of an operand, and then those of the others
  abbrev one_then : Got Value → List Operand → Got (List Value)
  one_then g os = then_get g (λ v. then_get (values_after look variables (Some v) os) (λ vs. Known (v ∷ vs)))

  -- ---- what the values of parts are, or where they break

  one_gives : (p : WrittenPart) (ps : List WrittenPart) (g : Got Value) → Gives (λ v. PartIs look variables p (v ∷ [])) (PartBreaks look variables p) g →
      ((v : Value) → Gives (PartsAre look variables ps) (PartsBreak look variables ps) (values_after look variables (Some v) (operands_of look ps))) →
      Gives (PartsAre look variables (p ∷ ps)) (PartsBreak look variables (p ∷ ps)) (one_then g (operands_of look ps))
  one_gives p ps g h others =
      let P : RunFault → Type 0 = PartsBreak look variables (p ∷ ps) in
      let Q : List Value → Type 0 = PartsAre look variables (p ∷ ps) in
      let here : Value → Type 0 = λ v. PartIs look variables p (v ∷ []) in
      then_gives here Q P g (λ v. then_get (values_after look variables (Some v) (operands_of look ps)) (λ vs. Known (v ∷ vs)))
      (gives_more here (PartBreaks look variables p) P g (λ k b. first_part b) h)
      (λ v _ is.
      let rest : Got (List Value) = values_after look variables (Some v) (operands_of look ps) in
      then_gives (PartsAre look variables ps) Q P rest (λ vs. Known (v ∷ vs))
      (gives_more (PartsAre look variables ps) (PartsBreak look variables ps) P rest (λ k b. later_part is b) (others v))
      (λ vs _ are. more_parts is are))

  -- the value of an expression, and then a test of it
  test_gives : (Q : Value → Type 0) (P : RunFault → Type 0) (kind : ValueKind) (e : ExprTree) (test : Value → Got Value) →
      ((k : RunFault) → ExprBreaks look variables kind e k → P k) →
      ((v : Value) → value_of look variables kind e ≡ Known v → Gives Q P (test v)) → Gives Q P (then_get (value_of look variables kind e) test)
  test_gives Q P kind e test p q =
      then_gives (λ _. Unit {0}) Q P (value_of look variables kind e) test
      (gives_more (λ _. Unit {0}) (ExprBreaks look variables kind e) P (value_of look variables kind e) p (expr_breaks look variables kind e))
      (λ v known _. q v known)

  character_gives : (e : ExprTree) (v : Value) → value_of look variables kinds.Int e ≡ Known v →
      Gives (λ v. PartIs look variables (character_part e) (v ∷ [])) (PartBreaks look variables (character_part e)) (character_of v)
  character_gives e (Bit b) known = tt
  character_gives e (Int (negsuc n)) known = no_character (negsuc n) known (outside 255 (negsuc n) refl)
  character_gives e (Int (pos n)) known = by (nat_lt n 256) refl
    where
      by : (t : Bool) → nat_lt n 256 ≡ t →
          Gives (λ v. PartIs look variables (character_part e) (v ∷ [])) (PartBreaks look variables (character_part e)) (passed t BadChar (Int (pos n)))
      by true f = let few : n < 256 = ltb-true n 256 f in character_is n known (omega (arith, few))
      by false f = no_character (pos n) known (outside 255 (pos n) f)

  index_tested : (name : List ℕ) (e : ExprTree) (z : ℤ) (size : ℕ) → IsInteger look variables e z → size_of (held_by look variables name) ≡ Some size →
      (t : Bool) → is_index z size ≡ t →
      Gives (λ v. PartIs look variables (index_part name e) (v ∷ [])) (PartBreaks look variables (index_part name e)) (passed t IndexOutOfRange (Int z))
  index_tested name e z size known sized false f = target_outside z size known sized (no_index size z f)
  index_tested name e (pos i) size known sized true f = index_is i size known sized (ltb-true i size f)
  index_tested name e (negsuc i) size known sized true f = absurd cc

  index_gives : (name : List ℕ) (e : ExprTree) (v : Value) → value_of look variables kinds.Int e ≡ Known v → (o : Option Held) →
      held_by look variables name ≡ o →
      Gives (λ v. PartIs look variables (index_part name e) (v ∷ [])) (PartBreaks look variables (index_part name e)) (index_held o v)
  index_gives name e v known None f = tt
  index_gives name e v known (Some (held.Int z)) f = tt
  index_gives name e v known (Some (held.Bit b)) f = tt
  index_gives name e (Bit b) known (Some (held.Ints zs)) f = tt
  index_gives name e (Bit b) known (Some (held.Bits bs)) f = tt
  index_gives name e (Int z) known (Some (held.Ints zs)) f = index_tested name e z (length zs) known (ap size_of f) (is_index z (length zs)) refl
  index_gives name e (Int z) known (Some (held.Bits bs)) f = index_tested name e z (length bs) known (ap size_of f) (is_index z (length bs)) refl

  range_gives : (name : List ℕ) (first second : ExprTree) (x y : Value) → value_of look variables kinds.Int first ≡ Known x →
      value_of look variables kinds.Int second ≡ Known y →
      Gives (λ v. ArrayIs look variables (range name first second) (x ∷ v ∷ [])) (ArrayBreaks look variables (range name first second))
      (range_held of_programs (held_by look variables name) x y)
  range_gives name first second x y e f =
      span_breaks (ArrayBreaks look variables (range name first second)) (λ v. ArrayIs look variables (range name first second) (x ∷ v ∷ []))
      (held_by look variables name) x y (λ bits span. y)
      (λ i j size is_i is_j sized k out. of_range i j size (e ∙ ap Known is_i) (f ∙ ap Known is_j) sized out)
      (λ bs i j o is_i is_j first_in second_in.
      subst₂ (λ x y. ArrayIs look variables (range name first second) (x ∷ y ∷ [])) (sym is_i) (sym is_j)
      (range_is i j (length bs) (e ∙ ap Known is_i) (f ∙ ap Known is_j) (ap bit_count o) first_in second_in))

  -- an array without indexes has no values
  same_after : (before : Option Value) (a : ArrayTree) (ps : List WrittenPart) → ArrayIs look variables a [] →
      Gives (PartsAre look variables ps) (PartsBreak look variables ps) (values_after look variables before (operands_of look ps)) →
      Gives (PartsAre look variables (array_part a ∷ ps)) (PartsBreak look variables (array_part a ∷ ps))
      (values_after look variables before (operands_of look ps))
  same_after before a ps is h = by (values_after look variables before (operands_of look ps)) h
    where
      by : (g : Got (List Value)) → Gives (PartsAre look variables ps) (PartsBreak look variables ps) g →
          Gives (PartsAre look variables (array_part a ∷ ps)) (PartsBreak look variables (array_part a ∷ ps)) g
      by (Known vs) are = more_parts (array_is is) are
      by (Faults k) b = later_part (array_is is) b
      by Stuck b = tt

  range_then_gives : (before : Option Value) (name : List ℕ) (first second : ExprTree) (ps : List WrittenPart) →
      ((v : Value) → Gives (PartsAre look variables ps) (PartsBreak look variables ps) (values_after look variables (Some v) (operands_of look ps))) →
      Gives (PartsAre look variables (array_part (range name first second) ∷ ps)) (PartsBreak look variables (array_part (range name first second) ∷ ps))
      (values_after look variables before (array_operands look (range name first second) ++ operands_of look ps))
  range_then_gives before name first second ps others =
      let p : WrittenPart = array_part (range name first second) in
      let P : RunFault → Type 0 = PartsBreak look variables (p ∷ ps) in
      let Q : List Value → Type 0 = PartsAre look variables (p ∷ ps) in
      let second_operand : Operand = record { expr = second; kind = kinds.Int; test = Range (look.variable name) } in
      let os : List Operand = operands_of look ps in
      let ends : Value → List Value → Type 0 = λ x vs. Q (x ∷ vs) in
      then_gives (λ x. value_of look variables kinds.Int first ≡ Known x) Q P (operand_value look variables before (an_integer first))
      (λ x. then_get (values_after look variables (Some x) (second_operand ∷ os)) (λ vs. Known (x ∷ vs)))
      (test_gives (λ x. value_of look variables kinds.Int first ≡ Known x) P kinds.Int first (tested look variables Plain before)
      (λ k h. first_part (of_part_array (of_first h))) (λ x known. known))
      (λ x _ known.
      then_gives (ends x) Q P (values_after look variables (Some x) (second_operand ∷ os)) (λ vs. Known (x ∷ vs))
      (let is_range : Value → Type 0 = λ y. ArrayIs look variables (range name first second) (x ∷ y ∷ []) in
      then_gives is_range (ends x) P (operand_value look variables (Some x) second_operand)
      (λ y. then_get (values_after look variables (Some y) os) (λ vs. Known (y ∷ vs)))
      (test_gives is_range P kinds.Int second (tested look variables (Range (look.variable name)) (Some x))
      (λ k h. first_part (of_part_array (of_second x known h)))
      (λ y known2. gives_more is_range (ArrayBreaks look variables (range name first second)) P (range_held of_programs (held_by look variables name) x y)
      (λ k h. first_part (of_part_array h)) (range_gives name first second x y known known2)))
      (λ y _ is.
      then_gives (PartsAre look variables ps) (ends x) P (values_after look variables (Some y) os) (λ vs. Known (y ∷ vs))
      (gives_more (PartsAre look variables ps) (PartsBreak look variables ps) P (values_after look variables (Some y) os)
      (λ k b. later_part (array_is is) b) (others y))
      (λ vs _ are. more_parts (array_is is) are)))
      (λ vs _ h. h))

  pub parts_give : (before : Option Value) (ps : List WrittenPart) →
      Gives (PartsAre look variables ps) (PartsBreak look variables ps) (values_after look variables before (operands_of look ps))
  parts_give before [] = no_parts
  parts_give before (value_part kind e ∷ ps) =
      one_gives (value_part kind e) ps (operand_value look variables before (plain kind e))
      (test_gives (λ v. PartIs look variables (value_part kind e) (v ∷ [])) (PartBreaks look variables (value_part kind e)) kind e
      (tested look variables Plain before) (λ k h. of_value h) (λ v known. value_is v known))
      (λ v. parts_give (Some v) ps)
  parts_give before (character_part e ∷ ps) =
      one_gives (character_part e) ps (operand_value look variables before (a_character e))
      (test_gives (λ v. PartIs look variables (character_part e) (v ∷ [])) (PartBreaks look variables (character_part e)) kinds.Int e
      (tested look variables Character before) (λ k h. of_character h) (λ v known. character_gives e v known))
      (λ v. parts_give (Some v) ps)
  parts_give before (index_part name e ∷ ps) =
      one_gives (index_part name e) ps (operand_value look variables before (an_index (look.variable name) e))
      (test_gives (λ v. PartIs look variables (index_part name e) (v ∷ [])) (PartBreaks look variables (index_part name e)) kinds.Int e
      (tested look variables (Index (look.variable name)) before) (λ k h. of_target_index h)
      (λ v known. index_gives name e v known (held_by look variables name) refl))
      (λ v. parts_give (Some v) ps)
  parts_give before (array_part (bit_literal bits) ∷ ps) = same_after before (bit_literal bits) ps literal_is (parts_give before ps)
  parts_give before (array_part (whole name) ∷ ps) = same_after before (whole name) ps whole_is (parts_give before ps)
  parts_give before (array_part (of_int e) ∷ ps) =
      one_gives (array_part (of_int e)) ps (operand_value look variables before (an_integer e))
      (test_gives (λ v. PartIs look variables (array_part (of_int e)) (v ∷ [])) (PartBreaks look variables (array_part (of_int e))) kinds.Int e
      (tested look variables Plain before) (λ k h. of_part_array (of_integer h)) (λ v known. array_is (integer_is v known)))
      (λ v. parts_give (Some v) ps)
  parts_give before (array_part (range name first second) ∷ ps) =
      range_then_gives before name first second ps (λ v. parts_give (Some v) ps)

  -- ---- the other way round

  character_known : (n : ℕ) → n ≤ 255 → character_of (Int (pos n)) ≡ Known (Int (pos n))
  character_known n few = let e : nat_lt n 256 ≡ true = lt-ltb n 256 (omega (arith, few)) in ap (λ t. passed t BadChar (Int (pos n))) e

  character_faults : (z : ℤ) → IsOutside (pos 0) (pos 255) z → character_of (Int z) ≡ Faults BadChar
  character_faults z out = let e : is_index z 256 ≡ false = not_outside 255 z out in ap (λ t. passed t BadChar (Int z)) e

  pub index_known : (o : Option Held) (i size : ℕ) → size_of o ≡ Some size → i < size → index_held o (Int (pos i)) ≡ Known (Int (pos i))
  index_known None i size sized inside = absurd cc
  index_known (Some (held.Int z)) i size sized inside = absurd cc
  index_known (Some (held.Bit b)) i size sized inside = absurd cc
  index_known (Some (held.Ints zs)) i size sized inside =
      let same : size ≡ length zs = cc in
      ap (λ t. passed t IndexOutOfRange (Int (pos i))) (lt-ltb i (length zs) (subst (λ n. i < n) same inside))
  index_known (Some (held.Bits bs)) i size sized inside =
      let same : size ≡ length bs = cc in
      ap (λ t. passed t IndexOutOfRange (Int (pos i))) (lt-ltb i (length bs) (subst (λ n. i < n) same inside))

  index_faults : (o : Option Held) (z : ℤ) (size : ℕ) → size_of o ≡ Some size → IsNoIndex size z → index_held o (Int z) ≡ Faults IndexOutOfRange
  index_faults None z size sized out = absurd cc
  index_faults (Some (held.Int x)) z size sized out = absurd cc
  index_faults (Some (held.Bit b)) z size sized out = absurd cc
  index_faults (Some (held.Ints zs)) z size sized out =
      let same : size ≡ length zs = cc in
      ap (λ t. passed t IndexOutOfRange (Int z)) (not_index (length zs) z (subst (λ n. IsNoIndex n z) same out))
  index_faults (Some (held.Bits bs)) z size sized out =
      let same : size ≡ length bs = cc in
      ap (λ t. passed t IndexOutOfRange (Int z)) (not_index (length bs) z (subst (λ n. IsNoIndex n z) same out))

  -- a range of an array that holds so many bits, with what is made of it
  pub span_known : {A : Type 0} (o : Option Held) (i j size : ℕ) (make : List Bool → Span → A) (bs : List Bool) → o ≡ Some (held.Bits bs) →
      bit_count o ≡ Some size → i < size → j < size →
      then_get (bits_held o) (λ bits. then_get (span_of of_programs (length bits) (Int (pos i)) (Int (pos j))) (λ span. Known (make bits span)))
      ≡ Known (make bs (part_of i j))
  span_known o i j size make bs is sized first_in second_in =
      let same : size ≡ length bs = some_same (sym sized ∙ ap bit_count is) in
      ap (λ o. then_get (bits_held o) (λ bits. then_get (span_of of_programs (length bits) (Int (pos i)) (Int (pos j))) (λ span. Known (make bits span)))) is
      ∙ then_known (λ span. Known (make bs span)) (part_known (length bs) i j (subst (λ n. i < n) same first_in) (subst (λ n. j < n) same second_in))

  range_known : (o : Option Held) (i j size : ℕ) → bit_count o ≡ Some size → i < size → j < size →
      range_held of_programs o (Int (pos i)) (Int (pos j)) ≡ Known (Int (pos j))
  range_known o i j size sized first_in second_in =
      let b : HoldsBits o = holds_bits o size sized in span_known o i j size (λ bits span. Int (pos j)) b.bits b.is sized first_in second_in

  part_after : {p : WrittenPart} {us : List Value} (before : Option Value) → PartIs look variables p us → (ps : List WrittenPart) →
      values_after look variables before (operands_of look (p ∷ ps))
      ≡ then_get (values_after look variables (last_of before us) (operands_of look ps)) (λ vs. Known (us ++ vs))
  part_after before (value_is v known) ps = ap (λ g. one_then (then_get g (tested look variables Plain before)) (operands_of look ps)) known
  part_after before (character_is n known few) ps =
      ap (λ g. one_then g (operands_of look ps)) (then_known (tested look variables Character before) known ∙ character_known n few)
  part_after before (index_is {name = name} i size known sized inside) ps =
      ap (λ g. one_then g (operands_of look ps))
      (then_known (tested look variables (Index (look.variable name)) before) known ∙ index_known (held_by look variables name) i size sized inside)
  part_after before (array_is literal_is) ps = same_list (values_after look variables before (operands_of look ps))
  part_after before (array_is whole_is) ps = same_list (values_after look variables before (operands_of look ps))
  part_after before (array_is (integer_is v known)) ps =
      ap (λ g. one_then (then_get g (tested look variables Plain before)) (operands_of look ps)) known
  part_after before (array_is (range_is {name = name} {second = second} i j size is_i is_j sized first_in second_in)) ps =
      let o : Option Held = held_by look variables name in
      let os : List Operand = operands_of look ps in
      let second_operand : Operand = record { expr = second; kind = kinds.Int; test = Range (look.variable name) } in
      let tested_range : then_get (value_of look variables kinds.Int second) (range_held of_programs o (Int (pos i))) ≡ Known (Int (pos j)) =
      then_known (range_held of_programs o (Int (pos i))) is_j ∙ range_known o i j size sized first_in second_in in
      ap (λ g. one_then (then_get g (tested look variables Plain before)) (second_operand ∷ os)) is_i
      ∙ ap (λ g. then_get (one_then g os) (λ vs. Known (Int (pos i) ∷ vs))) tested_range
      ∙ two_after (Int (pos i)) (Int (pos j)) (values_after look variables (Some (Int (pos j))) os)

  pub parts_known : {ps : List WrittenPart} {vs : List Value} (before : Option Value) → PartsAre look variables ps vs →
      values_after look variables before (operands_of look ps) ≡ Known vs
  parts_known before no_parts = refl
  parts_known before (more_parts {ps = ps} {us = us} is are) =
      part_after before is ps ∙ then_known (λ vs. Known (us ++ vs)) (parts_known (last_of before us) are)

  part_faults : {p : WrittenPart} {k : RunFault} (before : Option Value) → PartBreaks look variables p k → (ps : List WrittenPart) →
      values_after look variables before (operands_of look (p ∷ ps)) ≡ Faults k
  part_faults before (of_value h) ps =
      ap (λ g. one_then (then_get g (tested look variables Plain before)) (operands_of look ps)) (expr_faults look variables h)
  part_faults before (of_character h) ps =
      ap (λ g. one_then (then_get g (tested look variables Character before)) (operands_of look ps)) (expr_faults look variables h)
  part_faults before (no_character z known out) ps =
      ap (λ g. one_then g (operands_of look ps)) (then_known (tested look variables Character before) known ∙ character_faults z out)
  part_faults before (of_target_index {name = name} h) ps =
      ap (λ g. one_then (then_get g (tested look variables (Index (look.variable name)) before)) (operands_of look ps)) (expr_faults look variables h)
  part_faults before (target_outside {name = name} z size known sized out) ps =
      ap (λ g. one_then g (operands_of look ps))
      (then_known (tested look variables (Index (look.variable name)) before) known ∙ index_faults (held_by look variables name) z size sized out)
  part_faults before (of_part_array (of_first {name = name} {second = second} h)) ps =
      let second_operand : Operand = record { expr = second; kind = kinds.Int; test = Range (look.variable name) } in
      ap (λ g. one_then (then_get g (tested look variables Plain before)) (second_operand ∷ operands_of look ps)) (expr_faults look variables h)
  part_faults before (of_part_array (of_second {name = name} {second = second} x is h)) ps =
      let second_operand : Operand = record { expr = second; kind = kinds.Int; test = Range (look.variable name) } in
      let o : Option Held = held_by look variables name in
      let os : List Operand = operands_of look ps in
      ap (λ g. one_then (then_get g (tested look variables Plain before)) (second_operand ∷ os)) is
      ∙ ap (λ g. then_get (one_then (then_get g (range_held of_programs o x)) os) (λ vs. Known (x ∷ vs))) (expr_faults look variables h)
  part_faults before (of_part_array (of_range {name = name} {second = second} {k = k} i j size is_i is_j sized out)) ps =
      let second_operand : Operand = record { expr = second; kind = kinds.Int; test = Range (look.variable name) } in
      let o : Option Held = held_by look variables name in
      let os : List Operand = operands_of look ps in
      let tested_range : then_get (value_of look variables kinds.Int second) (range_held of_programs o (Int i)) ≡ Faults k =
      then_known (range_held of_programs o (Int i)) is_j ∙ span_faults o i j size k (λ bits span. Int j) sized out in
      ap (λ g. one_then (then_get g (tested look variables Plain before)) (second_operand ∷ os)) is_i
      ∙ ap (λ g. then_get (one_then g os) (λ vs. Known (Int i ∷ vs))) tested_range
  part_faults before (of_part_array (of_integer h)) ps =
      ap (λ g. one_then (then_get g (tested look variables Plain before)) (operands_of look ps)) (expr_faults look variables h)

  pub parts_fault : {ps : List WrittenPart} {k : RunFault} (before : Option Value) → PartsBreak look variables ps k →
      values_after look variables before (operands_of look ps) ≡ Faults k
  parts_fault before (first_part {ps = ps} b) = part_faults before b ps
  parts_fault before (later_part {ps = ps} {us = us} is b) =
      part_after before is ps ∙ then_faults (λ vs. Known (us ++ vs)) (parts_fault (last_of before us) b)
