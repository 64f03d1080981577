-- A scan or a padding of the code takes its bits from where that of the program does, and as many operands.
use Rattle.std.proofs.Common.{◌≡◌, ℕ, Bool, List, [], ◌∷◌, ◌++◌, length, Option, Some, None, arith, length-append, refl, ap, ◌∙◌}
use Rattle.std.specs.Option.{option_map}
use Rattle.stapl_lexer.specs.declared.terminal.Register.{Register}
use Rattle.stapl_syntax.specs.Trees.{number, scalar, element, unary, binary, abs, int, ArrayTree, literal, whole, range, of_int, CompareTree}
use Rattle.stapl_meaning.specs.Values as values
use Rattle.stapl_meaning.specs.Values.{Got, Known, then_get, Lookup, source_of, of_programs}
use Rattle.stapl_meaning.specs.Effects.{Target}
use Rattle.stapl_meaning.specs.Operands.{Operand, an_index, array_operands, given_operands, target_operands, compare_operands}
use Rattle.stapl_meaning.specs.Scans.{CompareParts, ScanParts}
use Rattle.stapl_meaning.specs.ScanTrees.{given_source, given_target, compare_parts, scan_parts}
use Rattle.stapl_code.specs.declared.instr.Cell.{Cell}
use Rattle.stapl_code.specs.declared.instr.Cell.TheVariants as cells
use Rattle.stapl_code.specs.Machine.{Slot, source_slots, given_slots, target_slots, cell_slots, compare_slots, scan_slots, target_of, cell_part, known_source, known_given, known_compare, known_scan}
use Rattle.stapl_codegen.specs.Emit.{program_constants, past, array_literals, given_literals, compare_literals, source_code, given_code, target_code, compare_code, scan_code}
use Rattle.stapl_codegen.proofs.Constants.{HasItems, has_front, has_after, source_known, source_count}

module _ (texts : List (List ℕ)) (literals : List (List Bool)) (look : Lookup) where
  pub given_known : (n : ℕ) (a : Option ArrayTree) → HasItems literals n (given_literals a) → known_given (program_constants texts literals) (given_code look n a) ≡ Known (given_source look a)
  given_known n None has = refl
  given_known n (Some a) has = ap (λ g. then_get g (λ from. Known (Some from))) (source_known texts literals look n a has)

  both_known : (n : ℕ) (expected mask : ArrayTree) (cell : Cell) → HasItems literals n (array_literals expected ++ array_literals mask) →
      known_compare (program_constants texts literals) (Some (record { expected = source_code look n expected; mask = source_code look (past n (array_literals expected)) mask; cell = cell }))
      ≡ Known (Some (record { expected = source_of look expected; mask = source_of look mask; cell = cell_part cell }))
  both_known n expected mask cell has =
      let masked : values.Source → values.Source → Got (Option CompareParts) = λ e m. Known (Some (record { expected = e; mask = m; cell = cell_part cell })) in
      let second = known_source (program_constants texts literals) (source_code look (past n (array_literals expected)) mask) in
      ap (λ g. then_get g (λ e. then_get second (masked e))) (source_known texts literals look n expected (has_front literals n (array_literals expected) (array_literals mask) has))
      ∙ ap (λ g. then_get g (masked (source_of look expected)))
      (source_known texts literals look (past n (array_literals expected)) mask (has_after literals n (array_literals expected) (array_literals mask) has))

  compare_known : (n : ℕ) (compare : Option CompareTree) → HasItems literals n (compare_literals compare) →
      known_compare (program_constants texts literals) (compare_code look n compare) ≡ Known (compare_parts look compare)
  compare_known n None has = refl
  compare_known n (Some (expected, (mask, scalar name))) has = both_known n expected mask (cells.Scalar (look.variable name)) has
  compare_known n (Some (expected, (mask, element name index))) has = both_known n expected mask (cells.Element (look.variable name)) has
  compare_known n (Some (expected, (mask, number z))) has = refl
  compare_known n (Some (expected, (mask, unary op e))) has = refl
  compare_known n (Some (expected, (mask, binary op a b))) has = refl
  compare_known n (Some (expected, (mask, abs e))) has = refl
  compare_known n (Some (expected, (mask, int a))) has = refl

  target_known : (target : Option ArrayTree) → option_map (target_of of_programs) (target_code look target) ≡ given_target look target
  target_known None = refl
  target_known (Some (literal bits)) = refl
  target_known (Some (whole name)) = refl
  target_known (Some (range name high low)) = refl
  target_known (Some (of_int e)) = refl

  pub scan_known : (n : ℕ) (register : Register) (source : ArrayTree) (target : Option ArrayTree) (compare : Option CompareTree) →
      HasItems literals n (array_literals source ++ compare_literals compare) →
      known_scan (program_constants texts literals) (scan_code look n register source target compare) ≡ Known (scan_parts look register source target compare)
  scan_known n register source target compare has =
      let parts : values.Source → Option Target → Option CompareParts → Got ScanParts =
      λ s t c. Known (record { register = register; source = s; target = t; compare = c })
      in
      let to : Option Target = option_map (target_of of_programs) (target_code look target) in
      let after : ℕ = past n (array_literals source) in
      ap (λ g. then_get g (λ s. then_get (known_compare (program_constants texts literals) (compare_code look after compare)) (parts s to)))
      (source_known texts literals look n source (has_front literals n (array_literals source) (compare_literals compare) has))
      ∙ ap (λ g. then_get g (parts (source_of look source) to)) (compare_known after compare (has_after literals n (array_literals source) (compare_literals compare) has))
      ∙ ap (λ t. parts (source_of look source) t (compare_parts look compare)) (target_known target)

-- lists of two parts that are as long as those of others
both_long : {A B : Type 0} (a c : List A) (b d : List B) → length a ≡ length b → length c ≡ length d → length (a ++ c) ≡ length (b ++ d)
both_long a c b d first second = omega (arith, first, second, length-append a c, length-append b d)

module _ (look : Lookup) where
  pub given_count : (n : ℕ) (a : Option ArrayTree) → length (given_slots (given_code look n a)) ≡ length (given_operands look a)
  given_count n None = refl
  given_count n (Some a) = source_count look n a

  target_count : (target : Option ArrayTree) → length (target_slots (target_code look target)) ≡ length (target_operands look target)
  target_count None = refl
  target_count (Some (literal bits)) = refl
  target_count (Some (whole name)) = refl
  target_count (Some (range name high low)) = refl
  target_count (Some (of_int e)) = refl

  compare_count : (n : ℕ) (compare : Option CompareTree) → length (compare_slots (compare_code look n compare)) ≡ length (compare_operands look compare)
  compare_count n None = refl
  compare_count n (Some (expected, (mask, scalar name))) =
      let m : ℕ = past n (array_literals expected) in
      let masked = both_long (source_slots (source_code look m mask)) [] (array_operands look mask) [] (source_count look m mask) refl in
      both_long (source_slots (source_code look n expected)) (source_slots (source_code look m mask) ++ []) (array_operands look expected) (array_operands look mask ++ [])
      (source_count look n expected) masked
  compare_count n (Some (expected, (mask, element name index))) =
      let m : ℕ = past n (array_literals expected) in
      let index_slots : List Slot = cell_slots (cells.Element (look.variable name)) in
      let index_operands : List Operand = an_index (look.variable name) index ∷ [] in
      let masked = both_long (source_slots (source_code look m mask)) index_slots (array_operands look mask) index_operands (source_count look m mask) refl in
      both_long (source_slots (source_code look n expected)) (source_slots (source_code look m mask) ++ index_slots)
      (array_operands look expected) (array_operands look mask ++ index_operands) (source_count look n expected) masked
  compare_count n (Some (expected, (mask, number z))) = refl
  compare_count n (Some (expected, (mask, unary op e))) = refl
  compare_count n (Some (expected, (mask, binary op a b))) = refl
  compare_count n (Some (expected, (mask, abs e))) = refl
  compare_count n (Some (expected, (mask, int a))) = refl

  pub scan_count : (n : ℕ) (register : Register) (source : ArrayTree) (target : Option ArrayTree) (compare : Option CompareTree) →
      length (scan_slots (scan_code look n register source target compare)) ≡ length (array_operands look source ++ (target_operands look target ++ compare_operands look compare))
  scan_count n register source target compare =
      let m : ℕ = past n (array_literals source) in
      let others = both_long (target_slots (target_code look target)) (compare_slots (compare_code look m compare)) (target_operands look target) (compare_operands look compare)
      (target_count target) (compare_count m compare) in
      both_long (source_slots (source_code look n source)) (target_slots (target_code look target) ++ compare_slots (compare_code look m compare))
      (array_operands look source) (target_operands look target ++ compare_operands look compare) (source_count look n source) others
