-- Scans and paddings break by the table alone, and always if the table says so
use Rattle.std.proofs.Common.{◌≡◌, ℕ, ◌<◌, ◌≤◌, Bool, true, false, List, [], ◌∷◌, ◌++◌, map, length, take, drop, replicate, Option, Some, None, ℤ, pos, negsuc}
use Rattle.std.proofs.Common.{refl, sym, ap, ◌∙◌, ap₂, subst, arith, append-nil, int_le, ◌&&◌, nat_le, nat_abs}
use Rattle.std.proofs.lemmas.Bool.{leb-false}
use Rattle.stapl_lexer.specs.declared.terminal.Register.{Register}
use Rattle.stapl_syntax.specs.Trees.{number, scalar, element, unary, binary, abs, int, ArrayTree, literal as bit_literal, whole, range, of_int, CompareTree}
use Rattle.stapl_meaning.specs.declared.events.RunFault.{RunFault}
use Rattle.stapl_meaning.specs.declared.events.RunFault.TheVariants.{BadLength, LengthMismatch}
use Rattle.stapl_meaning.specs.declared.values.Value.{Value}
use Rattle.stapl_meaning.specs.declared.values.Value.TheVariants.{Int}
use Rattle.stapl_meaning.specs.declared.values.Held.{Held}
use Rattle.stapl_meaning.specs.declared.values.Held.TheVariants as held
use Rattle.stapl_meaning.specs.Values.{Got, Known, Faults, then_get, passed, bits_held, Span, whole_span, source_bits, asked, source_of, Lookup}
use Rattle.stapl_meaning.specs.States.{State, Did, Captures}
use Rattle.stapl_meaning.specs.Scans.{CellPart, settings_of, length_between, scan_of, ScalarCell, ElementCell, CompareParts, ScanParts, source_width, target_width, Place, Cell, InScalar, InElement, Comparison, target_found, cell_found, comparison_found, compare_found, Found, scan_found, landed, target_asked, compare_asked, scan_asked, padding_bits}
use Rattle.stapl_meaning.specs.ScanTrees.{given_source, given_target, compare_parts, scan_parts}
use Rattle.meaning_laws.specs.Limits.{IsOutside}
use Rattle.meaning_laws.specs.ExprFaults.{bit_count, held_by}
use Rattle.meaning_laws.specs.PartFaults.{WrittenPart, array_part, target_arrays, compared_arrays, scan_arrays, result_parts, padding_arrays, ArrayIs, whole_is, range_is, PartsAre, no_parts, more_parts, index_is, array_is, HasBits, whole_has, range_has, HasItsBits, other_there, IsTooShort, AreThere, no_array, more_arrays, OneIsShort, this_short, later_short}
use Rattle.meaning_laws.proofs.Gets.{Gives, Breaks, then_gives, then_breaks, breaks_more, then_known, then_faults}
use Rattle.meaning_laws.proofs.LimitLemmas.{outside_both, not_both, both, is_between, part_of, part_has}
use Rattle.meaning_laws.proofs.PartLemmas.{HoldsBits, holds_bits, span_known, index_known}
use Rattle.meaning_laws.proofs.ArrayLemmas.{IsSized, there_if, source_gives, asked_breaks, Read, array_read, ReadShort, short_read, array_alone, array_front, array_back}
use Rattle.meaning_laws.proofs.EffectLemmas.{Does, then_does}

-- ---- lengths

pub length_gives : (P : RunFault → Type 0) (least most : ℕ) (z : ℤ) → (IsOutside (pos least) (pos most) z → P BadLength) →
    Gives (λ n. (z ≡ pos n) × (least ≤ n) × (n ≤ most)) P (length_between least most z)
length_gives P least most (negsuc n) p = p (outside_both least most (negsuc n) refl)
length_gives P least most (pos n) p = by (int_le (pos least) (pos n) && int_le (pos n) (pos most)) refl
  where
    by : (t : Bool) → int_le (pos least) (pos n) && int_le (pos n) (pos most) ≡ t →
        Gives (λ m. (pos n ≡ pos m) × (least ≤ m) × (m ≤ most)) P (passed t BadLength n)
    by true e = let t = both least most n e in (refl, t.0, t.1)
    by false e = p (outside_both least most (pos n) e)

pub length_faults : (least most : ℕ) (z : ℤ) → IsOutside (pos least) (pos most) z → length_between least most z ≡ Faults BadLength
length_faults least most z out = ap (λ t. passed t BadLength (nat_abs z)) (not_both least most z out)

pub length_known : (least most n : ℕ) → least ≤ n → n ≤ most → length_between least most (pos n) ≡ Known n
length_known least most n a b = ap (λ t. passed t BadLength n) (is_between least most n a b)

-- ---- lists of arrays

module _ (look : Lookup) (variables : List Held) where
  pub both_there : {xs ys : List ArrayTree} → AreThere look variables xs → AreThere look variables ys → AreThere look variables (xs ++ ys)
  both_there no_array there = there
  both_there (more_arrays this rest) there = more_arrays this (both_there rest there)

  short_left : {n : ℕ} {xs ys : List ArrayTree} → OneIsShort look variables n xs → AreThere look variables ys →
      OneIsShort look variables n (xs ++ ys)
  short_left (this_short this rest) there = this_short this (both_there rest there)
  short_left (later_short this rest) there = later_short this (short_left rest there)

  short_right : {n : ℕ} {xs ys : List ArrayTree} → AreThere look variables xs → OneIsShort look variables n ys →
      OneIsShort look variables n (xs ++ ys)
  short_right no_array short = short
  short_right (more_arrays this rest) short = later_short this (short_right rest short)

  -- a fault is that one of these arrays is too short
  abbrev Shorts : ℕ → List ArrayTree → RunFault → Type 0
  Shorts n arrays k = (k ≡ LengthMismatch) × OneIsShort look variables n arrays

  shorts_as : (P : RunFault → Type 0) (n : ℕ) (arrays : List ArrayTree) → (OneIsShort look variables n arrays → P LengthMismatch) →
      (k : RunFault) → Shorts n arrays k → P k
  shorts_as P n arrays p k h = subst P (sym h.0) (p h.1)

  pub alone : {a : ArrayTree} {vs : List Value} → ArrayIs look variables a vs → PartsAre look variables (array_part a ∷ []) vs
  alone {a = a} {vs = vs} is = subst (PartsAre look variables (array_part a ∷ [])) (append-nil vs) (more_parts (array_is is) no_parts)

  -- ---- paddings

  pub padding_breaks : (P : RunFault → Type 0) (bits : Option ArrayTree) (vs : List Value) (z : ℤ) →
      PartsAre look variables (map array_part (padding_arrays bits)) vs →
      (AreThere look variables (padding_arrays bits) → IsOutside (pos 0) (pos 65536) z → P BadLength) →
      ((n : ℕ) → z ≡ pos n → n ≤ 65536 → OneIsShort look variables n (padding_arrays bits) → P LengthMismatch) →
      Breaks P (padding_bits variables (given_source look bits) vs z)
  padding_breaks P None _ z no_parts p q =
      then_gives (λ n. (z ≡ pos n) × (0 ≤ n) × (n ≤ 65536)) (λ _. Unit {0}) P (length_between 0 65536 z) (λ n. Known (replicate n true))
      (length_gives P 0 65536 z (p no_array)) (λ n e h. tt)
  padding_breaks P (Some a) vs z are p q =
      then_gives (IsSized look variables a) (λ _. Unit {0}) P (source_bits variables (source_of look a) vs)
      (λ bits. then_get (length_between 0 65536 z) (λ n. asked (source_of look a) n bits)) (source_gives look variables P (array_alone look variables are))
      (λ bits e h.
      then_gives (λ n. (z ≡ pos n) × (0 ≤ n) × (n ≤ 65536)) (λ _. Unit {0}) P (length_between 0 65536 z) (λ n. asked (source_of look a) n bits)
      (length_gives P 0 65536 z (p (more_arrays (there_if look variables a bits h) no_array)))
      (λ n e t. asked_breaks look variables P a n bits h (λ short. q n t.0 t.2 (this_short short no_array))))

  -- the parts of a padding after its length, and how they break
  pub record PaddingFaults (bits : Option ArrayTree) (z : ℤ) (k : RunFault) : Type 0 where
    pub values : List Value
    pub are : PartsAre look variables (map array_part (padding_arrays bits)) values
    pub faults : padding_bits variables (given_source look bits) values z ≡ Faults k

  pub bad_padding_faults : (bits : Option ArrayTree) (z : ℤ) → AreThere look variables (padding_arrays bits) → IsOutside (pos 0) (pos 65536) z →
      PaddingFaults bits z BadLength
  bad_padding_faults None z no_array out =
      record { values = []; are = no_parts; faults = then_faults (λ n. Known (replicate n true)) (length_faults 0 65536 z out) }
  bad_padding_faults (Some a) z (more_arrays this no_array) out =
      let r : Read look variables a = array_read look variables this in
      record {
        values = r.values;
        are = alone r.are;
        faults = then_known (λ bits. then_get (length_between 0 65536 z) (λ n. asked (source_of look a) n bits)) r.is
            ∙ then_faults (λ n. asked (source_of look a) n r.bits) (length_faults 0 65536 z out);
      }

  pub short_padding_faults : (a : ArrayTree) (n : ℕ) → n ≤ 65536 → IsTooShort look variables a n → PaddingFaults (Some a) (pos n) LengthMismatch
  short_padding_faults a n few short =
      let r : ReadShort look variables a n = short_read look variables short in
      record {
        values = r.read.values;
        are = alone r.read.are;
        faults = then_known (λ bits. then_get (length_between 0 65536 (pos n)) (λ n. asked (source_of look a) n bits)) r.read.is
            ∙ then_known (λ n. asked (source_of look a) n r.read.bits) (length_known 0 65536 n (omega arith) few)
            ∙ r.faults;
      }

  -- ---- where captured bits go

  place_shorts : (n m : ℕ) (a : ArrayTree) (place : Place) → HasBits look variables a m → place.span.count ≡ m →
      Breaks (Shorts n (a ∷ [])) (target_asked n (Some place))
  place_shorts n m a place has count = by (nat_le n place.span.count) refl
    where
      by : (t : Bool) → nat_le n place.span.count ≡ t → Breaks (Shorts n (a ∷ [])) (passed t LengthMismatch (Some place))
      by true e = tt
      by false e =
          let fewer : place.span.count < n = leb-false n place.span.count e in
          (refl, this_short (record { bits = m; has = has; fewer = omega (arith, fewer, count) }) no_array)

  pub record TargetFits (target : Option ArrayTree) (place : Option Place) : Type 0 where
    pub there : AreThere look variables (target_arrays target)
    pub shorts : (n : ℕ) → Breaks (Shorts n (target_arrays target)) (target_asked n place)

  abbrev pub width_of : Option ArrayTree → ℕ
  width_of target = target_width (given_target look target)

  -- a part of an array as a target
  abbrev pub in_array : List ℕ → Span → Option Place
  in_array name span = Some (record { array = look.variable name; span = span })

  target_gives : (P : RunFault → Type 0) (target : Option ArrayTree) (compared : List ArrayTree) (result : List WrittenPart) (ws : List Value) →
      PartsAre look variables (map array_part (target_arrays target ++ compared) ++ result) ws →
      Gives (TargetFits target) P (target_found variables (given_target look target) (take (width_of target) ws))
  target_gives P None compared result ws are = record { there = no_array; shorts = λ n. tt }
  target_gives P (Some (bit_literal bits)) compared result ws are = record { there = no_array; shorts = λ n. tt }
  target_gives P (Some (of_int e)) compared result ws are = record { there = no_array; shorts = λ n. tt }
  target_gives P (Some (whole name)) compared result ws are = by (held_by look variables name) refl
    where
      by : (o : Option Held) → held_by look variables name ≡ o →
          Gives (TargetFits (Some (whole name))) P (then_get (bits_held o) (λ old. Known (in_array name (whole_span (length old)))))
      by None e = tt
      by (Some (held.Int z)) e = tt
      by (Some (held.Bit b)) e = tt
      by (Some (held.Ints zs)) e = tt
      by (Some (held.Bits old)) e =
          let has : HasBits look variables (whole name) (length old) = whole_has (ap bit_count e) in
          record {
            there = more_arrays (other_there (length old) has) no_array;
            shorts = λ n. place_shorts n (length old) (whole name) (record { array = look.variable name; span = whole_span (length old) }) has refl;
          }
  target_gives P (Some (range name first second)) compared result _ (more_parts (array_is (range_is i j size is_i is_j sized first_in second_in)) rest) =
      let o : Option Held = held_by look variables name in
      let b : HoldsBits o = holds_bits o size sized in
      let has : HasBits look variables (range name first second) (part_of i j).count = range_has i j size is_i is_j sized first_in second_in (part_has i j) in
      subst (Gives (TargetFits (Some (range name first second))) P)
      (sym (span_known look variables o i j size (λ bits span. in_array name span) b.bits b.is sized first_in second_in))
      (record {
        there = more_arrays (other_there (part_of i j).count has) no_array;
        shorts = λ n. place_shorts n (part_of i j).count (range name first second) (record { array = look.variable name; span = part_of i j }) has refl;
      })

  target_back : (target : Option ArrayTree) (compared : List ArrayTree) (result : List WrittenPart) (ws : List Value) →
      PartsAre look variables (map array_part (target_arrays target ++ compared) ++ result) ws →
      PartsAre look variables (map array_part compared ++ result) (drop (width_of target) ws)
  target_back None compared result ws are = are
  target_back (Some (bit_literal bits)) compared result ws are = are
  target_back (Some (of_int e)) compared result ws are = are
  target_back (Some (whole name)) compared result _ (more_parts (array_is whole_is) rest) = rest
  target_back (Some (range name first second)) compared result _ (more_parts (array_is (range_is i j size is_i is_j sized first_in second_in)) rest) = rest

  -- ---- what a scan compares with

  abbrev pub parts_of : ArrayTree → ArrayTree → CellPart → CompareParts
  parts_of expected mask cell = record { expected = source_of look expected; mask = source_of look mask; cell = cell }

  -- a comparison, by the values of its three parts
  abbrev pub compared_by : ArrayTree → ArrayTree → CellPart → (xs ys zs : List Value) → Got Comparison
  compared_by expected mask cell xs ys zs =
      then_get (source_bits variables (source_of look expected) xs) (λ e.
      then_get (source_bits variables (source_of look mask) ys) (λ m.
      then_get (cell_found variables cell zs) (λ c. Known (record { expected = e; mask = m; cell = c }))))

  pub comparison_is : {expected mask : ArrayTree} {us vs : List Value} (cell : CellPart) → ArrayIs look variables expected us →
      ArrayIs look variables mask vs → (cs : List Value) →
      comparison_found variables (parts_of expected mask cell) (us ++ (vs ++ cs)) ≡ compared_by expected mask cell us vs cs
  comparison_is {expected = expected} {mask = mask} {us = us} {vs = vs} cell is_e is_m cs =
      let values : List Value = us ++ (vs ++ cs) in
      let width : ℕ = source_width (source_of look expected) in
      let mask_width : ℕ = source_width (source_of look mask) in
      ap (λ xs. compared_by expected mask cell xs (take mask_width (drop width values)) (drop mask_width (drop width values)))
      (array_front look variables is_e (vs ++ cs))
      ∙ ap (λ ys. compared_by expected mask cell us (take mask_width ys) (drop mask_width ys)) (array_back look variables is_e (vs ++ cs))
      ∙ ap (λ ys. compared_by expected mask cell us ys (drop mask_width (vs ++ cs))) (array_front look variables is_m cs)
      ∙ ap (compared_by expected mask cell us vs) (array_back look variables is_m cs)

  pub record CompareFits (compare : Option CompareTree) (found : Option Comparison) : Type 0 where
    pub there : AreThere look variables (compared_arrays compare)
    pub shorts : (n : ℕ) → Breaks (Shorts n (compared_arrays compare)) (compare_asked n (compare_parts look compare) found)
    pub result : List Value
    pub are : PartsAre look variables (result_parts compare) result

  comparison_shorts : (expected mask : ArrayTree) (cell : CellPart) (n : ℕ) (c : Comparison) → IsSized look variables expected c.expected →
      IsSized look variables mask c.mask → Breaks (Shorts n (expected ∷ mask ∷ [])) (compare_asked n (Some (parts_of expected mask cell)) (Some c))
  comparison_shorts expected mask cell n c is_e is_m =
      let P : RunFault → Type 0 = Shorts n (expected ∷ mask ∷ []) in
      then_breaks P (asked (source_of look expected) n c.expected)
      (λ e. then_get (asked (source_of look mask) n c.mask) (λ m. Known (Some (record c { expected = e; mask = m }))))
      (asked_breaks look variables P expected n c.expected is_e
      (λ short. (refl, this_short short (more_arrays (there_if look variables mask c.mask is_m) no_array))))
      (λ e known. then_breaks P (asked (source_of look mask) n c.mask) (λ m. Known (Some (record c { expected = e; mask = m })))
      (asked_breaks look variables P mask n c.mask is_m
      (λ short. (refl, later_short (there_if look variables expected c.expected is_e) (this_short short no_array))))
      (λ m known. tt))

  abbrev AreSized : ArrayTree → ArrayTree → Comparison → Type 0
  AreSized expected mask c = IsSized look variables expected c.expected × IsSized look variables mask c.mask

  comparison_gives : (P : RunFault → Type 0) (expected mask : ArrayTree) (cell : CellPart) (us vs cs : List Value) (c : Cell) →
      ArrayIs look variables expected us → ArrayIs look variables mask vs → cell_found variables cell cs ≡ Known c →
      Gives (AreSized expected mask) P (comparison_found variables (parts_of expected mask cell) (us ++ (vs ++ cs)))
  comparison_gives P expected mask cell us vs cs c is_e is_m is_c =
      subst (Gives (AreSized expected mask) P) (sym (comparison_is cell is_e is_m cs))
      (then_gives (IsSized look variables expected) (AreSized expected mask) P (source_bits variables (source_of look expected) us)
      (λ e. then_get (source_bits variables (source_of look mask) vs) (λ m. then_get (cell_found variables cell cs) (λ c. Known (record { expected = e; mask = m; cell = c }))))
      (source_gives look variables P is_e)
      (λ e known sized_e.
      then_gives (IsSized look variables mask) (AreSized expected mask) P (source_bits variables (source_of look mask) vs)
      (λ m. then_get (cell_found variables cell cs) (λ c. Known (record { expected = e; mask = m; cell = c })))
      (source_gives look variables P is_m)
      (λ m known sized_m.
      subst (Gives (AreSized expected mask) P) (sym (then_known (λ c. Known (record { expected = e; mask = m; cell = c })) is_c)) (sized_e, sized_m))))

  compare_gives : (P : RunFault → Type 0) (compare : Option CompareTree) (ws : List Value) →
      PartsAre look variables (map array_part (compared_arrays compare) ++ result_parts compare) ws →
      Gives (CompareFits compare) P (compare_found variables (compare_parts look compare) ws)
  compare_gives P None _ no_parts = record { there = no_array; shorts = λ n. tt; result = []; are = no_parts }
  compare_gives P (Some (expected, (mask, number z))) _ no_parts = record { there = no_array; shorts = λ n. tt; result = []; are = no_parts }
  compare_gives P (Some (expected, (mask, unary op e))) _ no_parts = record { there = no_array; shorts = λ n. tt; result = []; are = no_parts }
  compare_gives P (Some (expected, (mask, binary op a b))) _ no_parts = record { there = no_array; shorts = λ n. tt; result = []; are = no_parts }
  compare_gives P (Some (expected, (mask, abs e))) _ no_parts = record { there = no_array; shorts = λ n. tt; result = []; are = no_parts }
  compare_gives P (Some (expected, (mask, int a))) _ no_parts = record { there = no_array; shorts = λ n. tt; result = []; are = no_parts }
  compare_gives P (Some (expected, (mask, scalar name))) _ (more_parts {us = us} (array_is is_e) (more_parts {us = vs} (array_is is_m) no_parts)) =
      let cell : CellPart = ScalarCell (look.variable name) in
      then_gives (AreSized expected mask) (CompareFits (Some (expected, (mask, scalar name)))) P
      (comparison_found variables (parts_of expected mask cell) (us ++ (vs ++ []))) (λ c. Known (Some c))
      (comparison_gives P expected mask cell us vs [] (InScalar (look.variable name)) is_e is_m refl)
      (λ c known sized. record {
        there = more_arrays (there_if look variables expected c.expected sized.0) (more_arrays (there_if look variables mask c.mask sized.1) no_array);
        shorts = λ n. comparison_shorts expected mask cell n c sized.0 sized.1;
        result = [];
        are = no_parts;
      })
  compare_gives P (Some (expected, (mask, element name index))) _
      (more_parts {us = us} (array_is is_e) (more_parts {us = vs} (array_is is_m) (more_parts (index_is i size known sized inside) no_parts))) =
      let cell : CellPart = ElementCell (look.variable name) in
      then_gives (AreSized expected mask) (CompareFits (Some (expected, (mask, element name index)))) P
      (comparison_found variables (parts_of expected mask cell) (us ++ (vs ++ (Int (pos i) ∷ [])))) (λ c. Known (Some c))
      (comparison_gives P expected mask cell us vs (Int (pos i) ∷ []) (InElement (look.variable name) (pos i)) is_e is_m
      (then_known (λ index. Known (InElement (look.variable name) (pos i))) (index_known look variables (held_by look variables name) i size sized inside)))
      (λ c got sizes. record {
        there = more_arrays (there_if look variables expected c.expected sizes.0) (more_arrays (there_if look variables mask c.mask sizes.1) no_array);
        shorts = λ n. comparison_shorts expected mask cell n c sizes.0 sizes.1;
        result = Int (pos i) ∷ [];
        are = more_parts (index_is i size known sized inside) no_parts;
      })

  -- ---- whole scans

  module _ (register : Register) (source : ArrayTree) (target : Option ArrayTree) (compare : Option CompareTree) where
    abbrev pub parts : ScanParts
    parts = scan_parts look register source target compare

    abbrev pub after_source : List Bool → (xs ys : List Value) → Got Found
    after_source data_bits xs ys =
        then_get (target_found variables (given_target look target) xs) (λ place.
        then_get (compare_found variables (compare_parts look compare) ys) (λ found.
        Known (record { data_bits = data_bits; target = place; compare = found })))

    abbrev pub found_by : (us ws : List Value) → Got Found
    found_by us ws =
        then_get (source_bits variables (source_of look source) us) (λ data_bits. after_source data_bits (take (width_of target) ws) (drop (width_of target) ws))

    pub found_is : {us : List Value} → ArrayIs look variables source us → (ws : List Value) → scan_found variables parts (us ++ ws) ≡ found_by us ws
    found_is {us = us} is ws = ap₂ found_by (array_front look variables is ws) (array_back look variables is ws)

    pub record FoundFits (found : Found) : Type 0 where
      pub there : HasItsBits look variables source
      pub shorts : (n : ℕ) → Breaks (Shorts n (source ∷ [])) (asked (source_of look source) n found.data_bits)
      pub target_fits : TargetFits target found.target
      pub compare_fits : CompareFits compare found.compare

    pub found_gives : (P : RunFault → Type 0) (vs : List Value) →
        PartsAre look variables (map array_part (scan_arrays source target compare) ++ result_parts compare) vs →
        Gives FoundFits P (scan_found variables parts vs)
    found_gives P _ (more_parts {us = us} {vs = ws} (array_is is) rest) =
        subst (Gives FoundFits P) (sym (found_is is ws))
        (then_gives (IsSized look variables source) FoundFits P (source_bits variables (source_of look source) us)
        (λ data_bits. after_source data_bits (take (width_of target) ws) (drop (width_of target) ws)) (source_gives look variables P is)
        (λ data_bits known sized.
        then_gives (TargetFits target) FoundFits P (target_found variables (given_target look target) (take (width_of target) ws))
        (λ place. then_get (compare_found variables (compare_parts look compare) (drop (width_of target) ws)) (λ found.
        Known (record { data_bits = data_bits; target = place; compare = found })))
        (target_gives P target (compared_arrays compare) (result_parts compare) ws rest)
        (λ place known target_fits.
        then_gives (CompareFits compare) FoundFits P (compare_found variables (compare_parts look compare) (drop (width_of target) ws))
        (λ found. Known (record { data_bits = data_bits; target = place; compare = found }))
        (compare_gives P compare (drop (width_of target) ws) (target_back target (compared_arrays compare) (result_parts compare) ws rest))
        (λ found known compare_fits. record {
          there = there_if look variables source data_bits sized;
          shorts = λ n. asked_breaks look variables (Shorts n (source ∷ [])) source n data_bits sized (λ short. (refl, this_short short no_array));
          target_fits = target_fits;
          compare_fits = compare_fits;
        }))))

    pub all_there : (found : Found) → FoundFits found → AreThere look variables (scan_arrays source target compare)
    all_there found f = more_arrays f.there (both_there f.target_fits.there f.compare_fits.there)

    pub asked_does : (P : RunFault → Type 0) (found : Found) (s : State) (n : ℕ) → FoundFits found →
        (OneIsShort look variables n (scan_arrays source target compare) → P LengthMismatch) → Does P (scan_asked parts found s n)
    asked_does P found s n f p =
        let source_first : OneIsShort look variables n (source ∷ []) → P LengthMismatch =
        λ short. p (short_left short (both_there f.target_fits.there f.compare_fits.there)) in
        let then_target : OneIsShort look variables n (target_arrays target) → P LengthMismatch =
        λ short. p (later_short f.there (short_left short f.compare_fits.there)) in
        let then_compare : OneIsShort look variables n (compared_arrays compare) → P LengthMismatch =
        λ short. p (later_short f.there (short_right f.target_fits.there short)) in
        let ends : List Bool → Option Place → Option Comparison → Got Did = λ bits place found.
        Known (Captures (scan_of register (settings_of register s) bits) (λ captured. landed place found captured s)) in
        let compared : List Bool → Option Place → Got Did = λ bits place.
        then_get (compare_asked n (compare_parts look compare) found.compare) (ends bits place) in
        then_does P (asked (source_of look source) n found.data_bits) (λ bits. then_get (target_asked n found.target) (compared bits))
        (breaks_more (Shorts n (source ∷ [])) P (asked (source_of look source) n found.data_bits) (shorts_as P n (source ∷ []) source_first) (f.shorts n))
        (λ bits e. then_does P (target_asked n found.target) (compared bits)
        (breaks_more (Shorts n (target_arrays target)) P (target_asked n found.target) (shorts_as P n (target_arrays target) then_target)
        (f.target_fits.shorts n))
        (λ place e. then_does P (compare_asked n (compare_parts look compare) found.compare) (ends bits place)
        (breaks_more (Shorts n (compared_arrays compare)) P (compare_asked n (compare_parts look compare) found.compare)
        (shorts_as P n (compared_arrays compare) then_compare) (f.compare_fits.shorts n))
        (λ c e. tt)))
