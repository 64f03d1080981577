-- A scan breaks if the table says so: its arrays are found, its length is tested, and then whether each array has as
-- many bits
use Rattle.std.proofs.Common.{◌≡◌, ℕ, ◌<◌, ◌≤◌, Bool, List, [], ◌∷◌, ◌++◌, map, length, take, drop, Option, Some, None, ℤ, pos, refl, sym, ap, ◌∙◌, ap₂}
use Rattle.std.proofs.Common.{subst, arith, nat_le, ◌⊎◌, inl, inr}
use Rattle.std.proofs.lemmas.Bool.{lt-leb}
use Rattle.stapl_lexer.specs.declared.terminal.Register.{Register}
use Rattle.stapl_syntax.specs.Trees.{ExprTree, number, scalar, element, unary, binary, abs, int, ArrayTree, literal as bit_literal, whole, range, of_int, CompareTree}
use Rattle.stapl_meaning.specs.declared.events.RunFault.{RunFault}
use Rattle.stapl_meaning.specs.declared.events.RunFault.TheVariants.{BadLength, LengthMismatch}
use Rattle.stapl_meaning.specs.declared.values.ValueKind.TheVariants as kinds
use Rattle.stapl_meaning.specs.declared.values.Value.{Value}
use Rattle.stapl_meaning.specs.declared.values.Value.TheVariants.{Int, Bit}
use Rattle.stapl_meaning.specs.declared.values.Held.{Held}
use Rattle.stapl_meaning.specs.Values.{Got, Known, Faults, then_get, passed, bits_held, Span, whole_span, source_bits, asked, source_of, Lookup}
use Rattle.stapl_meaning.specs.States.{State, Did, Captures}
use Rattle.stapl_meaning.specs.Scans.{CellPart, target_width, settings_of, length_between, scan_of, ScalarCell, ElementCell, Place, Cell, InScalar, InElement, Comparison, target_found, cell_found, comparison_found, compare_found, Found, scan_found, landed, target_asked, compare_asked, scan_asked, scanned}
use Rattle.stapl_meaning.specs.ScanTrees.{given_target, compare_parts, scan_parts}
use Rattle.meaning_laws.specs.Limits.{IsOutside}
use Rattle.meaning_laws.specs.ExprFaults.{size_of, bit_count, held_by, IsInteger}
use Rattle.meaning_laws.specs.PartFaults.{WrittenPart, value_part, array_part, target_arrays, compared_arrays, scan_arrays, result_parts, whole_is, range_is, PartsAre, no_parts, more_parts, value_is}
use Rattle.meaning_laws.specs.PartFaults.{index_is, array_is, RangeHas, HasBits, whole_has, range_has, other_there, AreThere, no_array, more_arrays, OneIsShort, this_short, later_short}
use Rattle.meaning_laws.proofs.Gets.{then_gives, then_known, then_faults}
use Rattle.meaning_laws.proofs.LimitLemmas.{part_of, part_count}
use Rattle.meaning_laws.proofs.PartLemmas.{HoldsBits, holds_bits, some_same, span_known, index_known}
use Rattle.meaning_laws.proofs.ArrayLemmas.{May, passed_may, asked_may, then_may, Read, array_read, ReadShort, short_read}
use Rattle.meaning_laws.proofs.EffectLemmas.{EndsWell, Does}
use Rattle.meaning_laws.proofs.ScanLemmas.{length_gives, length_faults, length_known, width_of, in_array, parts_of, comparison_is, after_source, found_is, FoundFits, found_gives, all_there, asked_does}

-- ---- the whole effect breaks by the table alone

pub scanned_does : (P : RunFault → Type 0) (look : Lookup) (register : Register) (count : ExprTree) (source : ArrayTree) (target : Option ArrayTree)
    (compare : Option CompareTree) (vs : List Value) (s : State) →
    PartsAre look s.store.variables (value_part kinds.Int count ∷ (map array_part (scan_arrays source target compare) ++ result_parts compare)) vs →
    ((z : ℤ) (values : List Value) → IsInteger look s.store.variables count z → AreThere look s.store.variables (scan_arrays source target compare) →
    PartsAre look s.store.variables (result_parts compare) values → IsOutside (pos 1) (pos 4194304) z → P BadLength) →
    ((n : ℕ) (values : List Value) → IsInteger look s.store.variables count (pos n) →
    PartsAre look s.store.variables (result_parts compare) values → 1 ≤ n → n ≤ 4194304 →
    OneIsShort look s.store.variables n (scan_arrays source target compare) → P LengthMismatch) →
    Does P (scanned (scan_parts look register source target compare) vs s)
scanned_does P look register count source target compare _ s (more_parts (value_is (Bit b) known) are) p q = tt
scanned_does P look register count source target compare _ s (more_parts {vs = vs} (value_is (Int z) known) are) p q =
    let fits : Found → Type 0 = FoundFits look s.store.variables register source target compare in
    then_gives fits EndsWell P (scan_found s.store.variables (scan_parts look register source target compare) vs)
    (λ found. then_get (length_between 1 4194304 z) (scan_asked (scan_parts look register source target compare) found s))
    (found_gives look s.store.variables register source target compare P vs are)
    (λ found e f.
    then_gives (λ n. (z ≡ pos n) × (1 ≤ n) × (n ≤ 4194304)) EndsWell P (length_between 1 4194304 z)
    (scan_asked (scan_parts look register source target compare) found s)
    (length_gives P 1 4194304 z
    (p z f.compare_fits.result known (all_there look s.store.variables register source target compare found f) f.compare_fits.are))
    (λ n e t. asked_does look s.store.variables register source target compare P found s n f
    (q n f.compare_fits.result (known ∙ ap (λ z. Known (Int z)) t.0) f.compare_fits.are t.1 t.2)))

module _ (look : Lookup) (variables : List Held) where
  -- ---- lists of arrays

  split_there : (xs : List ArrayTree) {ys : List ArrayTree} → AreThere look variables (xs ++ ys) →
      AreThere look variables xs × AreThere look variables ys
  split_there [] there = (no_array, there)
  split_there (x ∷ xs) (more_arrays this rest) = let t = split_there xs rest in (more_arrays this t.0, t.1)

  split_short : {n : ℕ} (xs : List ArrayTree) {ys : List ArrayTree} → OneIsShort look variables n (xs ++ ys) →
      (OneIsShort look variables n xs × AreThere look variables ys) ⊎ (AreThere look variables xs × OneIsShort look variables n ys)
  split_short [] short = inr (no_array, short)
  split_short (x ∷ xs) (this_short this rest) = let t = split_there xs rest in inl (this_short this t.0, t.1)
  split_short {n = n} (x ∷ xs) {ys = ys} (later_short this short) = by (split_short xs short)
    where
      by : (OneIsShort look variables n xs × AreThere look variables ys) ⊎ (AreThere look variables xs × OneIsShort look variables n ys) →
          (OneIsShort look variables n (x ∷ xs) × AreThere look variables ys) ⊎ (AreThere look variables (x ∷ xs) × OneIsShort look variables n ys)
      by (inl t) = inl (later_short this t.0, t.1)
      by (inr t) = inr (more_arrays this t.0, t.1)

  -- ---- where captured bits go

  -- the values of a target, and the place that they stand for
  pub record TargetRead (target : Option ArrayTree) : Type 0 where
    pub values : List Value
    pub place : Option Place
    pub is : target_found variables (given_target look target) values ≡ Known place
    pub are : (compared : List ArrayTree) (result : List WrittenPart) (ws : List Value) → PartsAre look variables (map array_part compared ++ result) ws →
        PartsAre look variables (map array_part (target_arrays target ++ compared) ++ result) (values ++ ws)
    pub front : (ws : List Value) → take (width_of look variables target) (values ++ ws) ≡ values
    pub back : (ws : List Value) → drop (width_of look variables target) (values ++ ws) ≡ ws

  -- the same, of a target of so many bits
  pub record TargetBits (target : Option ArrayTree) (n : ℕ) : Type 0 where
    pub read : TargetRead target
    pub place : Place
    pub is : read.place ≡ Some place
    pub long : place.span.count ≡ n

  whole_target : (name : List ℕ) (n : ℕ) → bit_count (held_by look variables name) ≡ Some n → TargetBits (Some (whole name)) n
  whole_target name n sized =
      let b : HoldsBits (held_by look variables name) = holds_bits (held_by look variables name) n sized in
      let span : Span = whole_span (length b.bits) in
      record {
        read = record {
          values = [];
          place = in_array look variables name span;
          is = ap (λ o. then_get (bits_held o) (λ old. Known (in_array look variables name (whole_span (length old))))) b.is;
          are = λ compared result ws rest. more_parts (array_is whole_is) rest;
          front = λ ws. refl;
          back = λ ws. refl;
        };
        place = record { array = look.variable name; span = span };
        is = refl;
        long = some_same (sym (ap bit_count b.is) ∙ sized);
      }

  range_target : (name : List ℕ) (first second : ExprTree) (n i j size : ℕ) → IsInteger look variables first (pos i) →
      IsInteger look variables second (pos j) → bit_count (held_by look variables name) ≡ Some size → i < size → j < size → RangeHas i j n →
      TargetBits (Some (range name first second)) n
  range_target name first second n i j size is_i is_j sized first_in second_in count =
      let o : Option Held = held_by look variables name in
      let b : HoldsBits o = holds_bits o size sized in
      record {
        read = record {
          values = Int (pos i) ∷ Int (pos j) ∷ [];
          place = in_array look variables name (part_of i j);
          is = span_known look variables o i j size (λ bits span. in_array look variables name span) b.bits b.is sized first_in second_in;
          are = λ compared result ws rest. more_parts (array_is (range_is i j size is_i is_j sized first_in second_in)) rest;
          front = λ ws. refl;
          back = λ ws. refl;
        };
        place = record { array = look.variable name; span = part_of i j };
        is = refl;
        long = part_count count;
      }

  no_target : (target : Option ArrayTree) → given_target look target ≡ None → target_arrays target ≡ [] → TargetRead target
  no_target target e f = record {
    values = [];
    place = None;
    is = ap (λ t. target_found variables t []) e;
    are = λ compared result ws rest. subst (λ arrays. PartsAre look variables (map array_part (arrays ++ compared) ++ result) ws) (sym f) rest;
    front = λ ws. ap (λ t. take (target_width t) ws) e;
    back = λ ws. ap (λ t. drop (target_width t) ws) e;
  }

  target_read : (target : Option ArrayTree) → AreThere look variables (target_arrays target) → TargetRead target
  target_read None there = no_target None refl refl
  target_read (Some (bit_literal bits)) there = no_target (Some (bit_literal bits)) refl refl
  target_read (Some (of_int e)) there = no_target (Some (of_int e)) refl refl
  target_read (Some (whole name)) (more_arrays (other_there n (whole_has sized)) no_array) = (whole_target name n sized).read
  target_read (Some (range name first second)) (more_arrays (other_there n (range_has i j size is_i is_j sized first_in second_in count)) no_array) =
      (range_target name first second n i j size is_i is_j sized first_in second_in count).read

  -- a target that is short
  pub record TargetShort (target : Option ArrayTree) (n : ℕ) : Type 0 where
    pub read : TargetRead target
    pub faults : target_asked n read.place ≡ Faults LengthMismatch

  place_short : (target : Option ArrayTree) (n m : ℕ) → TargetBits target m → m < n → TargetShort target n
  place_short target n m t fewer =
      let place : Place = t.place in
      let long : place.span.count ≡ m = t.long in
      record {
        read = t.read;
        faults = ap (target_asked n) t.is
            ∙ ap (λ b. passed b LengthMismatch (Some place)) (lt-leb n place.span.count (omega (arith, long, fewer)));
      }

  whole_short : (n : ℕ) (name : List ℕ) (m : ℕ) → HasBits look variables (whole name) m → m < n → TargetShort (Some (whole name)) n
  whole_short n name m (whole_has sized) fewer = place_short (Some (whole name)) n m (whole_target name m sized) fewer

  range_short : (n : ℕ) (name : List ℕ) (first second : ExprTree) (m : ℕ) → HasBits look variables (range name first second) m → m < n →
      TargetShort (Some (range name first second)) n
  range_short n name first second m (range_has i j size is_i is_j sized first_in second_in count) fewer =
      place_short (Some (range name first second)) n m (range_target name first second m i j size is_i is_j sized first_in second_in count) fewer

  target_short : {n : ℕ} (target : Option ArrayTree) → OneIsShort look variables n (target_arrays target) → TargetShort target n
  target_short None short = elim short [ ]
  target_short (Some (bit_literal bits)) short = elim short [ ]
  target_short (Some (of_int e)) short = elim short [ ]
  target_short {n = n} (Some (whole name)) (this_short short no_array) = whole_short n name short.bits short.has short.fewer
  target_short (Some (whole name)) (later_short this short) = elim short [ ]
  target_short {n = n} (Some (range name first second)) (this_short short no_array) = range_short n name first second short.bits short.has short.fewer
  target_short (Some (range name first second)) (later_short this short) = elim short [ ]

  target_may : (n : ℕ) (place : Option Place) → May (target_asked n place)
  target_may n None = tt
  target_may n (Some place) = passed_may (nat_le n place.span.count) (Some place)

  -- ---- what a scan compares with

  pub record CompareRead (compare : Option CompareTree) : Type 0 where
    pub values : List Value
    pub are : PartsAre look variables (map array_part (compared_arrays compare) ++ result_parts compare) values
    pub found : Option Comparison
    pub is : compare_found variables (compare_parts look compare) values ≡ Known found

  -- two arrays and a cell that is found
  both_read : (expected mask : ArrayTree) (e : Read look variables expected) (m : Read look variables mask) (cell : CellPart) (cs : List Value) (c : Cell) →
      cell_found variables cell cs ≡ Known c →
      comparison_found variables (parts_of look variables expected mask cell) (e.values ++ (m.values ++ cs))
      ≡ Known (record { expected = e.bits; mask = m.bits; cell = c })
  both_read expected mask e m cell cs c is_c =
      comparison_is look variables cell e.are m.are cs
      ∙ ap (λ g. then_get g (λ x. then_get (source_bits variables (source_of look mask) m.values) (λ y. then_get (cell_found variables cell cs)
      (λ c. Known (record { expected = x; mask = y; cell = c }))))) e.is
      ∙ ap (λ g. then_get g (λ y. then_get (cell_found variables cell cs) (λ c. Known (record { expected = e.bits; mask = y; cell = c })))) m.is
      ∙ then_known (λ c. Known (record { expected = e.bits; mask = m.bits; cell = c })) is_c

  scalar_read : (expected mask : ArrayTree) (name : List ℕ) → Read look variables expected → Read look variables mask →
      CompareRead (Some (expected, (mask, scalar name)))
  scalar_read expected mask name e m =
      let cell : Cell = InScalar (look.variable name) in
      record {
        values = e.values ++ (m.values ++ []);
        are = more_parts (array_is e.are) (more_parts (array_is m.are) no_parts);
        found = Some (record { expected = e.bits; mask = m.bits; cell = cell });
        is = then_known (λ c. Known (Some c)) (both_read expected mask e m (ScalarCell (look.variable name)) [] cell refl);
      }

  element_read : (expected mask : ArrayTree) (name : List ℕ) (index : ExprTree) (i size : ℕ) → IsInteger look variables index (pos i) →
      size_of (held_by look variables name) ≡ Some size → i < size → Read look variables expected → Read look variables mask →
      CompareRead (Some (expected, (mask, element name index)))
  element_read expected mask name index i size known sized inside e m =
      let cell : Cell = InElement (look.variable name) (pos i) in
      let cs : List Value = Int (pos i) ∷ [] in
      record {
        values = e.values ++ (m.values ++ cs);
        are = more_parts (array_is e.are) (more_parts (array_is m.are) (more_parts (index_is i size known sized inside) no_parts));
        found = Some (record { expected = e.bits; mask = m.bits; cell = cell });
        is = then_known (λ c. Known (Some c)) (both_read expected mask e m (ElementCell (look.variable name)) cs cell
            (then_known (λ index. Known cell) (index_known look variables (held_by look variables name) i size sized inside)));
      }

  -- what is compared with, by what both arrays give
  compare_read : (compare : Option CompareTree) {cs : List Value} → AreThere look variables (compared_arrays compare) →
      PartsAre look variables (result_parts compare) cs → CompareRead compare
  compare_read None no_array no_parts = record { values = []; are = no_parts; found = None; is = refl }
  compare_read (Some (expected, (mask, number z))) no_array no_parts = record { values = []; are = no_parts; found = None; is = refl }
  compare_read (Some (expected, (mask, unary op e))) no_array no_parts = record { values = []; are = no_parts; found = None; is = refl }
  compare_read (Some (expected, (mask, binary op a b))) no_array no_parts = record { values = []; are = no_parts; found = None; is = refl }
  compare_read (Some (expected, (mask, abs e))) no_array no_parts = record { values = []; are = no_parts; found = None; is = refl }
  compare_read (Some (expected, (mask, int a))) no_array no_parts = record { values = []; are = no_parts; found = None; is = refl }
  compare_read (Some (expected, (mask, scalar name))) (more_arrays is_e (more_arrays is_m no_array)) no_parts =
      scalar_read expected mask name (array_read look variables is_e) (array_read look variables is_m)
  compare_read (Some (expected, (mask, element name index))) (more_arrays is_e (more_arrays is_m no_array))
      (more_parts (index_is i size known sized inside) no_parts) =
      element_read expected mask name index i size known sized inside (array_read look variables is_e) (array_read look variables is_m)

  -- two arrays of which one is short
  pub record BothShort (expected mask : ArrayTree) (n : ℕ) : Type 0 where
    pub e : Read look variables expected
    pub m : Read look variables mask
    pub short : (asked (source_of look expected) n e.bits ≡ Faults LengthMismatch) ⊎ (asked (source_of look mask) n m.bits ≡ Faults LengthMismatch)

  both_short : {expected mask : ArrayTree} {n : ℕ} → OneIsShort look variables n (expected ∷ mask ∷ []) → BothShort expected mask n
  both_short {expected = expected} {mask = mask} {n = n} (this_short short (more_arrays is_m no_array)) =
      let r : ReadShort look variables expected n = short_read look variables short in
      record { e = r.read; m = array_read look variables is_m; short = inl r.faults }
  both_short {expected = expected} {mask = mask} {n = n} (later_short is_e (this_short short no_array)) =
      let r : ReadShort look variables mask n = short_read look variables short in
      record { e = array_read look variables is_e; m = r.read; short = inr r.faults }
  both_short (later_short is_e (later_short is_m short)) = elim short [ ]

  both_asked : {expected mask : ArrayTree} {n : ℕ} (cell : CellPart) (c : Cell) (b : BothShort expected mask n) →
      compare_asked n (Some (parts_of look variables expected mask cell)) (Some (record { expected = b.e.bits; mask = b.m.bits; cell = c }))
      ≡ Faults LengthMismatch
  both_asked {expected = expected} {mask = mask} {n = n} cell c b = by b.short
    where
      ends : List Bool → List Bool → Got (Option Comparison)
      ends x y = Known (Some (record { expected = x; mask = y; cell = c }))

      by : (asked (source_of look expected) n b.e.bits ≡ Faults LengthMismatch) ⊎ (asked (source_of look mask) n b.m.bits ≡ Faults LengthMismatch) →
          then_get (asked (source_of look expected) n b.e.bits) (λ x. then_get (asked (source_of look mask) n b.m.bits) (ends x)) ≡ Faults LengthMismatch
      by (inl e) = then_faults (λ x. then_get (asked (source_of look mask) n b.m.bits) (ends x)) e
      by (inr e) =
          then_may (asked (source_of look expected) n b.e.bits) (λ x. then_get (asked (source_of look mask) n b.m.bits) (ends x))
          (asked_may (source_of look expected) n b.e.bits) (λ x. then_faults (ends x) e)

  pub record CompareShort (compare : Option CompareTree) (n : ℕ) : Type 0 where
    pub read : CompareRead compare
    pub faults : compare_asked n (compare_parts look compare) read.found ≡ Faults LengthMismatch

  compare_short : {n : ℕ} (compare : Option CompareTree) {cs : List Value} → OneIsShort look variables n (compared_arrays compare) →
      PartsAre look variables (result_parts compare) cs → CompareShort compare n
  unfolding scalar_read element_read
  compare_short None short are = elim short [ ]
  compare_short (Some (expected, (mask, number z))) short are = elim short [ ]
  compare_short (Some (expected, (mask, unary op e))) short are = elim short [ ]
  compare_short (Some (expected, (mask, binary op a b))) short are = elim short [ ]
  compare_short (Some (expected, (mask, abs e))) short are = elim short [ ]
  compare_short (Some (expected, (mask, int a))) short are = elim short [ ]
  compare_short {n = n} (Some (expected, (mask, scalar name))) short no_parts =
      let b : BothShort expected mask n = both_short short in
      record {
        read = scalar_read expected mask name b.e b.m;
        faults = both_asked (ScalarCell (look.variable name)) (InScalar (look.variable name)) b;
      }
  compare_short {n = n} (Some (expected, (mask, element name index))) short (more_parts (index_is i size known sized inside) no_parts) =
      let b : BothShort expected mask n = both_short short in
      record {
        read = element_read expected mask name index i size known sized inside b.e b.m;
        faults = both_asked (ElementCell (look.variable name)) (InElement (look.variable name) (pos i)) b;
      }

  -- ---- whole scans

  module _ (register : Register) (source : ArrayTree) (target : Option ArrayTree) (compare : Option CompareTree) where
    -- the values of a scan after its length, and what they stand for
    pub record ScanRead : Type 0 where
      pub values : List Value
      pub are : PartsAre look variables (map array_part (scan_arrays source target compare) ++ result_parts compare) values
      pub found : Found
      pub is : scan_found variables (scan_parts look register source target compare) values ≡ Known found

    scan_read : Read look variables source → TargetRead target → CompareRead compare → ScanRead
    scan_read r t c =
        let ws : List Value = t.values ++ c.values in
        let ends : Option Place → Option Comparison → Got Found = λ place found.
        Known (record { data_bits = r.bits; target = place; compare = found }) in
        record {
          values = r.values ++ ws;
          are = more_parts (array_is r.are) (t.are (compared_arrays compare) (result_parts compare) c.values c.are);
          found = record { data_bits = r.bits; target = t.place; compare = c.found };
          is = found_is look variables register source target compare r.are ws
              ∙ ap (λ g. then_get g (λ bits. after_source look variables register source target compare bits
              (take (width_of look variables target) ws) (drop (width_of look variables target) ws))) r.is
              ∙ ap₂ (after_source look variables register source target compare r.bits) (t.front c.values) (t.back c.values)
              ∙ ap (λ g. then_get g (λ place. then_get (compare_found variables (compare_parts look compare) c.values) (ends place))) t.is
              ∙ then_known (ends t.place) c.is;
        }

    -- a scan whose arrays are there
    pub there_read : {cs : List Value} → AreThere look variables (scan_arrays source target compare) →
        PartsAre look variables (result_parts compare) cs → ScanRead
    there_read (more_arrays this rest) are =
        let t = split_there (target_arrays target) rest in
        scan_read (array_read look variables this) (target_read target t.0) (compare_read compare t.1 are)

    -- a scan of which an array is short
    pub record ScanShort (s : State) (n : ℕ) : Type 0 where
      pub read : ScanRead
      pub faults : scan_asked (scan_parts look register source target compare) read.found s n ≡ Faults LengthMismatch

    abbrev captures : State → List Bool → Option Place → Option Comparison → Got Did
    captures s bits place found = Known (Captures (scan_of register (settings_of register s) bits) (λ captured. landed place found captured s))

    abbrev after_target : State → ℕ → Option Comparison → List Bool → Option Place → Got Did
    after_target s n found bits place = then_get (compare_asked n (compare_parts look compare) found) (captures s bits place)

    pub short_asked : {cs : List Value} (s : State) (n : ℕ) → OneIsShort look variables n (scan_arrays source target compare) →
        PartsAre look variables (result_parts compare) cs → ScanShort s n
    unfolding scan_read
    short_asked s n (this_short short rest) are =
        let r : ReadShort look variables source n = short_read look variables short in
        let t = split_there (target_arrays target) rest in
        let to : TargetRead target = target_read target t.0 in
        let c : CompareRead compare = compare_read compare t.1 are in
        record {
          read = scan_read r.read to c;
          faults = then_faults (λ bits. then_get (target_asked n to.place) (after_target s n c.found bits)) r.faults;
        }
    short_asked {cs = cs} s n (later_short this short) are = by (split_short (target_arrays target) short)
      where
        by : (OneIsShort look variables n (target_arrays target) × AreThere look variables (compared_arrays compare))
            ⊎ (AreThere look variables (target_arrays target) × OneIsShort look variables n (compared_arrays compare)) → ScanShort s n
        by (inl t) =
            let r : Read look variables source = array_read look variables this in
            let to : TargetShort target n = target_short target t.0 in
            let c : CompareRead compare = compare_read compare t.1 are in
            record {
              read = scan_read r to.read c;
              faults = then_may (asked (source_of look source) n r.bits) (λ bits. then_get (target_asked n to.read.place) (after_target s n c.found bits))
                  (asked_may (source_of look source) n r.bits) (λ bits. then_faults (after_target s n c.found bits) to.faults);
            }
        by (inr t) =
            let r : Read look variables source = array_read look variables this in
            let to : TargetRead target = target_read target t.0 in
            let c : CompareShort compare n = compare_short compare t.1 are in
            record {
              read = scan_read r to c.read;
              faults = then_may (asked (source_of look source) n r.bits) (λ bits. then_get (target_asked n to.place) (after_target s n c.read.found bits))
                  (asked_may (source_of look source) n r.bits)
                  (λ bits. then_may (target_asked n to.place) (after_target s n c.read.found bits) (target_may n to.place)
                  (λ place. then_faults (captures s bits place) c.faults));
            }

-- ---- the effect

-- the values of a scan after its length, and how it breaks
pub record ScanFaults (look : Lookup) (register : Register) (source : ArrayTree) (target : Option ArrayTree) (compare : Option CompareTree) (s : State)
    (z : ℤ) (k : RunFault) : Type 0 where
  pub values : List Value
  pub are : PartsAre look s.store.variables (map array_part (scan_arrays source target compare) ++ result_parts compare) values
  pub faults : scanned (scan_parts look register source target compare) (Int z ∷ values) s ≡ Faults k

pub bad_scan_faults : (look : Lookup) (register : Register) (source : ArrayTree) (target : Option ArrayTree) (compare : Option CompareTree) (s : State)
    (z : ℤ) {cs : List Value} → AreThere look s.store.variables (scan_arrays source target compare) → PartsAre look s.store.variables (result_parts compare) cs →
    IsOutside (pos 1) (pos 4194304) z → ScanFaults look register source target compare s z BadLength
bad_scan_faults look register source target compare s z there are out =
    let r : ScanRead look s.store.variables register source target compare = there_read look s.store.variables register source target compare there are in
    record {
      values = r.values;
      are = r.are;
      faults = then_known (λ found. then_get (length_between 1 4194304 z) (scan_asked (scan_parts look register source target compare) found s)) r.is
          ∙ then_faults (scan_asked (scan_parts look register source target compare) r.found s) (length_faults 1 4194304 z out);
    }

pub short_scan_faults : (look : Lookup) (register : Register) (source : ArrayTree) (target : Option ArrayTree) (compare : Option CompareTree) (s : State)
    (n : ℕ) {cs : List Value} → OneIsShort look s.store.variables n (scan_arrays source target compare) →
    PartsAre look s.store.variables (result_parts compare) cs → 1 ≤ n → n ≤ 4194304 →
    ScanFaults look register source target compare s (pos n) LengthMismatch
short_scan_faults look register source target compare s n short are some few =
    let r : ScanShort look s.store.variables register source target compare s n = short_asked look s.store.variables register source target compare s n short are in
    record {
      values = r.read.values;
      are = r.read.are;
      faults = then_known (λ found. then_get (length_between 1 4194304 (pos n)) (scan_asked (scan_parts look register source target compare) found s)) r.read.is
          ∙ then_known (scan_asked (scan_parts look register source target compare) r.read.found s) (length_known 1 4194304 n some few)
          ∙ r.faults;
    }
