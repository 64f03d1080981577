-- Scans and paddings of a valid code find their parts, and keep the lengths of arrays.
use Rattle.std.proofs.Common.{◌≡◌, ℕ, suc, ◌+◌, ◌≤◌, Bool, true, false, List, [], ◌∷◌, ◌++◌, Option, Some, None, length, take, drop, arith, refl, sym, ap, ◌∙◌, subst}
use Rattle.std.specs.Prelude.{ℤ, pos, int_le, nat_abs, nat_le, ◌&&◌, ◌==◌, replicate, slice_get, slice_set}
use Rattle.std.specs.List.{list_all}
use Rattle.std.specs.Option.{option_map}
use Rattle.std.proofs.Math.Seq.{take-append_seam, drop-append_seam}
use Rattle.std.proofs.lemmas.Bool.{and_parts, leb-true}
use Rattle.stapl_lexer.specs.declared.terminal.Padding.{Padding}
use Rattle.stapl_lexer.specs.declared.terminal.Register.{Register}
use Rattle.stapl_lexer.specs.declared.terminal.Register.TheVariants as registers
use Rattle.tap_states.specs.Tap.{is_stable_state}
use Rattle.dev_card.specs.Card.{Card}
use Rattle.dev_card.specs.Board.{Input, clocks_of, after_input}
use Rattle.dev_card.proofs.Scanning.{length_of_captured}
use Rattle.dev_card.specs.FarEnds.{FarEnd, Told, Heard, far_clocks, heard_clocks, then_heard}
use Rattle.dev_card.specs.Scans.{BoardScan, inputs_of_scan}
use Rattle.stapl_meaning.specs.Deeds.{Chain, based, captured_on}
use Rattle.stapl_meaning.specs.declared.events.RunFault.TheVariants.{IndexOutOfRange, LengthMismatch, BadLength}
use Rattle.stapl_meaning.specs.declared.values.Held.{Held}
use Rattle.stapl_meaning.specs.declared.values.Held.TheVariants as held
use Rattle.stapl_meaning.specs.declared.values.Value.{Value}
use Rattle.stapl_meaning.specs.declared.values.Value.TheVariants.{Int, Bit}
use Rattle.stapl_meaning.specs.declared.values.ValueKind.TheVariants as kinds
use Rattle.stapl_meaning.specs.Values.{Got, Known, Faults, Stuck, then_get, is_index, passed, index_held, bits_held, bits_in, Span, whole_span, span_put, span_of, span_between, source_bits, asked}
use Rattle.stapl_meaning.specs.Values as values
use Rattle.stapl_meaning.specs.States.{State, Did, Falls, Captures}
use Rattle.stapl_meaning.specs.Effects.{Target, with_variables, scalar_written, element_written, written}
use Rattle.stapl_meaning.specs.Scans.{settings_of, with_padding, scan_limit, padding_limit, length_between, scan_of, CompareParts, ScanParts, source_width, target_width, Place, Cell, InScalar, InElement, Comparison, target_found, cell_found, comparison_found, compare_found, Found, scan_found, caught, agree, known_or, cell_written, judged, landed, target_asked, compare_asked, scan_asked, scanned, padding_bits, surrounded}
use Rattle.stapl_code.specs.declared.raw.VarDef.{VarDef}
use Rattle.stapl_code.specs.declared.instr.Source.{Source}
use Rattle.stapl_code.specs.declared.instr.Source.TheVariants as sources
use Rattle.stapl_code.specs.declared.instr.Dest.{Dest}
use Rattle.stapl_code.specs.declared.instr.Dest.TheVariants as dests
use Rattle.stapl_code.specs.declared.instr.Cell as code
use Rattle.stapl_code.specs.declared.instr.Cell.TheVariants as cells
use Rattle.stapl_code.specs.declared.instr.Compare.{Compare}
use Rattle.stapl_code.specs.declared.instr.Scan.{Scan}
use Rattle.stapl_code.specs.Machine.{Constants, Of, Want, source_slots, source_wants, target_of, known_literal, known_source, known_given, given_slots, given_wants, target_slots}
use Rattle.stapl_code.specs.Machine.{target_wants, cell_slots, cell_want, compare_slots, compare_wants, scan_slots, scan_wants, cell_part, known_compare, known_scan}
use Rattle.stapl_code.specs.Ranges.{IsSource, IsGiven, IsCompare, IsScan}
use Rattle.stapl_code.specs.Kinds.{item_kind, element_kind, is_of_kind, is_met}
use Rattle.stapl_code.specs.Safe.{AllFit}
use Rattle.stapl_code.proofs.Fitting.{FitAt, fit_at, fit_set}
use Rattle.stapl_code.proofs.Operands.{kind_of, Fill, each_at, filled_count, fill_parts}
use Rattle.stapl_code.proofs.ArraySteps.{IsGot, IsAnswer, then_good, passed_good, EndsWithin, HasLength, asked_good, length-put, HoldsBits, holds_bits, span_between_good, source_good}
use Rattle.stapl_code.proofs.ArraySteps.{Writes, element_stored}
use Rattle.stapl_code.proofs.ScanKinds.{all_both}

-- ---- captured bits

count_of : (is : List Input) (cs : List Card) → length (clocks_of cs is) ≡ length is
count_of [] cs = refl
count_of (i ∷ is) cs = ap suc (count_of is (after_input cs i))

count_heard : (is : List Input) (bs : List Bool) → length (heard_clocks bs is) ≡ length is
count_heard [] bs = refl
count_heard (i ∷ is) bs = ap suc (count_heard is (then_heard bs))

far_count : (far : FarEnd) (is : List Input) → length (far_clocks far is) ≡ length is
far_count (Told cs) is = count_of is cs
far_count (Heard bs) is = count_heard is bs

-- a scan captures as many bits as its data has
pub captured_count : (k : Chain) (scan : BoardScan) → length (captured_on k scan) ≡ length scan.bits
captured_count k scan =
    let whole = based k.base scan in
    length_of_captured k.tap whole (far_clocks k.far (inputs_of_scan k.tap whole)) (far_count k.far (inputs_of_scan k.tap whole))

-- ---- values in front of others

front_of : (n : ℕ) (vs rest : List Value) → n ≡ length vs → take n (vs ++ rest) ≡ vs
front_of n vs rest e = ap (λ (m : ℕ). take m (vs ++ rest)) e ∙ take-append_seam vs rest

back_of : (n : ℕ) (vs rest : List Value) → n ≡ length vs → drop n (vs ++ rest) ≡ rest
back_of n vs rest e = ap (λ (m : ℕ). drop m (vs ++ rest)) e ∙ drop-append_seam vs rest

module _ (variables : List VarDef) where
  -- a place is a part of an array, and a cell is a BOOLEAN one
  pub record PlaceFits (place : Place) : Type 0 where
    pub variable : VarDef
    pub is : slice_get variables place.array ≡ Some variable
    pub kind : variable.kind ≡ 3
    pub inside : place.span.low + place.span.count ≤ variable.size

  abbrev TargetFits : Option Place → Type 0
  TargetFits None = Unit {0}
  TargetFits (Some place) = PlaceFits place

  abbrev CellFits : Cell → Type 0
  CellFits (InScalar n) = is_of_kind 1 (slice_get variables n) ≡ true
  CellFits (InElement n i) = is_of_kind 3 (slice_get variables n) ≡ true

  abbrev CompareFits : Option Comparison → Type 0
  CompareFits None = Unit {0}
  CompareFits (Some c) = CellFits c.cell

  -- the one operand of an integer's slot is an integer
  one_integer : (v : Value) → Some kinds.Int ≡ Some (kind_of v) → (z : ℤ) × (v ≡ Int z)
  one_integer (Int z) e = (z, refl)
  one_integer (Bit b) e = absurd cc

  module _ (constants : Constants) (s : State) (fit : AllFit variables s.store.variables) where
    abbrev contents : List Held
    contents = s.store.variables

    -- ---- the parts

    holds : (n : ℕ) → is_of_kind 3 (slice_get variables n) ≡ true → HoldsBits (slice_get variables n) (slice_get contents n)
    holds n kind = holds_bits (slice_get variables n) (slice_get contents n) (fit_at variables contents n fit) kind

    -- a source has as many operands as its slots
    width_is : (source : Source) (from : values.Source) → known_source constants source ≡ Known from → source_width from ≡ length (source_slots source)
    width_is (sources.Literal n) from e = by (slice_get constants.literals n) e
      where
        by : (o : Option (List Bool)) → known_literal o ≡ Known from → source_width from ≡ 0
        by None e = absurd cc
        by (Some bits) e = let same : values.These bits ≡ from = cc in ap source_width (sym same)
    width_is (sources.Whole n) from e = let same : values.Whole n ≡ from = cc in ap source_width (sym same)
    width_is (sources.Range n) from e = let same : values.Range constants.profile n ≡ from = cc in ap source_width (sym same)
    width_is sources.FromInt from e = let same : values.OfInt ≡ from = cc in ap source_width (sym same)

    -- a source that was resolved, with the operands in its slots
    pub record Reads (source : Source) : Type 0 where
      pub from : values.Source
      pub known : known_source constants source ≡ Known from
      pub width : source_width from ≡ length (source_slots source)
      pub bits : (vs : List Value) → Fill variables (source_slots source) vs → IsAnswer (source_bits contents from vs)

    reads : (source : Source) → IsSource (length variables) (length constants.literals) source → list_all (is_met variables) (source_wants source) ≡ true → Reads source
    reads source r met =
        let is = source_good variables constants contents source fit r met in
        record {
          from = is.from;
          known = is.known;
          width = width_is source is.from is.known;
          bits = each_at variables (source_slots source) (λ vs. IsAnswer (source_bits contents is.from vs)) is.bits;
        }

    target_width_is : (target : Option Dest) → target_width (option_map (target_of constants.profile) target) ≡ length (target_slots target)
    target_width_is None = refl
    target_width_is (Some (dests.Whole n)) = refl
    target_width_is (Some (dests.Range n)) = refl

    -- a part of an array is found
    range_found : (n : ℕ) (kind : is_of_kind 3 (slice_get variables n) ≡ true) (high low : ℤ) →
        IsGot TargetFits (target_found contents (Some (target_of constants.profile (dests.Range n))) (Int high ∷ Int low ∷ []))
    range_found n kind high low =
        let h = holds n kind in
        let make : Span → Option Place = λ span. Some (record { array = n; span = span }) in
        subst (λ o. IsGot TargetFits (then_get (bits_held o) (λ old. then_get (span_of constants.profile (length old) (Int high) (Int low)) (λ span. Known (make span))))) (sym h.held)
        (then_good (EndsWithin (length h.bits)) TargetFits (span_between constants.profile (length h.bits) high low) (λ span. Known (make span))
        (span_between_good constants.profile (length h.bits) high low)
        (λ span inside. record { variable = h.variable; is = h.is; kind = h.kind; inside = omega (arith, inside, h.size) }))

    target_good : (target : Option Dest) → list_all (is_met variables) (target_wants target) ≡ true →
        (vs : List Value) → Fill variables (target_slots target) vs → IsGot TargetFits (target_found contents (option_map (target_of constants.profile) target) vs)
    target_good None met [] fill = tt
    target_good None met (v ∷ vs) fill = absurd fill
    target_good (Some (dests.Whole n)) met [] fill =
        let kind = (and_parts (is_of_kind 3 (slice_get variables n)) true met).0 in
        let h = holds n kind in
        let all : List Bool → Option Place = λ old. Some (record { array = n; span = whole_span (length old) }) in
        subst (λ o. IsGot TargetFits (then_get (bits_held o) (λ old. Known (all old)))) (sym h.held)
        (record { variable = h.variable; is = h.is; kind = h.kind; inside = omega (arith, h.size) })
    target_good (Some (dests.Whole n)) met (v ∷ vs) fill = absurd fill
    target_good (Some (dests.Range n)) met (v ∷ w ∷ []) fill =
        let kind = (and_parts (is_of_kind 3 (slice_get variables n)) true met).0 in
        let high = one_integer v fill.0 in
        let low = one_integer w fill.1.0 in
        subst (λ x. IsGot TargetFits (target_found contents (Some (target_of constants.profile (dests.Range n))) (x ∷ w ∷ []))) (sym high.1)
        (subst (λ y. IsGot TargetFits (target_found contents (Some (target_of constants.profile (dests.Range n))) (Int high.0 ∷ y ∷ []))) (sym low.1) (range_found n kind high.0 low.0))
    target_good (Some (dests.Range n)) met [] fill = absurd fill
    target_good (Some (dests.Range n)) met (v ∷ []) fill = absurd fill.1
    target_good (Some (dests.Range n)) met (v ∷ w ∷ x ∷ vs) fill = absurd fill.1.1

    cell_good : (cell : code.Cell) → is_met variables (cell_want cell) ≡ true →
        (vs : List Value) → Fill variables (cell_slots cell) vs → IsGot CellFits (cell_found contents (cell_part cell) vs)
    cell_good (cells.Scalar n) met [] fill = met
    cell_good (cells.Scalar n) met (v ∷ vs) fill = absurd fill
    cell_good (cells.Element n) met [] fill = absurd fill
    cell_good (cells.Element n) met (v ∷ []) fill =
        let i = one_integer v fill.0 in
        let h = holds n met in
        subst (λ x. IsGot CellFits (cell_found contents (cell_part (cells.Element n)) (x ∷ []))) (sym i.1)
        (subst (λ o. IsGot CellFits (then_get (index_held o (Int i.0)) (λ index. Known (InElement n i.0)))) (sym h.held)
        (then_good (λ _. Unit {0}) CellFits (passed (is_index i.0 (length h.bits)) IndexOutOfRange (Int i.0)) (λ index. Known (InElement n i.0))
        (passed_good (λ _. Unit {0}) (is_index i.0 (length h.bits)) IndexOutOfRange (Int i.0) tt) (λ index _. met)))
    cell_good (cells.Element n) met (v ∷ w ∷ vs) fill = absurd fill.1

    -- a comparison that was resolved
    pub record Compares (compare : Option Compare) : Type 0 where
      pub parts : Option CompareParts
      pub known : known_compare constants compare ≡ Known parts
      pub found : (vs : List Value) → Fill variables (compare_slots compare) vs → IsGot CompareFits (compare_found contents parts vs)

    abbrev CellOf : Comparison → Type 0
    CellOf c = CellFits c.cell

    some_compared : (c : Compare) (e : Reads c.expected) (m : Reads c.mask) → is_met variables (cell_want c.cell) ≡ true →
        (vs : List Value) → Fill variables (compare_slots (Some c)) vs →
        IsGot CellOf (comparison_found contents (record { expected = e.from; mask = m.from; cell = cell_part c.cell }) vs)
    some_compared c e m met vs fill =
        let f = fill_parts variables (source_slots c.expected) (source_slots c.mask ++ cell_slots c.cell) vs fill in
        let g = fill_parts variables (source_slots c.mask) (cell_slots c.cell) f.back f.fill_back in
        let first = e.width ∙ sym (filled_count variables (source_slots c.expected) f.front f.fill_front) in
        let second = m.width ∙ sym (filled_count variables (source_slots c.mask) g.front g.fill_front) in
        let front = ap (take (source_width e.from)) f.whole ∙ front_of (source_width e.from) f.front f.back first in
        let rest = ap (drop (source_width e.from)) f.whole ∙ back_of (source_width e.from) f.front f.back first ∙ g.whole in
        let middle = ap (take (source_width m.from)) rest ∙ front_of (source_width m.from) g.front g.back second in
        let last = ap (drop (source_width m.from)) rest ∙ back_of (source_width m.from) g.front g.back second in
        let made : List Bool → List Bool → Cell → Comparison = λ expected mask cell. record { expected = expected; mask = mask; cell = cell } in
        let celled : List Bool → List Bool → List Value → Got Comparison = λ expected mask ws. then_get (cell_found contents (cell_part c.cell) ws) (λ cell. Known (made expected mask cell)) in
        let masked : List Bool → List Value → List Value → Got Comparison = λ expected us ws. then_get (source_bits contents m.from us) (λ mask. celled expected mask ws) in
        subst (λ us. IsGot CellOf (then_get (source_bits contents e.from us)
        (λ expected. masked expected (take (source_width m.from) (drop (source_width e.from) vs)) (drop (source_width m.from) (drop (source_width e.from) vs))))) (sym front)
        (subst (λ us. IsGot CellOf (then_get (source_bits contents e.from f.front) (λ expected. masked expected us (drop (source_width m.from) (drop (source_width e.from) vs))))) (sym middle)
        (subst (λ ws. IsGot CellOf (then_get (source_bits contents e.from f.front) (λ expected. masked expected g.front ws))) (sym last)
        (then_good (λ _. Unit {0}) CellOf (source_bits contents e.from f.front) (λ expected. masked expected g.front g.back) (e.bits f.front f.fill_front) (λ expected _.
        then_good (λ _. Unit {0}) CellOf (source_bits contents m.from g.front) (λ mask. celled expected mask g.back) (m.bits g.front g.fill_front) (λ mask _.
        then_good CellFits CellOf (cell_found contents (cell_part c.cell) g.back) (λ cell. Known (made expected mask cell)) (cell_good c.cell met g.back g.fill_back) (λ cell fits. fits))))))

    compares : (compare : Option Compare) → IsGiven (IsCompare (length variables) (length constants.literals)) compare →
        list_all (is_met variables) (compare_wants compare) ≡ true → Compares compare
    compares None r met = record { parts = None; known = refl; found = none }
      where
        none : (vs : List Value) → Fill variables [] vs → IsGot CompareFits (compare_found contents None vs)
        none [] fill = tt
        none (v ∷ vs) fill = absurd fill
    compares (Some c) r met =
        let both = and_parts (is_met variables (cell_want c.cell)) (list_all (is_met variables) (source_wants c.expected ++ source_wants c.mask)) met in
        let split = and_parts (list_all (is_met variables) (source_wants c.expected)) (list_all (is_met variables) (source_wants c.mask))
        (sym (all_both variables (source_wants c.expected) (source_wants c.mask)) ∙ both.1) in
        let e = reads c.expected r.expected split.0 in
        let m = reads c.mask r.mask split.1 in
        let parts : CompareParts = record { expected = e.from; mask = m.from; cell = cell_part c.cell } in
        let make : values.Source → values.Source → Got (Option CompareParts) = λ expected mask. Known (Some (record { expected = expected; mask = mask; cell = cell_part c.cell })) in
        record {
          parts = Some parts;
          known = ap (λ g. then_get g (λ expected. then_get (known_source constants c.mask) (λ mask. make expected mask))) e.known ∙ ap (λ g. then_get g (λ mask. make e.from mask)) m.known;
          found = λ vs fill.
              then_good CellOf CompareFits (comparison_found contents parts vs) (λ comparison. Known (Some comparison)) (some_compared c e m both.0 vs fill) (λ c fits. fits);
        }

    -- ---- what is found

    record FoundFits (found : Found) : Type 0 where
      target : TargetFits found.target
      compare : CompareFits found.compare

    found_good : (scan : Scan) (a : Reads scan.source) (c : Compares scan.compare) → list_all (is_met variables) (target_wants scan.target) ≡ true →
        (vs : List Value) → Fill variables (scan_slots scan) vs →
        IsGot FoundFits (scan_found contents (record { register = scan.register; source = a.from; target = option_map (target_of constants.profile) scan.target; compare = c.parts }) vs)
    found_good scan a c met vs fill =
        let to : Option Target = option_map (target_of constants.profile) scan.target in
        let f = fill_parts variables (source_slots scan.source) (target_slots scan.target ++ compare_slots scan.compare) vs fill in
        let g = fill_parts variables (target_slots scan.target) (compare_slots scan.compare) f.back f.fill_back in
        let first = a.width ∙ sym (filled_count variables (source_slots scan.source) f.front f.fill_front) in
        let second = target_width_is scan.target ∙ sym (filled_count variables (target_slots scan.target) g.front g.fill_front) in
        let front = ap (take (source_width a.from)) f.whole ∙ front_of (source_width a.from) f.front f.back first in
        let rest = ap (drop (source_width a.from)) f.whole ∙ back_of (source_width a.from) f.front f.back first ∙ g.whole in
        let middle = ap (take (target_width to)) rest ∙ front_of (target_width to) g.front g.back second in
        let last = ap (drop (target_width to)) rest ∙ back_of (target_width to) g.front g.back second in
        let made : List Bool → Option Place → Option Comparison → Found = λ data_bits target compare. record { data_bits = data_bits; target = target; compare = compare } in
        let compared : List Bool → Option Place → List Value → Got Found = λ data_bits target ws. then_get (compare_found contents c.parts ws) (λ compare. Known (made data_bits target compare)) in
        let placed : List Bool → List Value → List Value → Got Found = λ data_bits us ws. then_get (target_found contents to us) (λ target. compared data_bits target ws) in
        subst (λ us. IsGot FoundFits (then_get (source_bits contents a.from us)
        (λ data_bits. placed data_bits (take (target_width to) (drop (source_width a.from) vs)) (drop (target_width to) (drop (source_width a.from) vs))))) (sym front)
        (subst (λ us. IsGot FoundFits (then_get (source_bits contents a.from f.front) (λ data_bits. placed data_bits us (drop (target_width to) (drop (source_width a.from) vs))))) (sym middle)
        (subst (λ ws. IsGot FoundFits (then_get (source_bits contents a.from f.front) (λ data_bits. placed data_bits g.front ws))) (sym last)
        (then_good (λ _. Unit {0}) FoundFits (source_bits contents a.from f.front) (λ data_bits. placed data_bits g.front g.back) (a.bits f.front f.fill_front) (λ data_bits _.
        then_good TargetFits FoundFits (target_found contents to g.front) (λ target. compared data_bits target g.back) (target_good scan.target met g.front g.fill_front) (λ target fits.
        then_good CompareFits FoundFits (compare_found contents c.parts g.back) (λ compare. Known (made data_bits target compare)) (c.found g.back g.fill_back) (λ compare own.
        record { target = fits; compare = own }))))))

    -- ---- what lands

    caught_fits : (n : ℕ) (target : Option Place) → TargetFits target → ((place : Place) → target ≡ Some place → n ≤ place.span.count) → (bits : List Bool) → length bits ≡ n →
        AllFit variables (caught target bits contents)
    caught_fits n None fits enough bits count = fit
    caught_fits n (Some place) fits enough bits count =
        let kind : is_of_kind 3 (slice_get variables place.array) ≡ true = ap (is_of_kind 3) fits.is ∙ ap (λ (n : ℕ). n == 3) fits.kind in
        let h = holds place.array kind in
        let same : h.variable ≡ fits.variable = let e : Some h.variable ≡ Some fits.variable = sym h.is ∙ fits.is in cc in
        let size = ap (λ (v : VarDef). v.size) same in
        let most = enough place refl in
        let new : List Bool = span_put place.span bits h.bits in
        let length_new : length new ≡ fits.variable.size =
        length-put place.span bits h.bits (omega (arith, count, most)) (omega (arith, fits.inside, size, h.size)) ∙ h.size ∙ size in
        subst (λ o. AllFit variables (slice_set contents place.array (held.Bits (span_put place.span bits (bits_in o))))) (sym h.held)
        (fit_set variables contents place.array fits.variable (held.Bits new) fit fits.is (fits.kind, length_new))

  -- a result goes into a cell of whatever fits
  module _ (s : State) (fit : AllFit variables s.store.variables) where
    or_fits : (g : Got (List Held)) → IsGot (Writes variables s) (written s g) → AllFit variables (known_or s.store.variables g)
    or_fits (Known list) h = h.2
    or_fits (Faults k) h = fit
    or_fits Stuck h = fit

    scalar_put : (n : ℕ) (b : Bool) (ov : Option VarDef) (oh : Option Held) → slice_get variables n ≡ ov → FitAt ov oh → is_of_kind 1 ov ≡ true →
        AllFit variables (known_or s.store.variables (scalar_written s.store.variables n oh (Bit b)))
    scalar_put n b None oh at f e = absurd cc
    scalar_put n b (Some v) None at f e = absurd f
    scalar_put n b (Some v) (Some (held.Bit old)) at f e = fit_set variables s.store.variables n v (held.Bit b) fit at f
    scalar_put n b (Some v) (Some (held.Int z)) at f e = fit
    scalar_put n b (Some v) (Some (held.Ints zs)) at f e = fit
    scalar_put n b (Some v) (Some (held.Bits bs)) at f e = fit

    element_put : (n : ℕ) (i : ℤ) (b : Bool) → is_of_kind 3 (slice_get variables n) ≡ true →
        AllFit variables (known_or s.store.variables (element_written s.store.variables n (slice_get s.store.variables n) i (Bit b)))
    element_put n i b kind =
        let h = holds_bits (slice_get variables n) (slice_get s.store.variables n) (fit_at variables s.store.variables n fit) kind in
        or_fits (element_written s.store.variables n (slice_get s.store.variables n) i (Bit b))
        (element_stored variables s fit n (slice_get variables n) (slice_get s.store.variables n) i (Bit b) refl (fit_at variables s.store.variables n fit)
        (ap (λ o. element_kind o) h.is ∙ ap (λ (n : ℕ). item_kind n) h.kind))

    cell_put : (cell : Cell) → CellFits cell → (b : Bool) → AllFit variables (known_or s.store.variables (cell_written cell b s.store.variables))
    cell_put (InScalar n) fits b =
        scalar_put n b (slice_get variables n) (slice_get s.store.variables n) refl (fit_at variables s.store.variables n fit) fits
    cell_put (InElement n i) fits b = element_put n i b fits

    judged_fits : (compare : Option Comparison) → CompareFits compare → (bits : List Bool) → AllFit variables (judged compare bits s.store.variables)
    judged_fits None fits bits = fit
    judged_fits (Some c) fits bits = cell_put c.cell fits (agree c.mask c.expected bits)

-- what a scan and a padding of a valid code do
abbrev pub ScansWell : List VarDef → State → Did → Type 0
ScansWell variables s (Captures scan lands) =
    (is_stable_state scan.stop ≡ true)
    × ((bits : List Bool) → length bits ≡ length scan.bits → (lands bits ≡ with_variables s (lands bits).store.variables) × AllFit variables (lands bits).store.variables)
ScansWell variables s _ = ⊥

abbrev pub PadsWell : Padding → State → Did → Type 0
PadsWell which s (Falls deeds t) = (deeds ≡ []) × ((bits : List Bool) × (t ≡ with_padding which bits s))
PadsWell which s _ = ⊥

module _ (variables : List VarDef) (constants : Constants) (s : State) (fit : AllFit variables s.store.variables) where
  stop_stable : (register : Register) → is_stable_state s.ir.stop ≡ true → is_stable_state s.dr.stop ≡ true → is_stable_state (settings_of register s).stop ≡ true
  stop_stable registers.Data ir dr = dr
  stop_stable registers.Instruction ir dr = ir

  -- a target that has so many bits
  record TargetHas (n : ℕ) (target : Option Place) : Type 0 where
    fits : TargetFits variables target
    enough : (place : Place) → target ≡ Some place → n ≤ place.span.count

  target_has : (n : ℕ) (target : Option Place) → TargetFits variables target → IsGot (TargetHas n) (target_asked n target)
  target_has n None fits = record { fits = tt; enough = λ place e. absurd cc }
  target_has n (Some place) fits = by (nat_le n place.span.count) refl
    where
      by : (b : Bool) → nat_le n place.span.count ≡ b → IsGot (TargetHas n) (passed b LengthMismatch (Some place))
      by true e = record {
        fits = fits;
        enough = λ other same. let one : place ≡ other = cc in omega (arith, leb-true n place.span.count e, ap (λ (p : Place). p.span.count) one);
      }
      by false e = tt

  compare_has : (n : ℕ) (parts : Option CompareParts) (compare : Option Comparison) → CompareFits variables compare → IsGot (CompareFits variables) (compare_asked n parts compare)
  compare_has n None None fits = tt
  compare_has n None (Some c) fits = tt
  compare_has n (Some parts) None fits = tt
  compare_has n (Some parts) (Some c) fits =
      then_good (HasLength n) (CompareFits variables) (asked parts.expected n c.expected)
      (λ expected. then_get (asked parts.mask n c.mask) (λ mask. Known (Some (record c { expected = expected; mask = mask }))))
      (asked_good parts.expected n c.expected)
      (λ expected _. then_good (HasLength n) (CompareFits variables) (asked parts.mask n c.mask) (λ mask. Known (Some (record c { expected = expected; mask = mask })))
      (asked_good parts.mask n c.mask) (λ mask _. fits))

  landed_well : (n : ℕ) (target : Option Place) (compare : Option Comparison) → TargetHas n target → CompareFits variables compare → (captured : List Bool) → length captured ≡ n →
      AllFit variables (landed target compare captured s).store.variables
  landed_well n target compare has fits captured count =
      let kept = caught_fits variables constants s fit n target has.fits has.enough captured count in
      judged_fits variables (with_variables s (caught target captured s.store.variables)) kept compare fits captured

  -- a scan of what was found
  asked_well : (ir : is_stable_state s.ir.stop ≡ true) (dr : is_stable_state s.dr.stop ≡ true) (parts : ScanParts) (found : Found) → FoundFits variables constants s fit found → (n : ℕ) →
      IsGot (ScansWell variables s) (scan_asked parts found s n)
  asked_well ir dr parts found fits n =
      let job : List Bool → BoardScan = λ bits. scan_of parts.register (settings_of parts.register s) bits in
      let lands : Option Place → Option Comparison → List Bool → State = λ target compare captured. landed target compare captured s in
      then_good (HasLength n) (ScansWell variables s) (asked parts.source n found.data_bits)
      (λ bits. then_get (target_asked n found.target) (λ target. then_get (compare_asked n parts.compare found.compare) (λ compare. Known (Captures (job bits) (lands target compare)))))
      (asked_good parts.source n found.data_bits) (λ bits count.
      then_good (TargetHas n) (ScansWell variables s) (target_asked n found.target)
      (λ target. then_get (compare_asked n parts.compare found.compare) (λ compare. Known (Captures (job bits) (lands target compare))))
      (target_has n found.target fits.target) (λ target has.
      then_good (CompareFits variables) (ScansWell variables s) (compare_asked n parts.compare found.compare) (λ compare. Known (Captures (job bits) (lands target compare)))
      (compare_has n parts.compare found.compare fits.compare) (λ compare own.
      (stop_stable parts.register ir dr, λ captured same. (refl, landed_well n target compare has own captured (same ∙ count))))))

  pub scan_good : is_stable_state s.ir.stop ≡ true → is_stable_state s.dr.stop ≡ true → (scan : Scan) → list_all (is_met variables) (scan_wants scan) ≡ true →
      IsScan (length variables) (length constants.literals) scan → (vs : List Value) → Fill variables (Of kinds.Int ∷ scan_slots scan) vs →
      IsGot (ScansWell variables s) (then_get (known_scan constants scan) (λ parts. scanned parts vs s))
  scan_good ir dr scan met r [] fill = absurd fill
  scan_good ir dr scan met r (v ∷ vs) fill =
      let wants : List Want = target_wants scan.target ++ compare_wants scan.compare in
      let both = and_parts (list_all (is_met variables) (source_wants scan.source)) (list_all (is_met variables) wants) (sym (all_both variables (source_wants scan.source) wants) ∙ met) in
      let more = and_parts (list_all (is_met variables) (target_wants scan.target)) (list_all (is_met variables) (compare_wants scan.compare))
      (sym (all_both variables (target_wants scan.target) (compare_wants scan.compare)) ∙ both.1) in
      let a = reads variables constants s fit scan.source r.source both.0 in
      let c = compares variables constants s fit scan.compare r.compare more.1 in
      let z = one_integer variables v fill.0 in
      let parts : ScanParts = record { register = scan.register; source = a.from; target = option_map (target_of constants.profile) scan.target; compare = c.parts } in
      let make : values.Source → Option CompareParts → ScanParts =
      λ source compare. record { register = scan.register; source = source; target = option_map (target_of constants.profile) scan.target; compare = compare } in
      let known : known_scan constants scan ≡ Known parts =
      ap (λ g. then_get g (λ source. then_get (known_compare constants scan.compare) (λ compare. Known (make source compare)))) a.known
      ∙ ap (λ g. then_get g (λ compare. Known (make a.from compare))) c.known
      in
      let measured : Found → Got Did = λ found. then_get (length_between 1 scan_limit z.0) (scan_asked parts found s) in
      subst (λ g. IsGot (ScansWell variables s) (then_get g (λ p. scanned p (v ∷ vs) s))) (sym known)
      (subst (λ x. IsGot (ScansWell variables s) (scanned parts (x ∷ vs) s)) (sym z.1)
      (then_good (FoundFits variables constants s fit) (ScansWell variables s) (scan_found s.store.variables parts vs) measured
      (found_good variables constants s fit scan a c more.0 vs fill.1) (λ found fits.
      then_good (λ _. Unit {0}) (ScansWell variables s) (length_between 1 scan_limit z.0) (scan_asked parts found s)
      (passed_good (λ _. Unit {0}) (int_le (pos 1) z.0 && int_le z.0 (pos scan_limit)) BadLength (nat_abs z.0) tt) (λ n _. asked_well ir dr parts found fits n))))

  -- bits that a padding is set to
  set_well : (which : Padding) (g : Got (List Bool)) → IsAnswer g → IsGot (PadsWell which s) (then_get g (λ bits. Known (Falls [] (with_padding which bits s))))
  set_well which (Known bits) answer = (refl, (bits, refl))
  set_well which (Faults k) answer = tt
  set_well which Stuck answer = absurd answer

  long_enough : (z : ℤ) (go : ℕ → Got (List Bool)) → ((n : ℕ) → IsAnswer (go n)) → IsAnswer (then_get (length_between 0 padding_limit z) go)
  long_enough z go all =
      then_good (λ _. Unit {0}) (λ _. Unit {0}) (length_between 0 padding_limit z) go
      (passed_good (λ _. Unit {0}) (int_le (pos 0) z && int_le z (pos padding_limit)) BadLength (nat_abs z) tt) (λ n _. all n)

  asked_answers : (from : values.Source) (n : ℕ) (bits : List Bool) → IsAnswer (asked from n bits)
  asked_answers from n bits = got_answers (asked from n bits) (asked_good from n bits)
    where
      got_answers : (g : Got (List Bool)) → IsGot (HasLength n) g → IsAnswer g
      got_answers (Known bits) h = tt
      got_answers (Faults k) h = tt
      got_answers Stuck h = absurd h

  pub padding_good : (which : Padding) (source : Option Source) → list_all (is_met variables) (given_wants source) ≡ true →
      IsGiven (IsSource (length variables) (length constants.literals)) source → (vs : List Value) → Fill variables (Of kinds.Int ∷ given_slots source) vs →
      IsGot (PadsWell which s) (then_get (known_given constants source) (λ from. surrounded which from vs s))
  padding_good which source met r [] fill = absurd fill
  padding_good which None met r (v ∷ []) fill =
      let z = one_integer variables v fill.0 in
      subst (λ x. IsGot (PadsWell which s) (surrounded which None (x ∷ []) s)) (sym z.1)
      (set_well which (padding_bits s.store.variables None [] z.0) (long_enough z.0 (λ n. Known (replicate n true)) (λ n. tt)))
  padding_good which None met r (v ∷ w ∷ vs) fill = absurd fill.1
  padding_good which (Some source) met r (v ∷ vs) fill =
      let a = reads variables constants s fit source r met in
      let z = one_integer variables v fill.0 in
      let measured : List Bool → Got (List Bool) = λ bits. then_get (length_between 0 padding_limit z.0) (λ n. asked a.from n bits) in
      subst (λ g. IsGot (PadsWell which s) (then_get (then_get g (λ from. Known (Some from))) (λ from. surrounded which from (v ∷ vs) s))) (sym a.known)
      (subst (λ x. IsGot (PadsWell which s) (surrounded which (Some a.from) (x ∷ vs) s)) (sym z.1)
      (set_well which (padding_bits s.store.variables (Some a.from) vs z.0)
      (then_good (λ _. Unit {0}) (λ _. Unit {0}) (source_bits s.store.variables a.from vs) measured (a.bits vs fill.1)
      (λ bits _. long_enough z.0 (λ n. asked a.from n bits) (λ n. asked_answers a.from n bits)))))
