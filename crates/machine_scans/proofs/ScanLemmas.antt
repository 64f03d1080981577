-- On the parts of scans.
use Rattle.std.proofs.Common.{◌≡◌, ℕ, zero, suc, Bool, true, false, List, [], ◌∷◌, length, Option, Some, None, arith, refl, sym, ap, ◌∙◌}
use Rattle.std.specs.Prelude.{not, ◌&&◌, ◌||◌, IsTrue, ◌↔◌, is_some, slice_get, if◌then◌else◌, Result, Ok, Err, IfOk}
use Rattle.std.specs.Option.{option_map}
use Rattle.std.specs.Bool.{beq}
use Rattle.std.proofs.lemmas.Bool.{and_parts, true≢false}
use Rattle.bit_list.specs.Ranges.{AgreeUnderMask}
use Rattle.stapl_meaning.specs.Values.{Got, Known, Stuck, then_get, asked}
use Rattle.stapl_meaning.specs.Values as values
use Rattle.stapl_meaning.specs.Scans.{CompareParts, ScanParts, agree}
use Rattle.stapl_code.specs.declared.instr.Source.{Source}
use Rattle.stapl_code.specs.declared.instr.Source.TheVariants as sources
use Rattle.stapl_code.specs.declared.instr.Compare.{Compare}
use Rattle.stapl_code.specs.declared.instr.Scan.{Scan}
use Rattle.stapl_code.specs.Machine.{Constants, known_literal, known_source, known_given, known_compare, known_scan, target_of, cell_part}
use Rattle.machine_memory.specs.declared.effects.BitsAt.{BitsAt}
use Rattle.machine_memory.specs.declared.effects.BitsAt.TheVariants as places
use Rattle.machine_memory.specs.declared.operate.Stop.{Stop}
use Rattle.machine_memory.specs.Exports.{literal_in}
use Rattle.machine_memory.specs.Jobs.{is_known, is_given_known, is_compare_known, is_scan_known, resolved, compare_resolved, scan_resolved, asked_at, IsOf}

-- bits agree under a mask exactly if each one under a mask bit 1 is the expected one
head_alike : (m b e : Bool) → (m ≡ true → b ≡ e) → (not m || beq b e) ≡ true
head_alike true true true h = refl
head_alike true false false h = refl
head_alike true true false h = sym (h refl)
head_alike true false true h = h refl
head_alike false b e h = refl

alike_head : (m b e : Bool) → (not m || beq b e) ≡ true → m ≡ true → b ≡ e
alike_head true true true h k = refl
alike_head true false false h k = refl
alike_head true true false h k = absurd cc
alike_head true false true h k = absurd cc
alike_head false b e h k = absurd cc

agree_is : (mask expected bits : List Bool) → length expected ≡ length bits → length mask ≡ length bits →
    (agree mask expected bits ≡ true) ↔ AgreeUnderMask mask (length bits) bits expected
agree_is mask expected bits same_expected same_mask = (to mask expected bits same_expected same_mask, from mask expected bits same_expected same_mask)
  where
    to : (mask expected bits : List Bool) → length expected ≡ length bits → length mask ≡ length bits →
        agree mask expected bits ≡ true → AgreeUnderMask mask (length bits) bits expected
    to [] [] [] p q e = λ i less. absurd (omega (arith, less))
    to (m ∷ mask) (x ∷ expected) (b ∷ bits) p q e =
        let both = and_parts (not m || beq b x) (agree mask expected bits) e in
        let more = to mask expected bits (omega (arith, p)) (omega (arith, q)) both.1 in
        by more both.0
      where
        by : AgreeUnderMask mask (length bits) bits expected → (not m || beq b x) ≡ true →
            AgreeUnderMask (m ∷ mask) (suc (length bits)) (b ∷ bits) (x ∷ expected)
        by more head zero less masked = alike_head m b x head masked
        by more head (suc i) less masked = more i (omega (arith, less)) masked
    to [] (x ∷ expected) bits p q e = absurd (omega (arith, p, q))
    to (m ∷ mask) [] bits p q e = absurd (omega (arith, p, q))
    to [] [] (b ∷ bits) p q e = absurd (omega (arith, p))
    to (m ∷ mask) (x ∷ expected) [] p q e = absurd (omega (arith, p))

    from : (mask expected bits : List Bool) → length expected ≡ length bits → length mask ≡ length bits →
        AgreeUnderMask mask (length bits) bits expected → agree mask expected bits ≡ true
    from [] [] [] p q h = refl
    from (m ∷ mask) (x ∷ expected) (b ∷ bits) p q h =
        let more = from mask expected bits (omega (arith, p)) (omega (arith, q)) (λ i less masked. h (suc i) (omega (arith, less)) masked) in
        let head : (not m || beq b x) ≡ true = head_alike m b x (λ masked. h zero (omega arith) masked) in
        ap (λ (c : Bool). c && agree mask expected bits) head ∙ more
    from [] (x ∷ expected) bits p q h = absurd (omega (arith, p, q))
    from (m ∷ mask) [] bits p q h = absurd (omega (arith, p, q))
    from [] [] (b ∷ bits) p q h = absurd (omega (arith, p))
    from (m ∷ mask) (x ∷ expected) [] p q h = absurd (omega (arith, p))

pub agrees : (answer : Bool) (mask expected bits : List Bool) → length expected ≡ length bits → length mask ≡ length bits →
    IsTrue answer ↔ AgreeUnderMask mask (length bits) bits expected → answer ≡ agree mask expected bits
agrees true mask expected bits p q is = sym ((agree_is mask expected bits p q).1 (is.0 refl))
agrees false mask expected bits p q is = by (agree mask expected bits) refl
  where
    by : (b : Bool) → agree mask expected bits ≡ b → false ≡ b
    by false e = refl
    by true e = absurd (true≢false (sym (is.1 ((agree_is mask expected bits p q).0 e))))

-- bits that lie somewhere are asked for as those of their source
asks_alike : (constants : Constants) (source : Source) (at : BitsAt) → IsOf source at → (n : ℕ) (list : List Bool) →
    asked (resolved constants source) n list ≡ asked_at at n list
asks_alike constants (sources.Literal k) (places.Literal j) is n list = refl
asks_alike constants (sources.Literal k) (places.Part part) is n list = absurd is
asks_alike constants (sources.Literal k) (places.Integer z) is n list = absurd is
asks_alike constants (sources.Whole k) (places.Literal j) is n list = absurd is
asks_alike constants (sources.Whole k) (places.Part part) is n list = refl
asks_alike constants (sources.Whole k) (places.Integer z) is n list = absurd is
asks_alike constants (sources.Range k) (places.Literal j) is n list = absurd is
asks_alike constants (sources.Range k) (places.Part part) is n list = refl
asks_alike constants (sources.Range k) (places.Integer z) is n list = absurd is
asks_alike constants sources.FromInt (places.Literal j) is n list = absurd is
asks_alike constants sources.FromInt (places.Part part) is n list = absurd is
asks_alike constants sources.FromInt (places.Integer z) is n list = refl

pub ask_alike : (constants : Constants) (source : Source) (r : Result BitsAt Stop) → IfOk r (IsOf source) →
    IfOk r (λ at. (n : ℕ) (list : List Bool) → asked (resolved constants source) n list ≡ asked_at at n list)
ask_alike constants source (Ok at) is = λ n list. asks_alike constants source at is n list
ask_alike constants source (Err stop) is = tt

-- ---- scans whose literals are not there

known_as : (constants : Constants) (source : Source) (b : Bool) → is_known constants.literals source ≡ b →
    known_source constants source ≡ (if b then Known (resolved constants source) else Stuck)
known_as constants (sources.Literal n) b e = by (slice_get constants.literals n) b e
  where
    by : (o : Option (List Bool)) (b : Bool) → is_some o ≡ b → known_literal o ≡ (if b then Known (values.These (literal_in o)) else Stuck)
    by None false e = refl
    by None true e = absurd (true≢false (sym e))
    by (Some list) true e = refl
    by (Some list) false e = absurd (true≢false e)
known_as constants (sources.Whole n) true e = refl
known_as constants (sources.Whole n) false e = absurd (true≢false e)
known_as constants (sources.Range n) true e = refl
known_as constants (sources.Range n) false e = absurd (true≢false e)
known_as constants sources.FromInt true e = refl
known_as constants sources.FromInt false e = absurd (true≢false e)

compare_as : (constants : Constants) (compare : Option Compare) (b : Bool) → is_compare_known constants.literals compare ≡ b →
    known_compare constants compare ≡ (if b then Known (option_map (compare_resolved constants) compare) else Stuck)
compare_as constants None true e = refl
compare_as constants None false e = absurd (true≢false e)
compare_as constants (Some c) b e = by (is_known constants.literals c.expected) refl (is_known constants.literals c.mask) refl b e
  where
    make : values.Source → values.Source → Got (Option CompareParts)
    make expected mask = Known (Some (record { expected = expected; mask = mask; cell = cell_part c.cell }))

    by : (x : Bool) → is_known constants.literals c.expected ≡ x → (y : Bool) → is_known constants.literals c.mask ≡ y → (b : Bool) →
        (is_known constants.literals c.expected && is_known constants.literals c.mask) ≡ b →
        then_get (known_source constants c.expected) (λ expected. then_get (known_source constants c.mask) (λ mask. make expected mask))
        ≡ (if b then Known (Some (compare_resolved constants c)) else Stuck)
    by true p true q b e =
        let both : true ≡ b = sym (ap (λ (x : Bool). x && is_known constants.literals c.mask) p ∙ q) ∙ e in
        ap (λ g. then_get g (λ expected. then_get (known_source constants c.mask) (λ mask. make expected mask))) (known_as constants c.expected true p)
        ∙ ap (λ g. then_get g (λ mask. make (resolved constants c.expected) mask)) (known_as constants c.mask true q)
        ∙ ap (λ (x : Bool). if x then Known (Some (compare_resolved constants c)) else Stuck) both
    by true p false q b e =
        let both : false ≡ b = sym (ap (λ (x : Bool). x && is_known constants.literals c.mask) p ∙ q) ∙ e in
        ap (λ g. then_get g (λ expected. then_get (known_source constants c.mask) (λ mask. make expected mask))) (known_as constants c.expected true p)
        ∙ ap (λ g. then_get g (λ mask. make (resolved constants c.expected) mask)) (known_as constants c.mask false q)
        ∙ ap (λ (x : Bool). if x then Known (Some (compare_resolved constants c)) else Stuck) both
    by false p y q b e =
        let both : false ≡ b = sym (ap (λ (x : Bool). x && is_known constants.literals c.mask) p) ∙ e in
        ap (λ g. then_get g (λ expected. then_get (known_source constants c.mask) (λ mask. make expected mask))) (known_as constants c.expected false p)
        ∙ ap (λ (x : Bool). if x then Known (Some (compare_resolved constants c)) else Stuck) both

scan_as : (constants : Constants) (scan : Scan) (x y b : Bool) → is_known constants.literals scan.source ≡ x →
    is_compare_known constants.literals scan.compare ≡ y → (x && y) ≡ b →
    known_scan constants scan ≡ (if b then Known (scan_resolved constants scan) else Stuck)
scan_as constants scan x y b p q e =
    ap (λ g. then_get g (λ source. then_get (known_compare constants scan.compare) (λ compare. Known (made source compare)))) (known_as constants scan.source x p)
    ∙ by x y b e (compare_as constants scan.compare y q)
  where
    made : values.Source → Option CompareParts → ScanParts
    made source compare = record { register = scan.register; source = source; target = option_map (target_of constants.profile) scan.target; compare = compare }

    by : (x y b : Bool) → (x && y) ≡ b → known_compare constants scan.compare
        ≡ (if y then Known (option_map (compare_resolved constants) scan.compare) else Stuck) →
        then_get (if x then Known (resolved constants scan.source) else Stuck)
        (λ source. then_get (known_compare constants scan.compare) (λ compare. Known (made source compare)))
        ≡ (if b then Known (scan_resolved constants scan) else Stuck)
    by true true true e r = ap (λ g. then_get g (λ compare. Known (made (resolved constants scan.source) compare))) r
    by true true false e r = absurd (true≢false e)
    by true false false e r = ap (λ g. then_get g (λ compare. Known (made (resolved constants scan.source) compare))) r
    by true false true e r = absurd (true≢false (sym e))
    by false y false e r = refl
    by false y true e r = absurd (true≢false (sym e))

pub scan_known : (constants : Constants) (scan : Scan) → is_scan_known constants.literals scan ≡ true →
    known_scan constants scan ≡ Known (scan_resolved constants scan)
scan_known constants scan e = scan_as constants scan (is_known constants.literals scan.source) (is_compare_known constants.literals scan.compare) true refl refl e

pub scan_unknown : (constants : Constants) (scan : Scan) → is_scan_known constants.literals scan ≡ false → known_scan constants scan ≡ Stuck
scan_unknown constants scan e = scan_as constants scan (is_known constants.literals scan.source) (is_compare_known constants.literals scan.compare) false refl refl e

given_as : (constants : Constants) (source : Option Source) (b : Bool) → is_given_known constants.literals source ≡ b →
    known_given constants source ≡ (if b then Known (option_map (resolved constants) source) else Stuck)
given_as constants None true e = refl
given_as constants None false e = absurd (true≢false e)
given_as constants (Some source) b e = ap (λ g. then_get g (λ from. Known (Some from))) (known_as constants source b e) ∙ by b
  where
    by : (b : Bool) → then_get (if b then Known (resolved constants source) else Stuck) (λ from. Known (Some from))
        ≡ (if b then Known (Some (resolved constants source)) else Stuck)
    by true = refl
    by false = refl

pub given_known : (constants : Constants) (source : Option Source) → is_given_known constants.literals source ≡ true →
    known_given constants source ≡ Known (option_map (resolved constants) source)
given_known constants source e = given_as constants source true e

pub given_unknown : (constants : Constants) (source : Option Source) → is_given_known constants.literals source ≡ false → known_given constants source ≡ Stuck
given_unknown constants source e = given_as constants source false e
