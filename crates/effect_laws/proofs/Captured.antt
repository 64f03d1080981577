-- What a scan of whole arrays captures and compares
use Rattle.std.proofs.Common.{◌≡◌, ◌≢◌, ◌<◌, ◌≤◌, ◌⊎◌, inl, inr, ◌↔◌, ℕ, zero, suc, ◌+◌, ◌-◌, pos, not, Bool, true, false, ◌&&◌, ◌||◌, List, [], ◌∷◌, ◌++◌, length, take, drop, get_or, Some, None, refl, sym, ap, ◌∙◌, arith, slice_get}
use Rattle.std.specs.Bool.{beq}
use Rattle.std.specs.Prelude.{nat_le, int_le, slice_set}
use Rattle.std.proofs.lemmas.Bool.{le-leb, cases_lt}
use Rattle.std.proofs.lemmas.Int.{ints}
use Rattle.std.proofs.lemmas.List.{get_or_append_left, get_or-append_right, get_or-drop}
use Rattle.std.proofs.lemmas.Option.{slice_get-get_or, slice_get_past}
use Rattle.bit_list.proofs.Splices.{length_spliced}
use Rattle.stapl_lexer.specs.declared.terminal.Register.{Register}
use Rattle.stapl_syntax.specs.Trees.{ExprTree, whole, scalar, scan}
use Rattle.stapl_meaning.specs.declared.events.RunFault.TheVariants.{BadLength}
use Rattle.stapl_meaning.specs.declared.values.ValueKind.TheVariants as kinds
use Rattle.stapl_meaning.specs.declared.values.Value.TheVariants.{Int, Bit}
use Rattle.stapl_meaning.specs.declared.values.Held.{Held}
use Rattle.stapl_meaning.specs.declared.values.Held.TheVariants as held
use Rattle.stapl_meaning.specs.Values.{Known, then_get, passed, Lookup, whole_span, span_put}
use Rattle.stapl_meaning.specs.Operands.{an_integer}
use Rattle.stapl_meaning.specs.States.{State, Captures}
use Rattle.stapl_meaning.specs.Effects.{scalar_written}
use Rattle.stapl_meaning.specs.Scans.{settings_of, scan_limit, length_between, scan_of, ScanParts, Place, InScalar, Comparison, scan_found, scan_asked, scanned, agree, known_or, landed}
use Rattle.stapl_meaning.specs.ScanTrees.{scan_parts}
use Rattle.stapl_meaning.specs.Scopes.{Played, scope_at}
use Rattle.effect_laws.specs.Given.{StandsAt, HasInteger, Holds, number_at}
use Rattle.effect_laws.specs.Scans.{AreFirst}
use Rattle.effect_laws.specs.Captures.{IsFilled, Agree, HoldsCaptured, Scans}
use Rattle.effect_laws.proofs.Singles.{plain_known, next_known, one_row}
use Rattle.effect_laws.proofs.Frames.{other_item}
use Rattle.effect_laws.proofs.Stacks.{new_item}
use Rattle.effect_laws.proofs.Later.{first_bits}

-- ---- captured bits in an array

pub filled : (n : ℕ) (captured old : List Bool) → length captured ≡ n → n ≤ length old → IsFilled n captured old (span_put (whole_span (length old)) captured old)
filled n captured old long inside = record { size = size; new = new; others = others }
  where
    size : length (captured ++ drop (0 + length captured) old) ≡ length old
    size = length_spliced 0 captured old (omega (arith, long, inside))

    new : (k : ℕ) → k < n → slice_get (captured ++ drop (0 + length captured) old) k ≡ slice_get captured k
    new k less =
        slice_get-get_or (captured ++ drop (0 + length captured) old) k false (omega (arith, size, less, inside))
        ∙ ap Some (get_or_append_left captured (drop (0 + length captured) old) false k (omega (arith, long, less)))
        ∙ sym (slice_get-get_or captured k false (omega (arith, long, less)))

    others : (k : ℕ) → n ≤ k → slice_get (captured ++ drop (0 + length captured) old) k ≡ slice_get old k
    others k most = by (cases_lt k (length old))
      where
        by : (k < length old) ⊎ (length old ≤ k) → slice_get (captured ++ drop (0 + length captured) old) k ≡ slice_get old k
        by (inl less) =
            let same : 0 + length captured + (k - length captured) ≡ k = omega (arith, long, most) in
            slice_get-get_or (captured ++ drop (0 + length captured) old) k false (omega (arith, size, less))
            ∙ ap Some
            (get_or-append_right captured (drop (0 + length captured) old) (length captured) k false refl (omega (arith, long, most))
            ∙ get_or-drop (0 + length captured) old (k - length captured) false
            ∙ ap (λ j. get_or old j false) same)
            ∙ sym (slice_get-get_or old k false less)
        by (inr past) = slice_get_past (captured ++ drop (0 + length captured) old) k (omega (arith, size, past)) ∙ sym (slice_get_past old k past)

-- ---- bits that are compared

right_too : (a b : Bool) → (a && b) ≡ true → b ≡ true
right_too true b h = h
right_too false b h = absurd cc

first_same : (x y z : Bool) (rest : Bool) → ((not x || beq z y) && rest) ≡ true → Some x ≡ Some true → Some z ≡ Some y
first_same true true true rest h e = refl
first_same true false false rest h e = refl
first_same true true false rest h e = absurd cc
first_same true false true rest h e = absurd cc
first_same false y z rest h e = absurd cc

passes : (x y z : Bool) → (Some x ≡ Some true → Some z ≡ Some y) → (not x || beq z y) ≡ true
passes false y z f = refl
passes true true true f = refl
passes true false false f = refl
passes true true false f = let e = f refl in absurd cc
passes true false true f = let e = f refl in absurd cc

agree_then : (m e b : List Bool) → length e ≡ length m → length b ≡ length m → agree m e b ≡ true → (k : ℕ) → slice_get m k ≡ Some true → slice_get b k ≡ slice_get e k
agree_then [] e b p q h k g = absurd cc
agree_then (x ∷ m) [] b p q h k g = absurd (omega (arith, p))
agree_then (x ∷ m) (y ∷ e) [] p q h k g = absurd (omega (arith, q))
agree_then (x ∷ m) (y ∷ e) (z ∷ b) p q h zero g = first_same x y z (agree m e b) h g
agree_then (x ∷ m) (y ∷ e) (z ∷ b) p q h (suc k) g =
    agree_then m e b (omega (arith, p)) (omega (arith, q)) (right_too (not x || beq z y) (agree m e b) h) k g

then_agree : (m e b : List Bool) → length e ≡ length m → length b ≡ length m → ((k : ℕ) → slice_get m k ≡ Some true → slice_get b k ≡ slice_get e k) → agree m e b ≡ true
then_agree [] e b p q f = refl
then_agree (x ∷ m) [] b p q f = refl
then_agree (x ∷ m) (y ∷ e) [] p q f = refl
then_agree (x ∷ m) (y ∷ e) (z ∷ b) p q f =
    ap (λ c. c && agree m e b) (passes x y z (f 0))
    ∙ then_agree m e b (omega (arith, p)) (omega (arith, q)) (λ k. f (suc k))

pub agrees_so : (n : ℕ) (mask expected captured : List Bool) → n ≤ length mask → n ≤ length expected → length captured ≡ n →
    (agree (take n mask) (take n expected) captured ≡ true) ↔ Agree n mask expected captured
agrees_so n mask expected captured p q long = (to, from)
  where
    m : AreFirst n mask (take n mask)
    m = first_bits n mask p

    e : AreFirst n expected (take n expected)
    e = first_bits n expected q

    to : agree (take n mask) (take n expected) captured ≡ true → Agree n mask expected captured
    to h k less g =
        let c = m.count in
        let d = e.count in
        agree_then (take n mask) (take n expected) captured (d ∙ sym c) (long ∙ sym c) h k (m.each k less ∙ g) ∙ e.each k less

    from : Agree n mask expected captured → agree (take n mask) (take n expected) captured ≡ true
    from f =
        let c = m.count in
        let d = e.count in
        then_agree (take n mask) (take n expected) captured (d ∙ sym c) (long ∙ sym c) (λ k g. by k g (cases_lt k n))
      where
        by : (k : ℕ) → slice_get (take n mask) k ≡ Some true → (k < n) ⊎ (n ≤ k) → slice_get captured k ≡ slice_get (take n expected) k
        by k g (inl less) = f k less (sym (m.each k less) ∙ g) ∙ sym (e.each k less)
        by k g (inr most) =
            let c = m.count in
            let past : slice_get (take n mask) k ≡ None = slice_get_past (take n mask) k (omega (arith, c, most)) in absurd cc

-- ---- the scan

pub scan_length : (n : ℕ) → 1 ≤ n → n ≤ 4194304 → length_between 1 scan_limit (pos n) ≡ Known n
scan_length n least most =
    let low : true ≡ int_le (pos 1) (pos n) = omega (arith, ints, least) in
    let high : true ≡ int_le (pos n) (pos 4194304) = omega (arith, ints, most) in
    ap (λ c. passed (c && int_le (pos n) (pos 4194304)) BadLength n) (sym low) ∙ ap (λ c. passed c BadLength n) (sym high)

module _ (look : Lookup) (s : State) (register : Register) (source target expected mask result : List ℕ) (bits old wanted masked : List Bool) (n : ℕ)
    (is_bits : Holds s (look.variable source) (held.Bits bits)) (is_old : Holds s (look.variable target) (held.Bits old))
    (is_wanted : Holds s (look.variable expected) (held.Bits wanted)) (is_masked : Holds s (look.variable mask) (held.Bits masked)) where
  abbrev parts : ScanParts
  parts = scan_parts look register (whole source) (Some (whole target)) (Some (whole expected, (whole mask, scalar result)))

  abbrev place : Place
  place = record { array = look.variable target; span = whole_span (length old) }

  found_so : scan_found s.store.variables parts [] ≡
      Known (record { data_bits = bits; target = Some place; compare = Some (record { expected = wanted; mask = masked; cell = InScalar (look.variable result) }) })
  found_so = rw (is_bits, is_old, is_wanted, is_masked) refl

  abbrev compared : Comparison
  compared = record { expected = take n wanted; mask = take n masked; cell = InScalar (look.variable result) }

  pub scanned_known : 1 ≤ n → n ≤ 4194304 → n ≤ length bits → n ≤ length old → n ≤ length wanted → n ≤ length masked →
      scanned parts (Int (pos n) ∷ []) s ≡
      Known (Captures (scan_of register (settings_of register s) (take n bits)) (λ captured. landed (Some place) (Some compared) captured s))
  scanned_known least most a b c d =
      let la : nat_le n (length bits) ≡ true = le-leb n (length bits) a in
      let lb : nat_le n (length old) ≡ true = le-leb n (length old) b in
      let lc : nat_le n (length wanted) ≡ true = le-leb n (length wanted) c in
      let ld : nat_le n (length masked) ≡ true = le-leb n (length masked) d in
      ap (λ g. then_get g (λ found. then_get (length_between 1 scan_limit (pos n)) (scan_asked parts found s))) found_so
      ∙ ap (λ g. then_get g (scan_asked parts (record { data_bits = bits; target = Some place; compare = Some (record { expected = wanted; mask = masked; cell = InScalar (look.variable result) }) }) s))
      (scan_length n least most)
      ∙ rw (la, lb, lc, ld) refl

  module _ (was : Bool) (is_was : Holds s (look.variable result) (held.Bit was)) (captured : List Bool) where
    abbrev now : List Bool
    now = span_put (whole_span (length old)) captured old

    abbrev filled_variables : List Held
    filled_variables = slice_set s.store.variables (look.variable target) (held.Bits now)

    abbrev told : Bool
    told = agree (take n masked) (take n wanted) captured

    other_number : look.variable result ≢ look.variable target
    other_number e =
        let same : Some (held.Bit was) ≡ Some (held.Bits old) = sym is_was ∙ ap (slice_get s.store.variables) e ∙ is_old in absurd cc

    lands_so : (landed (Some place) (Some compared) captured s).store.variables ≡ slice_set filled_variables (look.variable result) (held.Bit told)
    lands_so =
        rw is_old
        (let there : slice_get filled_variables (look.variable result) ≡ Some (held.Bit was) =
        other_item s.store.variables (look.variable target) (look.variable result) (held.Bits now) other_number ∙ is_was in
        ap (λ o. known_or filled_variables (scalar_written filled_variables (look.variable result) o (Bit told))) there)

    pub captured_so : n ≤ length old → n ≤ length wanted → n ≤ length masked → length captured ≡ n →
        HoldsCaptured (record { array = look.variable target; result = look.variable result }) n masked wanted old captured
        (landed (Some place) (Some compared) captured s)
    captured_so b c d long = record {
      now = now;
      holds =
          ap (λ vs. slice_get vs (look.variable target)) lands_so
          ∙ other_item filled_variables (look.variable result) (look.variable target) (held.Bit told) (λ e. other_number (sym e))
          ∙ new_item s.store.variables (look.variable target) (held.Bits old) (held.Bits now) is_old;
      filled = filled n captured old long b;
      bit = told;
      result =
          ap (λ vs. slice_get vs (look.variable result)) lands_so
          ∙ new_item filled_variables (look.variable result) (held.Bit was) (held.Bit told)
          (other_item s.store.variables (look.variable target) (look.variable result) (held.Bits now) other_number ∙ is_was);
      agrees = agrees_so n masked wanted captured d c long;
    }

pub scans_bits : (program : Played) (i n : ℕ) (s : State) (register : Register) (count : ExprTree) (source target expected mask result : List ℕ)
    (bits old wanted masked : List Bool) (was : Bool) →
    StandsAt program i (scan register count (whole source) (Some (whole target)) (Some (whole expected, (whole mask, scalar result)))) →
    HasInteger (scope_at program i).look s count (pos n) → 1 ≤ n → n ≤ 4194304 → Holds s (number_at program i source) (held.Bits bits) → n ≤ length bits →
    Holds s (number_at program i target) (held.Bits old) → n ≤ length old → Holds s (number_at program i expected) (held.Bits wanted) → n ≤ length wanted →
    Holds s (number_at program i mask) (held.Bits masked) → n ≤ length masked → Holds s (number_at program i result) (held.Bit was) →
    Scans program i n s bits (HoldsCaptured (record { array = number_at program i target; result = number_at program i result }) n masked wanted old)
scans_bits program i n s register count source target expected mask result bits old wanted masked was stands is least most is_bits a is_old b is_wanted c is_masked d is_was =
    let look : Lookup = (scope_at program i).look in
    let p : Place = record { array = look.variable target; span = whole_span (length old) } in
    let q : Comparison = record { expected = take n wanted; mask = take n masked; cell = InScalar (look.variable result) } in
    record {
      job = scan_of register (settings_of register s) (take n bits);
      lands = λ captured. landed (Some p) (Some q) captured s;
      is =
          one_row program i s (scan register count (whole source) (Some (whole target)) (Some (whole expected, (whole mask, scalar result)))) (Int (pos n) ∷ [])
          (Captures (scan_of register (settings_of register s) (take n bits)) (λ captured. landed (Some p) (Some q) captured s)) stands refl
          (next_known look s.store.variables None (an_integer count) [] (Int (pos n)) [] (plain_known look s.store.variables None kinds.Int count (Int (pos n)) is) refl)
          (scanned_known look s register source target expected mask result bits old wanted masked n is_bits is_old is_wanted is_masked least most a b c d);
      shifted = first_bits n bits a;
      after = λ captured long.
          captured_so look s register source target expected mask result bits old wanted masked n is_bits is_old is_wanted is_masked was is_was captured b c d long;
    }
