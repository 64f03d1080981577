-- What a scan of whole arrays captures and compares if its result goes to an element of its target
use Rattle.std.proofs.Common.{◌≡◌, ◌<◌, ◌≤◌, ℕ, pos, Bool, true, List, [], ◌∷◌, length, take, Some, None, refl, sym, ap, ◌∙◌, arith, slice_get}
use Rattle.std.specs.Prelude.{nat_le, nat_lt, slice_set}
use Rattle.std.proofs.lemmas.Bool.{le-leb, lt-ltb}
use Rattle.stapl_lexer.specs.declared.terminal.Register.{Register}
use Rattle.stapl_syntax.specs.Trees.{ExprTree, whole, element, scan}
use Rattle.stapl_meaning.specs.declared.events.RunFault.TheVariants.{IndexOutOfRange}
use Rattle.stapl_meaning.specs.declared.values.ValueKind.TheVariants as kinds
use Rattle.stapl_meaning.specs.declared.values.Value.TheVariants.{Int, Bit}
use Rattle.stapl_meaning.specs.declared.values.Held.{Held}
use Rattle.stapl_meaning.specs.declared.values.Held.TheVariants as held
use Rattle.stapl_meaning.specs.Values.{index_held, Known, then_get, passed, Lookup, whole_span, span_put}
use Rattle.stapl_meaning.specs.Operands.{an_integer, an_index, Index, tested}
use Rattle.stapl_meaning.specs.States.{State, Captures}
use Rattle.stapl_meaning.specs.Effects.{replaced, element_written}
use Rattle.stapl_meaning.specs.Scans.{Found, settings_of, scan_limit, length_between, scan_of, ScanParts, Place, InElement, Comparison, scan_found, scan_asked, scanned, agree, known_or, landed}
use Rattle.stapl_meaning.specs.ScanTrees.{scan_parts}
use Rattle.stapl_meaning.specs.Scopes.{Played, scope_at}
use Rattle.effect_laws.specs.Given.{StandsAt, HasInteger, Holds, number_at}
use Rattle.effect_laws.specs.Captures.{HoldsResultInside, Scans}
use Rattle.effect_laws.proofs.Singles.{plain_known, next_known, one_row}
use Rattle.effect_laws.proofs.Stacks.{new_item}
use Rattle.effect_laws.proofs.Later.{first_bits}
use Rattle.effect_laws.proofs.Captured.{filled, agrees_so, scan_length}
use Rattle.effect_laws.proofs.Assignments.{one_new}

module _ (look : Lookup) (s : State) (register : Register) (index : ExprTree) (source target expected mask result : List ℕ)
    (bits old wanted masked : List Bool) (n k : ℕ) (is_bits : Holds s (look.variable source) (held.Bits bits))
    (is_old : Holds s (look.variable target) (held.Bits old)) (is_wanted : Holds s (look.variable expected) (held.Bits wanted))
    (is_masked : Holds s (look.variable mask) (held.Bits masked)) (same : look.variable result ≡ look.variable target) (inside : k < length old) where
  abbrev parts : ScanParts
  parts = scan_parts look register (whole source) (Some (whole target)) (Some (whole expected, (whole mask, element result index)))

  abbrev place : Place
  place = record { array = look.variable target; span = whole_span (length old) }

  abbrev whole_found : Found
  whole_found = record { data_bits = bits; target = Some place; compare = Some (record { expected = wanted; mask = masked; cell = InElement (look.variable result) (pos k) }) }

  is_result : Holds s (look.variable result) (held.Bits old)
  is_result = ap (slice_get s.store.variables) same ∙ is_old

  found_so : scan_found s.store.variables parts (Int (pos k) ∷ []) ≡ Known whole_found
  found_so =
      let low : nat_lt k (length old) ≡ true = lt-ltb k (length old) inside in
      rw (is_bits, is_old, is_wanted, is_masked, is_result, low) refl

  abbrev compared : Comparison
  compared = record { expected = take n wanted; mask = take n masked; cell = InElement (look.variable result) (pos k) }

  pub scanned_known : 1 ≤ n → n ≤ 4194304 → n ≤ length bits → n ≤ length old → n ≤ length wanted → n ≤ length masked →
      scanned parts (Int (pos n) ∷ Int (pos k) ∷ []) s ≡
      Known (Captures (scan_of register (settings_of register s) (take n bits)) (λ captured. landed (Some place) (Some compared) captured s))
  scanned_known least most a b c d =
      let la : nat_le n (length bits) ≡ true = le-leb n (length bits) a in
      let lb : nat_le n (length old) ≡ true = le-leb n (length old) b in
      let lc : nat_le n (length wanted) ≡ true = le-leb n (length wanted) c in
      let ld : nat_le n (length masked) ≡ true = le-leb n (length masked) d in
      ap (λ g. then_get g (λ found. then_get (length_between 1 scan_limit (pos n)) (scan_asked parts found s))) found_so
      ∙ ap (λ g. then_get g (scan_asked parts whole_found s)) (scan_length n least most)
      ∙ rw (la, lb, lc, ld) refl

  module _ (captured : List Bool) (b : n ≤ length old) (long : length captured ≡ n) where
    abbrev now : List Bool
    now = span_put (whole_span (length old)) captured old

    abbrev filled_variables : List Held
    filled_variables = slice_set s.store.variables (look.variable target) (held.Bits now)

    abbrev told : Bool
    told = agree (take n masked) (take n wanted) captured

    within : k < length now
    within = let size = (filled n captured old long b).size in omega (arith, size, inside)

    there : slice_get filled_variables (look.variable result) ≡ Some (held.Bits now)
    there = ap (slice_get filled_variables) same ∙ new_item s.store.variables (look.variable target) (held.Bits old) (held.Bits now) is_old

    lands_so : (landed (Some place) (Some compared) captured s).store.variables ≡ slice_set filled_variables (look.variable result) (held.Bits (slice_set now k told))
    lands_so =
        rw is_old
        (ap (λ o. known_or filled_variables (element_written filled_variables (look.variable result) o (pos k) (Bit told))) there
        ∙ ap (λ c. known_or filled_variables (replaced filled_variables (look.variable result) (passed c IndexOutOfRange (held.Bits (slice_set now k told)))))
        (lt-ltb k (length now) within))

    pub captured_so : n ≤ length wanted → n ≤ length masked →
        HoldsResultInside (look.variable target) n k masked wanted old captured (landed (Some place) (Some compared) captured s)
    captured_so c d = record {
      filled = now;
      is_filled = filled n captured old long b;
      bit = told;
      agrees = agrees_so n masked wanted captured d c long;
      now = slice_set now k told;
      one_new = one_new k told now within;
      holds =
          ap (λ vs. slice_get vs (look.variable target)) lands_so
          ∙ ap (slice_get (slice_set filled_variables (look.variable result) (held.Bits (slice_set now k told)))) (sym same)
          ∙ new_item filled_variables (look.variable result) (held.Bits now) (held.Bits (slice_set now k told)) there;
    }

pub scans_inside : (program : Played) (i n k : ℕ) (s : State) (register : Register) (count index : ExprTree) (source target expected mask result : List ℕ)
    (bits old wanted masked : List Bool) →
    StandsAt program i (scan register count (whole source) (Some (whole target)) (Some (whole expected, (whole mask, element result index)))) →
    HasInteger (scope_at program i).look s count (pos n) → 1 ≤ n → n ≤ 4194304 → Holds s (number_at program i source) (held.Bits bits) → n ≤ length bits →
    Holds s (number_at program i target) (held.Bits old) → n ≤ length old → Holds s (number_at program i expected) (held.Bits wanted) → n ≤ length wanted →
    Holds s (number_at program i mask) (held.Bits masked) → n ≤ length masked → number_at program i result ≡ number_at program i target →
    HasInteger (scope_at program i).look s index (pos k) → k < length old →
    Scans program i n s bits (HoldsResultInside (number_at program i target) n k masked wanted old)
scans_inside program i n k s register count index source target expected mask result bits old wanted masked stands is least most is_bits a is_old b is_wanted c is_masked d same is_index inside =
    let look : Lookup = (scope_at program i).look in
    let variables : List Held = s.store.variables in
    let low : nat_lt k (length old) ≡ true = lt-ltb k (length old) inside in
    let p : Place = record { array = look.variable target; span = whole_span (length old) } in
    let q : Comparison = record { expected = take n wanted; mask = take n masked; cell = InElement (look.variable result) (pos k) } in
    record {
      job = scan_of register (settings_of register s) (take n bits);
      lands = λ captured. landed (Some p) (Some q) captured s;
      is =
          one_row program i s (scan register count (whole source) (Some (whole target)) (Some (whole expected, (whole mask, element result index)))) (Int (pos n) ∷ Int (pos k) ∷ [])
          (Captures (scan_of register (settings_of register s) (take n bits)) (λ captured. landed (Some p) (Some q) captured s)) stands refl
          (next_known look variables None (an_integer count) (an_index (look.variable result) index ∷ []) (Int (pos n)) (Int (pos k) ∷ [])
          (plain_known look variables None kinds.Int count (Int (pos n)) is)
          (next_known look variables (Some (Int (pos n))) (an_index (look.variable result) index) [] (Int (pos k)) []
          (ap (λ g. then_get g (tested look variables (Index (look.variable result)) (Some (Int (pos n))))) is_index
          ∙ ap (λ m. index_held (slice_get variables m) (Int (pos k))) same
          ∙ ap (λ o. index_held o (Int (pos k))) is_old
          ∙ ap (λ t. passed t IndexOutOfRange (Int (pos k))) low) refl))
          (scanned_known look s register index source target expected mask result bits old wanted masked n k is_bits is_old is_wanted is_masked same inside least most a b c d);
      shifted = first_bits n bits a;
      after = λ captured long.
          captured_so look s register index source target expected mask result bits old wanted masked n k is_bits is_old is_wanted is_masked same inside captured b long c d;
    }
