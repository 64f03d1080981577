-- Bits that are written to a range are the elements at its first places, and each other element is as it was
use Rattle.std.proofs.Common.{◌≡◌, ◌≢◌, ℕ, ◌+◌, ◌-◌, ◌<◌, ◌≤◌, ◌⊎◌, inl, inr, Bool, false, List, ◌++◌, reverse, length, take, drop, get_or, Some}
use Rattle.std.proofs.Common.{slice_get, pos, refl, sym, ap, ◌∙◌, subst, arith}
use Rattle.std.proofs.lemmas.Bool.{cases_lt}
use Rattle.std.proofs.lemmas.List.{get_or_append_left, get_or-append_right, get_or-take, get_or-drop, get_or-reverse, length-append, length-take-le, length-reverse}
use Rattle.std.proofs.lemmas.Option.{slice_get-get_or, slice_get_past, get_or_from_slice_get}
use Rattle.bit_list.specs.Ranges.{spliced}
use Rattle.bit_list.proofs.Splices.{length_spliced}
use Rattle.stapl_meaning.specs.declared.profiles.Profile.TheVariants.{Two}
use Rattle.stapl_meaning.specs.Values.{Known, Span, span_between, span_put}
use Rattle.meaning_laws.specs.Places.{ArePlaces, IsWrittenAt}
use Rattle.meaning_laws.proofs.PlaceLemmas.{GoUp, GoDown, go_up, go_down}
use Rattle.meaning_laws.proofs.RangePartLemmas.{part_up, part_down, up_known, down_known}

-- a list with a part in place of as many items from an index on
module _ (at : ℕ) (part old : List Bool) (inside : at + length part ≤ length old) where
  front_length : length (take at old) ≡ at
  front_length = length-take-le at old (omega (arith, inside))

  both_length : length (take at old ++ part) ≡ at + length part
  both_length = length-append (take at old) part ∙ omega (arith, front_length)

  item_put : (i : ℕ) (d : Bool) → i < length part → get_or (spliced at part old) (at + i) d ≡ get_or part i d
  item_put i d less =
      let same : at + i - at ≡ i = omega arith in
      get_or_append_left (take at old ++ part) (drop (at + length part) old) d (at + i) (omega (arith, both_length, less))
      ∙ get_or-append_right (take at old) part at (at + i) d front_length (omega arith) ∙ ap (λ k. get_or part k d) same

  item_before : (j : ℕ) (d : Bool) → j < at → get_or (spliced at part old) j d ≡ get_or old j d
  item_before j d less =
      get_or_append_left (take at old ++ part) (drop (at + length part) old) d j (omega (arith, both_length, less))
      ∙ get_or_append_left (take at old) part d j (omega (arith, front_length, less)) ∙ get_or-take at old j d less

  item_after : (j : ℕ) (d : Bool) → at + length part ≤ j → get_or (spliced at part old) j d ≡ get_or old j d
  item_after j d most =
      let same : at + length part + (j - (at + length part)) ≡ j = omega (arith, most) in
      get_or-append_right (take at old ++ part) (drop (at + length part) old) (at + length part) j d both_length most
      ∙ get_or-drop (at + length part) old (j - (at + length part)) d ∙ ap (λ k. get_or old k d) same

  -- the same for an index that may be past the end
  kept : (j : ℕ) → ((d : Bool) → get_or (spliced at part old) j d ≡ get_or old j d) → slice_get (spliced at part old) j ≡ slice_get old j
  kept j same = by (cases_lt j (length old))
    where
      size : length (spliced at part old) ≡ length old
      size = length_spliced at part old inside

      by : (j < length old) ⊎ (length old ≤ j) → slice_get (spliced at part old) j ≡ slice_get old j
      by (inl less) =
          slice_get-get_or (spliced at part old) j false (omega (arith, size, less)) ∙ ap Some (same false) ∙ sym (slice_get-get_or old j false less)
      by (inr most) = slice_get_past (spliced at part old) j (omega (arith, size, most)) ∙ sym (slice_get_past old j most)

-- the first places are the indexes of a part of an array, and the item of the part at each of them is the new bit of the same number
record Meets (places : List ℕ) (new part : List Bool) (at : ℕ) : Type 0 where
  to : ℕ → ℕ
  to_part : (k : ℕ) → k < length new → to k < length part
  to_place : (k : ℕ) → k < length new → get_or places k 0 ≡ at + to k
  to_bit : (k : ℕ) → k < length new → get_or part (to k) false ≡ get_or new k false
  from : ℕ → ℕ
  from_part : (i : ℕ) → i < length part → from i < length new
  from_place : (i : ℕ) → i < length part → get_or places (from i) 0 ≡ at + i

spliced_at : (places : List ℕ) (new old part : List Bool) (at : ℕ) → at + length part ≤ length old → length new ≤ length places → Meets places new part at →
    IsWrittenAt places new old (spliced at part old)
spliced_at places new old part at inside few m = record { size = size; here = here; elsewhere = elsewhere }
  where
    size : length (spliced at part old) ≡ length old
    size = length_spliced at part old inside

    here : (k place : ℕ) → k < length new → slice_get places k ≡ Some place → slice_get (spliced at part old) place ≡ slice_get new k
    here k place less e =
        let same : place ≡ at + m.to k = sym (get_or_from_slice_get places k place 0 e) ∙ m.to_place k less in
        let in_part : m.to k < length part = m.to_part k less in
        ap (slice_get (spliced at part old)) same
        ∙ slice_get-get_or (spliced at part old) (at + m.to k) false (omega (arith, size, in_part, inside))
        ∙ ap Some (item_put at part old inside (m.to k) false in_part ∙ m.to_bit k less)
        ∙ sym (slice_get-get_or new k false less)

    elsewhere : (j : ℕ) → ((k : ℕ) → k < length new → slice_get places k ≢ Some j) → slice_get (spliced at part old) j ≡ slice_get old j
    elsewhere j none = by (cases_lt j at) (cases_lt j (at + length part))
      where
        by : (j < at) ⊎ (at ≤ j) → (j < at + length part) ⊎ (at + length part ≤ j) → slice_get (spliced at part old) j ≡ slice_get old j
        by (inl before) side = kept at part old inside j (λ d. item_before at part old inside j d before)
        by (inr from) (inr after) = kept at part old inside j (λ d. item_after at part old inside j d after)
        by (inr from) (inl within) =
            let i : ℕ = j - at in
            let in_part : i < length part = omega (arith, from, within) in
            let in_new : m.from i < length new = m.from_part i in_part in
            let same : at + i ≡ j = omega (arith, from) in
            absurd (none (m.from i) in_new
            (slice_get-get_or places (m.from i) 0 (omega (arith, in_new, few)) ∙ ap Some (m.from_place i in_part ∙ same)))

module _ (old new : List Bool) (first second : ℕ) (places : List ℕ) (few : length new ≤ length places) where
  up_written : first < length old → second ≤ first → GoUp first second places → IsWrittenAt places new old (span_put (part_up first second) new old)
  up_written inside below up =
      spliced_at places new old new second (omega (arith, up.count, few, inside)) few
      (record {
        to = λ k. k;
        to_part = λ k less. less;
        to_place = λ k less. up.item k 0 (omega (arith, few, less));
        to_bit = λ k less. refl;
        from = λ i. i;
        from_part = λ i less. less;
        from_place = λ i less. up.item i 0 (omega (arith, few, less));
      })

  down_written : second < length old → first < second → GoDown first second places → IsWrittenAt places new old (span_put (part_down first second) new old)
  down_written inside above down =
      let n : ℕ = length new in
      let at : ℕ = first + (second + 1 - first) - n in
      let long : length (reverse new) ≡ n = length-reverse new in
      spliced_at places new old (reverse new) at (omega (arith, long, down.count, few, inside, above)) few
      (record {
        to = λ k. n - 1 - k;
        to_part = λ k less. omega (arith, long, less);
        to_place = λ k less. omega (arith, down.item k 0 (omega (arith, few, less)), down.count, few, above, less);
        to_bit = λ k less.
            let same : n - 1 - (n - 1 - k) ≡ k = omega (arith, less) in
            get_or-reverse new (n - 1 - k) false (omega (arith, less)) ∙ ap (λ i. get_or new i false) same;
        from = λ i. n - 1 - i;
        from_part = λ i less. omega (arith, long, less);
        from_place = λ i less. omega (arith, down.item (n - 1 - i) 0 (omega (arith, few, long, less)), down.count, few, above, long, less);
      })

  pub written_places : (span : Span) → first < length old → second < length old → ArePlaces first second places →
      span_between Two (length old) (pos first) (pos second) ≡ Known span → IsWrittenAt places new old (span_put span new old)
  written_places span first_in second_in p e = by (cases_lt first second)
    where
      by : (first < second) ⊎ (second ≤ first) → IsWrittenAt places new old (span_put span new old)
      by (inr below) =
          let known : Known (part_up first second) ≡ Known span = sym (up_known Two (length old) first second first_in second_in below) ∙ e in
          let same : part_up first second ≡ span = cc in
          subst (λ s. IsWrittenAt places new old (span_put s new old)) same (up_written first_in below (go_up p below))
      by (inl above) =
          let known : Known (part_down first second) ≡ Known span = sym (down_known Two (length old) first second first_in second_in above) ∙ e in
          let same : part_down first second ≡ span = cc in
          subst (λ s. IsWrittenAt places new old (span_put s new old)) same (down_written second_in above (go_down p (omega (arith, above))))
