-- The bits of a range are the elements at its places
use Rattle.std.proofs.Common.{◌≡◌, ℕ, ◌+◌, ◌-◌, ◌<◌, ◌≤◌, ◌⊎◌, inl, inr, Bool, false, List, map, reverse, length, drop, get_or, Some, pos, sym, ap, ◌∙◌, arith}
use Rattle.std.proofs.lemmas.Bool.{cases_lt}
use Rattle.std.proofs.lemmas.List.{same_lists, get_or-take, get_or-drop, get_or_default, get_or-map, get_or-reverse, length-map, length-reverse}
use Rattle.bit_list.specs.Ranges.{taken}
use Rattle.bit_list.proofs.Splices.{length_taken}
use Rattle.stapl_meaning.specs.declared.profiles.Profile.TheVariants.{Two}
use Rattle.stapl_meaning.specs.declared.values.Value.TheVariants.{Int}
use Rattle.stapl_meaning.specs.declared.values.Held.TheVariants.{Bits}
use Rattle.stapl_meaning.specs.Values.{Known, then_get, span_bits, bits_between}
use Rattle.meaning_laws.specs.Places.{ArePlaces}
use Rattle.meaning_laws.proofs.PlaceLemmas.{GoUp, GoDown, go_up, go_down}
use Rattle.meaning_laws.proofs.RangePartLemmas.{up_known, down_known}

-- the elements at some places
abbrev read_at : List Bool → List ℕ → List Bool
read_at bits places = map (λ k. get_or bits k false) places

item_read : (bits : List Bool) (places : List ℕ) (k : ℕ) (d : Bool) → k < length places → get_or (read_at bits places) k d ≡ get_or bits (get_or places k 0) false
item_read bits places k d less = get_or-map (λ j. get_or bits j false) places k 0 d less

item_taken : (low n k : ℕ) (bits : List Bool) (d : Bool) → low + n ≤ length bits → k < n → get_or (taken low n bits) k d ≡ get_or bits (low + k) false
item_taken low n k bits d inside less =
    get_or-take n (drop low bits) k d less ∙ get_or-drop low bits k d ∙ get_or_default bits (low + k) d false (omega (arith, inside, less))

module _ (bits : List Bool) (first second : ℕ) (places : List ℕ) where
  up_read : first < length bits → second ≤ first → GoUp first second places → taken second (first + 1 - second) bits ≡ read_at bits places
  up_read inside below up =
      let n : ℕ = first + 1 - second in
      let all : length (taken second n bits) ≡ length places = length_taken second n bits (omega (arith, inside, below)) ∙ omega (arith, up.count, below) in
      same_lists (taken second n bits) (read_at bits places) (all ∙ sym (length-map places (λ j. get_or bits j false)))
      (λ k d less.
      let in_places : k < length places = omega (arith, all, less) in
      item_taken second n k bits d (omega (arith, inside, below)) (omega (arith, up.count, in_places))
      ∙ ap (λ j. get_or bits j false) (sym (up.item k 0 in_places)) ∙ sym (item_read bits places k d in_places))

  down_read : second < length bits → first < second → GoDown first second places → reverse (taken first (second + 1 - first) bits) ≡ read_at bits places
  down_read inside above down =
      let n : ℕ = second + 1 - first in
      let part : List Bool = taken first n bits in
      let long : length part ≡ n = length_taken first n bits (omega (arith, inside, above)) in
      let all : length (reverse part) ≡ length places = length-reverse part ∙ omega (arith, long, down.count, above) in
      same_lists (reverse part) (read_at bits places) (all ∙ sym (length-map places (λ j. get_or bits j false)))
      (λ k d less.
      let in_places : k < length places = omega (arith, all, less) in
      let place : get_or places k 0 + k ≡ second = down.item k 0 in_places in
      let same : first + (length part - 1 - k) ≡ get_or places k 0 = omega (arith, long, place, down.count, in_places, above) in
      get_or-reverse part k d (omega (arith, long, down.count, in_places, above))
      ∙ item_taken first n (length part - 1 - k) bits d (omega (arith, inside, above)) (omega (arith, long, down.count, in_places, above))
      ∙ ap (λ j. get_or bits j false) same ∙ sym (item_read bits places k d in_places))

  pub read_places : first < length bits → second < length bits → ArePlaces first second places →
      bits_between Two (Some (Bits bits)) (Int (pos first)) (Int (pos second)) ≡ Known (map (λ k. get_or bits k false) places)
  read_places first_in second_in p = by (cases_lt first second)
    where
      by : (first < second) ⊎ (second ≤ first) → bits_between Two (Some (Bits bits)) (Int (pos first)) (Int (pos second)) ≡ Known (read_at bits places)
      by (inr below) =
          ap (λ g. then_get g (λ span. Known (span_bits span bits))) (up_known Two (length bits) first second first_in second_in below)
          ∙ ap (λ bs. Known bs) (up_read first_in below (go_up p below))
      by (inl above) =
          ap (λ g. then_get g (λ span. Known (span_bits span bits))) (down_known Two (length bits) first second first_in second_in above)
          ∙ ap (λ bs. Known bs) (down_read second_in above (go_down p (omega (arith, above))))
