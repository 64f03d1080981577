-- On the bits of a run that are said.
use Rattle.std.proofs.Common.{◌≡◌, ◌≤◌, ◌<◌, ◌⊎◌, inl, inr, ◌+◌, ◌-◌, ℕ, min, Bool, true, false, List, [], ◌∷◌, ◌++◌, map, take, drop, length, refl, sym, ap, ap₂, ◌∙◌, arith}
use Rattle.std.proofs.lemmas.Bool.{cases_lt}
use Rattle.std.proofs.lemmas.List.{drop-drop}
use Rattle.std.specs.Prelude.{flat_map}
use Rattle.bit_list.specs.Ranges.{taken}
use Rattle.bit_list.proofs.Splices.{length_taken, taken_of_first}
use Rattle.dev_card.specs.Padding.{BaseLengths, base_pre_of, base_post_of}
use Rattle.scan_accounts.specs.ShiftRuns.{ShiftRun}
use Rattle.scan_accounts.specs.Accounts.{inner_bits}
use Rattle.account_lines.specs.declared.lines.TurnPlace.{TurnPlace}
use Rattle.run_cable.specs.declared.run_place.RunPlace.{RunPlace}
use Rattle.run_cable.specs.KeptRuns.{run_at}
use Rattle.account_plays.specs.RunTexts.{runs_text, place_text, IsTrimmed, IsSaidAt}

-- the bits of a part but for so many at its beginning and at its end
part_within : (low count before after m : ℕ) (xs : List Bool) → before ≤ count → m ≡ count - (before + after) →
    take m (drop (low + before) xs) ≡ take m (drop before (take count (drop low xs)))
part_within low count before after m xs h e =
    ap (take m) (sym (drop-drop before low xs)) ∙ sym (taken_of_first count before m (drop low xs) (omega (arith, h, e)))

pub trimmed_bits : (at said : RunPlace) (before after front : ℕ) → front ≡ min before at.count → said.low ≡ at.low + front →
    said.count ≡ at.count - front - after → (xs : List Bool) → at.low + at.count ≤ length xs →
    taken said.low said.count xs ≡ inner_bits before after (taken at.low at.count xs)
trimmed_bits at said before after front f l n xs inside = by (cases_lt at.count before)
  where
    part : List Bool
    part = taken at.low at.count xs

    size : length part ≡ at.count
    size = length_taken at.low at.count xs inside

    by : (at.count < before) ⊎ (before ≤ at.count) → taken said.low said.count xs ≡ inner_bits before after part
    by (inr h) =
        let m : said.count ≡ at.count - (before + after) = omega (arith, f, n, h) in
        ap₂ (λ k j. take k (drop j xs)) m (l ∙ ap (λ k. at.low + k) (omega (arith, f, h)))
        ∙ part_within at.low at.count before after (at.count - (before + after)) xs h refl
        ∙ ap (λ k. take (k - (before + after)) (drop before part)) (sym size)
    by (inl h) =
        let none : said.count ≡ 0 = omega (arith, f, n, h) in
        let none_there : 0 ≡ length part - (before + after) = omega (arith, size, h) in
        ap (λ k. take k (drop said.low xs)) none ∙ ap (λ k. take k (drop before part)) none_there

pub said_scan : (base : BaseLengths) (at said : RunPlace) → IsTrimmed at (base_pre_of at.ir base) (base_post_of at.ir base) said → IsSaidAt base true at said
said_scan base at said t = record {
  inside = t.within;
  is = λ ins outs fits fits_out.
      ap₂ (λ (ir : Bool) (x : List Bool). let r : ShiftRun = record { ir = ir; bits_in = x; bits_out = taken said.low said.count outs } in r) t.same (t.bits ins fits)
      ∙ ap (λ (y : List Bool). let r : ShiftRun = record { ir = at.ir; bits_in = inner_bits (base_pre_of at.ir base) (base_post_of at.ir base) (taken at.low at.count ins); bits_out = y } in r)
      (t.bits outs fits_out);
}

pub said_whole : (base : BaseLengths) (at said : RunPlace) → said ≡ at → IsSaidAt base false at said
said_whole base at said e = record {
  inside = omega (arith, ap (λ (p : RunPlace). p.low + p.count) e);
  is = λ ins outs fits fits_out. ap (run_at ins outs) e;
}

-- the lines of runs that are kept at places
pub texts_of_places : (turn : TurnPlace) (base : BaseLengths) (ins outs : List Bool) (ats : List RunPlace) →
    flat_map (place_text turn base ins outs) ats ≡ runs_text turn base (map (run_at ins outs) ats)
texts_of_places turn base ins outs [] = refl
texts_of_places turn base ins outs (at ∷ ats) = ap (λ t. place_text turn base ins outs at ++ t) (texts_of_places turn base ins outs ats)
