-- The runs that are kept in lists of bits.
use Rattle.std.proofs.Common.{◌≡◌, ◌≤◌, ◌<◌, ℕ, ◌+◌, ◌-◌, Bool, List, [], ◌∷◌, ◌++◌, map, length, Option, Some, None, refl, sym, ap, ap₂, subst, ◌∙◌, arith}
use Rattle.std.specs.Prelude.{All}
use Rattle.std.specs.Option.{option_map}
use Rattle.std.proofs.lemmas.List.Elements.{All-head, All-tail}
use Rattle.bit_list.specs.Ranges.{taken, spliced}
use Rattle.bit_list.proofs.Splices.{taken_joined, taken_below, taken_written}
use Rattle.scan_accounts.specs.ShiftRuns.{ShiftRun}
use Rattle.run_cable.specs.declared.run_place.RunPlace.{RunPlace}
use Rattle.scan_accounts.specs.Rooms.{bits_of, FitIn}
use Rattle.run_cable.specs.HeardRuns.{grown, last_run}
use Rattle.run_cable.specs.RunCableLaws.{bits_joined, bits_grown}
use Rattle.run_cable.specs.KeptRuns.{run_at, LiesBelow, EndsThere}

-- bits that are written above the runs change none of them
module _ (free : ℕ) (w v ins outs : List Bool) (inside : free ≤ length ins) (inside_out : free ≤ length outs) where
  same_run : (at : RunPlace) → LiesBelow free at → run_at (spliced free w ins) (spliced free v outs) at ≡ run_at ins outs at
  same_run at below =
      ap₂ (λ (x y : List Bool). let r : ShiftRun = record { ir = at.ir; bits_in = x; bits_out = y } in r)
      (taken_below free at.low at.count w ins below inside) (taken_below free at.low at.count v outs below inside_out)

  pub same_runs : (ats : List RunPlace) → All (LiesBelow free) ats → map (run_at (spliced free w ins) (spliced free v outs)) ats ≡ map (run_at ins outs) ats
  same_runs [] all = refl
  same_runs (at ∷ ats) all =
      ap₂ (λ r rs. r ∷ rs) (same_run at (All-head (LiesBelow free) at ats all)) (same_runs ats (All-tail (LiesBelow free) at ats all))

  -- the run that goes on has them at its end, or begins with them
  grown_on : (ir : Bool) (n : ℕ) (at : RunPlace) → at.low + at.count ≡ free → length w ≡ n → length v ≡ n →
      run_at (spliced free w ins) (spliced free v outs) (record { ir = ir; low = at.low; count = at.count + n })
      ≡ grown ir w v (Some (run_at ins outs at))
  grown_on ir n at ends lw lv =
      let side : (part xs : List Bool) → length part ≡ n → free ≤ length xs →
      taken at.low (at.count + n) (spliced free part xs) ≡ taken at.low at.count xs ++ part =
      λ part xs len fits.
      sym (taken_joined at.low at.count n (spliced free part xs))
      ∙ ap₂ (λ (x y : List Bool). x ++ y) (taken_below free at.low at.count part xs (omega (arith, ends)) fits)
      (ap (λ k. taken k n (spliced free part xs)) ends ∙ taken_written free n part xs len fits) in
      ap₂ (λ (x y : List Bool). let r : ShiftRun = record { ir = ir; bits_in = x; bits_out = y } in r) (side w ins lw inside) (side v outs lv inside_out)

  grown_first : (ir : Bool) (n : ℕ) → length w ≡ n → length v ≡ n →
      run_at (spliced free w ins) (spliced free v outs) (record { ir = ir; low = free; count = n }) ≡ grown ir w v None
  grown_first ir n lw lv =
      ap₂ (λ (x y : List Bool). let r : ShiftRun = record { ir = ir; bits_in = x; bits_out = y } in r)
      (taken_written free n w ins lw inside) (taken_written free n v outs lv inside_out)

  pub grown_going : (ir : Bool) (n : ℕ) (going : Option RunPlace) (at to : RunPlace) → going ≡ Some at → EndsThere free going →
      to ≡ record { ir = ir; low = at.low; count = at.count + n } → length w ≡ n → length v ≡ n →
      run_at (spliced free w ins) (spliced free v outs) to ≡ grown ir w v (option_map (run_at ins outs) going)
  grown_going ir n going at to is ends e lw lv =
      ap (run_at (spliced free w ins) (spliced free v outs)) e
      ∙ grown_on ir n at (subst (λ (o : Option RunPlace). EndsThere free o) is ends) lw lv
      ∙ ap (λ (o : Option RunPlace). grown ir w v (option_map (run_at ins outs) o)) (sym is)

  pub grown_anew : (ir : Bool) (n : ℕ) (going : Option RunPlace) (to : RunPlace) → going ≡ None →
      to ≡ record { ir = ir; low = free; count = n } → length w ≡ n → length v ≡ n →
      run_at (spliced free w ins) (spliced free v outs) to ≡ grown ir w v (option_map (run_at ins outs) going)
  grown_anew ir n going to is e lw lv =
      ap (run_at (spliced free w ins) (spliced free v outs)) e ∙ grown_first ir n lw lv
      ∙ ap (λ (o : Option RunPlace). grown ir w v (option_map (run_at ins outs) o)) (sym is)

-- the bits of all runs, of which the one that goes on has so many more
grown_count : (ir : Bool) (w v : List Bool) (ended : List ShiftRun) (going : Option ShiftRun) →
    bits_of (ended ++ grown ir w v going ∷ []) ≡ bits_of (ended ++ last_run going) + length w
grown_count ir w v ended going =
    let a : bits_of (ended ++ grown ir w v going ∷ []) ≡ bits_of ended + bits_of (grown ir w v going ∷ []) = bits_joined ended (grown ir w v going ∷ []) in
    let b : bits_of (ended ++ last_run going) ≡ bits_of ended + bits_of (last_run going) = bits_joined ended (last_run going) in
    let e : bits_of (grown ir w v going ∷ []) ≡ bits_of (last_run going) + length w = bits_grown ir w v going in
    omega (arith, a, b, e)

pub grown_used : (ir : Bool) (n free : ℕ) (w v : List Bool) (ended : List ShiftRun) (going : Option ShiftRun) → length w ≡ n →
    bits_of (ended ++ last_run going) ≡ free → bits_of (ended ++ grown ir w v going ∷ []) ≡ free + n
grown_used ir n free w v ended going len used =
    let e : bits_of (ended ++ grown ir w v going ∷ []) ≡ bits_of (ended ++ last_run going) + length w = grown_count ir w v ended going in
    omega (arith, e, len, used)

pub too_many : (ir : Bool) (n free bits runs : ℕ) (w v : List Bool) (ended : List ShiftRun) (going : Option ShiftRun) → length w ≡ n →
    bits_of (ended ++ last_run going) ≡ free → bits - free < n → free ≤ bits → FitIn bits runs (ended ++ grown ir w v going ∷ []) → ⊥
too_many ir n free bits runs w v ended going len used over inside fit =
    let e : bits_of (ended ++ grown ir w v going ∷ []) ≡ free + n = grown_used ir n free w v ended going len used in
    absurd (omega (arith, e, over, inside, fit.together))

-- where the run that goes on ends then
pub ends_on : (ir : Bool) (free n : ℕ) (going : Option RunPlace) (at to : RunPlace) → going ≡ Some at → EndsThere free going →
    to ≡ record { ir = ir; low = at.low; count = at.count + n } → to.low + to.count ≡ free + n
ends_on ir free n going at to is ends e =
    let there : at.low + at.count ≡ free = subst (λ (o : Option RunPlace). EndsThere free o) is ends in
    ap (λ (p : RunPlace). p.low + p.count) e ∙ omega (arith, there)

pub ends_anew : (ir : Bool) (free n : ℕ) (to : RunPlace) → to ≡ record { ir = ir; low = free; count = n } → to.low + to.count ≡ free + n
ends_anew ir free n to e = ap (λ (p : RunPlace). p.low + p.count) e
