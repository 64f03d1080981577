-- One step of the search for the first break of a procedure.
use Rattle.std.proofs.Common.{◌≡◌, ℕ, ◌+◌, ◌<◌, Bool, true, false, List, [], ◌∷◌, Option, Some, None, length, length-drop, get_or, drop, arith, refl, sym, ap, ◌∙◌}
use Rattle.std.specs.Prelude.{◌==◌, ◌&&◌, if◌then◌else◌}
use Rattle.std.proofs.lemmas.Bool.Decides.{nat_tests}
use Rattle.std.proofs.lemmas.List.{drop_more}
use Rattle.stapl_meaning.specs.declared.values.ValueKind.{ValueKind}
use Rattle.stapl_code.specs.declared.raw.VarDef.{VarDef}
use Rattle.stapl_code.specs.declared.instr.Instr.{Instr}
use Rattle.stapl_code.specs.Kinds.{kinds_after}
use Rattle.stapl_code.specs.Valid.{departs, is_last, judged, stands_well, rest_break}

-- nothing follows exactly if all instructions are counted
last_is : (rest : List Instr) (n total : ℕ) → n + length rest ≡ total → is_last rest ≡ (n == total)
last_is [] n total e = grind (arith, nat_tests, e)
last_is (x ∷ rest) n total e = grind (arith, nat_tests, e)

-- an instruction that does not find its operands, or does not stand well, breaks a rule
judged_false : (found stands : Bool) (after : List ValueKind) (i : ℕ) (go : List ValueKind → Option ℕ) → (found && stands) ≡ false →
    judged (if found then Some after else None) stands i go ≡ Some i
judged_false true true after i go e = absurd cc
judged_false true false after i go e = refl
judged_false false stands after i go e = refl

module _
    (variables : List VarDef) (entry : ℕ) (procedure : List Instr) (i : ℕ) (x : Instr) (inside : i < length procedure)
    (is : x ≡ get_or procedure i x) where
  pub break_here : (must : Bool) (ks after : List ValueKind) (found stands : Bool) →
      kinds_after variables x ks ≡ (if found then Some after else None) →
      stands ≡ stands_well entry procedure must x (i + 1 == length procedure) → (found && stands) ≡ false →
      rest_break variables entry procedure (entry + i) must ks (drop i procedure) ≡ Some (entry + i)
  break_here must ks after found stands kinds well e =
      let rest : List Instr = drop (i + 1) procedure in
      let here : drop i procedure ≡ x ∷ rest = drop_more procedure i x inside ∙ ap (λ y. y ∷ rest) (sym is) in
      let count : i + 1 + length rest ≡ length procedure = omega (arith, inside, length-drop (i + 1) procedure) in
      let last = last_is rest (i + 1) (length procedure) count in
      let stands_now = ap (stands_well entry procedure must x) last ∙ sym well in
      let go : List ValueKind → Option ℕ = λ ks. rest_break variables entry procedure (entry + i + 1) (departs x) ks rest in
      ap (rest_break variables entry procedure (entry + i) must ks) here
      ∙ ap (λ o. judged o (stands_well entry procedure must x (is_last rest)) (entry + i) go) kinds
      ∙ ap (λ b. judged (if found then Some after else None) b (entry + i) go) stands_now
      ∙ judged_false found stands after (entry + i) go e

  -- an instruction that breaks no rule leaves the search to the rest
  pub break_more : (must : Bool) (ks after : List ValueKind) (found stands : Bool) →
      kinds_after variables x ks ≡ (if found then Some after else None) → found ≡ true →
      stands ≡ stands_well entry procedure must x (i + 1 == length procedure) → stands ≡ true →
      rest_break variables entry procedure (entry + i) must ks (drop i procedure)
      ≡ rest_break variables entry procedure (entry + (i + 1)) (departs x) after (drop (i + 1) procedure)
  break_more must ks after found stands kinds f well s =
      let rest : List Instr = drop (i + 1) procedure in
      let here : drop i procedure ≡ x ∷ rest = drop_more procedure i x inside ∙ ap (λ y. y ∷ rest) (sym is) in
      let count : i + 1 + length rest ≡ length procedure = omega (arith, inside, length-drop (i + 1) procedure) in
      let last = last_is rest (i + 1) (length procedure) count in
      let finds = kinds ∙ ap (λ (b : Bool). if b then Some after else None) f in
      let stands_now = ap (stands_well entry procedure must x) last ∙ sym well ∙ s in
      let next : entry + i + 1 ≡ entry + (i + 1) = omega arith in
      let at : ℕ = entry + i + 1 in
      let go : List ValueKind → Option ℕ = λ ks. rest_break variables entry procedure at (departs x) ks rest in
      ap (rest_break variables entry procedure (entry + i) must ks) here
      ∙ ap (λ o. judged o (stands_well entry procedure must x (is_last rest)) (entry + i) go) finds
      ∙ ap (λ b. judged (Some after) b (entry + i) go) stands_now
      ∙ ap (λ (n : ℕ). rest_break variables entry procedure n (departs x) after rest) next
