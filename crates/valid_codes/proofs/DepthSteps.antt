-- One step of the count of operands.
use Rattle.std.proofs.Common.{◌≡◌, ℕ, suc, ◌+◌, ◌<◌, ◌≤◌, Bool, true, List, ◌∷◌, Option, Some, None, length, get_or, drop, sym, ap, ◌∙◌}
use Rattle.std.specs.Prelude.{max, if◌then◌else◌}
use Rattle.std.proofs.lemmas.List.{drop_more}
use Rattle.stapl_meaning.specs.declared.values.ValueKind.{ValueKind}
use Rattle.stapl_code.specs.declared.raw.VarDef.{VarDef}
use Rattle.stapl_code.specs.declared.instr.Instr.{Instr}
use Rattle.stapl_code.specs.Kinds.{kinds_after}
use Rattle.stapl_code.specs.Depth.{on_kinds, deepest}
use Rattle.stapl_code.proofs.KindCounts.{one_more}

module _ (variables : List VarDef) (instrs : List Instr) (i : ℕ) (x : Instr) (inside : i < length instrs) (is : x ≡ get_or instrs i x) where
  found_kinds : (ks after : List ValueKind) (found : Bool) → kinds_after variables x ks ≡ (if found then Some after else None) → found ≡ true → kinds_after variables x ks ≡ Some after
  found_kinds ks after found e f = e ∙ ap (λ (b : Bool). if b then Some after else None) f

  pub grown : (ks after : List ValueKind) (found : Bool) → kinds_after variables x ks ≡ (if found then Some after else None) → found ≡ true → length after ≤ suc (length ks)
  grown ks after found e f = one_more variables x ks after (found_kinds ks after found e f)

  pub rest_is : (ks after : List ValueKind) (found : Bool) → kinds_after variables x ks ≡ (if found then Some after else None) → found ≡ true →
      deepest variables ks (drop i instrs) ≡ max (length ks) (deepest variables after (drop (i + 1) instrs))
  rest_is ks after found e f =
      let here : drop i instrs ≡ x ∷ drop (i + 1) instrs = drop_more instrs i x inside ∙ ap (λ y. y ∷ drop (i + 1) instrs) (sym is) in
      let beyond = ap (λ (o : Option (List ValueKind)). max (length ks) (on_kinds o (λ after. deepest variables after (drop (i + 1) instrs)))) (found_kinds ks after found e f) in
      ap (deepest variables ks) here ∙ beyond
