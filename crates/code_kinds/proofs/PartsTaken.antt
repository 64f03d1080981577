-- Parts of a Print whose operands are taken off, from the last part to the first.
use Rattle.std.proofs.Common.{◌≡◌, ℕ, zero, suc, ◌+◌, ◌-◌, ◌<◌, List, [], ◌∷◌, Option, Some, None, length, get_or, drop, arith, ap, ◌∙◌}
use Rattle.std.proofs.lemmas.List.{drop_more}
use Rattle.stapl_meaning.specs.declared.values.ValueKind.{ValueKind}
use Rattle.stapl_meaning.specs.declared.values.ValueKind.TheVariants as kinds
use Rattle.stapl_code.specs.declared.raw.VarDef.{VarDef}
use Rattle.stapl_code.specs.declared.instr.PrintPart.{PrintPart}
use Rattle.stapl_code.specs.declared.instr.PrintPart.TheVariants as parts
use Rattle.stapl_code.specs.Machine.{part_slots}
use Rattle.stapl_code.specs.Kinds.{then_kinds, taken_off, all_off}

-- where the operands of the last parts are not there, neither are those of all
pub none_before : (variables : List VarDef) (n : ℕ) (list : List PrintPart) (ks : List ValueKind) →
    all_off variables (part_slots (drop n list)) ks ≡ None → all_off variables (part_slots list) ks ≡ None
none_before variables zero list ks e = e
none_before variables (suc n) [] ks e = e
none_before variables (suc n) (parts.Text k ∷ list) ks e = none_before variables n list ks e
none_before variables (suc n) (parts.Int ∷ list) ks e =
    ap (λ o. then_kinds o (taken_off (Some kinds.Int))) (none_before variables n list ks e)
none_before variables (suc n) (parts.Bit ∷ list) ks e =
    ap (λ o. then_kinds o (taken_off (Some kinds.Bit))) (none_before variables n list ks e)
none_before variables (suc n) (parts.Char ∷ list) ks e =
    ap (λ o. then_kinds o (taken_off (Some kinds.Int))) (none_before variables n list ks e)

-- one part more
pub one_before : (list : List PrintPart) (done : ℕ) (d : PrintPart) → done < length list →
    drop (length list - (done + 1)) list ≡ get_or list (length list - 1 - done) d ∷ drop (length list - done) list
one_before list done d h =
    let i : ℕ = length list - (done + 1) in
    let here : i ≡ length list - 1 - done = omega (arith, h) in
    let next : i + 1 ≡ length list - done = omega (arith, h) in
    let inside : i < length list = omega (arith, h) in
    drop_more list i d inside
    ∙ ap (λ (n : ℕ). get_or list n d ∷ drop (i + 1) list) here
    ∙ ap (λ (n : ℕ). get_or list (length list - 1 - done) d ∷ drop n list) next

-- the kinds before one part more
pub kinds_before : (variables : List VarDef) (list : List PrintPart) (done : ℕ) (d : PrintPart) (ks : List ValueKind)
    (o : Option (List ValueKind)) → done < length list →
    all_off variables (part_slots (get_or list (length list - 1 - done) d ∷ drop (length list - done) list)) ks ≡ o →
    all_off variables (part_slots (drop (length list - (done + 1)) list)) ks ≡ o
kinds_before variables list done d ks o h e =
    ap (λ l. all_off variables (part_slots l) ks) (one_before list done d h) ∙ e
