-- The search for a register.
use Rattle.std.proofs.Common.{◌≡◌, ◌+◌, ℕ, suc, cond, eq-eqb, List, ◌∷◌, drop, Some, slice_get, sym, ap, ◌∙◌, add-one}
use Rattle.std.proofs.lemmas.Option.{get_or_from_slice_get, slice_get_within}
use Rattle.std.proofs.Math.Seq.{drop-cons}
use Rattle.dev_card.specs.declared.desc.RegDesc.{RegDesc}
use Rattle.dev_card.specs.Card.{register_with, held_register}

drop_here : (rs : List RegDesc) (i : ℕ) (r : RegDesc) → slice_get rs i ≡ Some r → drop i rs ≡ r ∷ drop (i + 1) rs
drop_here rs i r e =
    drop-cons rs i r (slice_get_within rs i r e) ∙ ap (λ x. x ∷ drop (suc i) rs) (get_or_from_slice_get rs i r r e) ∙ ap (λ j. r ∷ drop j rs) (sym (add-one i))

pub found_at : (rs : List RegDesc) (op i : ℕ) (r : RegDesc) → slice_get rs i ≡ Some r → r.op ≡ op → register_with (drop i rs) op i ≡ held_register i r
found_at rs op i r e h =
    ap (λ z. register_with z op i) (drop_here rs i r e) ∙ ap (λ b. cond b (held_register i r) (register_with (drop (i + 1) rs) op (i + 1))) (eq-eqb r.op op h)
