-- The data registers of a Regs.
use Rattle.std.proofs.Common.{◌≡◌, ℕ, replicate, Bool, false, List, length, map, slice_get, Some, None, sym, ap, subst, ◌∙◌}
use Rattle.std.specs.Option.{option_map}
use Rattle.std.proofs.lemmas.Option.{slice_get-map}
use Rattle.std.proofs.lemmas.Simd.{map-map}
use Rattle.dev_card.specs.declared.desc.Kind.TheVariants.{Regs}
use Rattle.dev_card.specs.declared.desc.RegDesc.{RegDesc}
use Rattle.dev_card.specs.declared.desc.Desc.{Desc}
use Rattle.dev_card.specs.Descriptions.{IsGood, HasPartsOf}
use Rattle.dev_card.specs.Card.{fresh_cells}
use Rattle.dev_card.specs.Sound.{cell_lengths}
use Rattle.dev_kinds.specs.Logic.{Logic}
use Rattle.dev_kinds.specs.DataRegisters.{IsFitted, fresh_contents, without_memory}

some_inj : {x y : ℕ} → Some x ≡ Some y → x ≡ y
some_inj e = cc

-- what register k holds is as long as the register
held_length : (cells : List (List Bool)) (rs : List RegDesc) (k : ℕ) (r : RegDesc) (held : List Bool) →
    map length cells ≡ map (λ (x : RegDesc). x.len) rs →
    slice_get rs k ≡ Some r → slice_get cells k ≡ Some held → length held ≡ r.len
held_length cells rs k r held e a b =
    some_inj (sym (ap (option_map length) b) ∙ sym (slice_get-map length cells k) ∙ ap (λ xs. slice_get xs k) e
    ∙ slice_get-map (λ (x : RegDesc). x.len) rs k ∙ ap (option_map (λ (x : RegDesc). x.len)) a)

module _ (k : Logic) (cells : List (List Bool)) (fits : IsFitted Regs 65536 k (without_memory cells)) where
  lengths_of_regs : map length cells ≡ map (λ (x : RegDesc). x.len) k.desc.registers
  lengths_of_regs = fits.sound.cell_count_and_lengths ∙ ap (λ x. cell_lengths x k.desc) fits.kind

  pub register_length : (i : ℕ) (r : RegDesc) (held : List Bool) → slice_get k.desc.registers i ≡ Some r →
      slice_get cells i ≡ Some held → length held ≡ r.len
  register_length i r held a b = held_length cells k.desc.registers i r held lengths_of_regs a b

pub fresh_regs : (d : Desc) (cells : List (List Bool)) → IsGood d → d.kind ≡ Regs →
    cells ≡ map (λ (r : RegDesc). replicate r.len false) d.registers → without_memory cells ≡ fresh_contents d
fresh_regs d cells g e a =
    let none : d.flash ≡ None = (subst (λ k. HasPartsOf k d) e g.parts).1 in
    ap without_memory (a ∙ sym (ap (λ k. fresh_cells k d) e))
    ∙ ap (λ o. record { flash = o; cells = fresh_cells d.kind d; busy = 0 }) (sym none)

-- zeros in place of what the registers hold
pub blank_regs : (k : Logic) (cells new : List (List Bool)) → IsFitted Regs 65536 k (without_memory cells) →
    new ≡ map (λ (bits : List Bool). replicate (length bits) false) cells → without_memory new ≡ fresh_contents k.desc
blank_regs k cells new h a =
    let zeros : ℕ → List Bool = λ n. replicate n false in
    fresh_regs k.desc new h.sound.good h.kind
    (a ∙ sym (map-map zeros length cells) ∙ ap (map zeros) (lengths_of_regs k cells h)
    ∙ map-map zeros (λ (r : RegDesc). r.len) k.desc.registers)
