-- Opcodes that a description doesn't name select BYPASS.
use Rattle.std.proofs.Common.{◌≡◌, ◌≢◌, ◌<◌, ◌+◌, ◌-◌, ◌^◌, ◌++◌, ℕ, false, cond, eqb, All, List, [], ◌∷◌, map, Option, Some, None, inl, inr, refl, ap, ◌∙◌, arith}
use Rattle.std.proofs.lemmas.List.Elements.{All-head, All-tail, All-cons}
use Rattle.std.proofs.lemmas.Bool.Decides.{eqb_tells}
use Rattle.dev_card.specs.declared.desc.Kind.{Kind}
use Rattle.dev_card.specs.declared.desc.Kind.TheVariants.{Plain, Regs, Flash}
use Rattle.dev_card.specs.declared.desc.IdCode.{IdCode}
use Rattle.dev_card.specs.declared.desc.RegDesc.{RegDesc}
use Rattle.dev_card.specs.declared.desc.FlashDesc.{FlashDesc}
use Rattle.dev_card.specs.declared.desc.Desc.{Desc}
use Rattle.dev_card.specs.Descriptions.{IsGood, identity_opcodes, flash_opcodes, opcodes_of}
use Rattle.dev_card.specs.Card.{Selected, bypass, identity_code, held_register, flash_address, flash_erase, flash_program, flash_read, register_with, flash_register_with, kind_selects, identity_or_kind, selected_by}

module _ (P : ℕ → Type 0) where
  all_left : (xs ys : List ℕ) → All P (xs ++ ys) → All P xs
  all_left [] ys h = λ k d l. absurd (omega arith)
  all_left (x ∷ xs) ys h = All-cons P x xs (All-head P x (xs ++ ys) h) (all_left xs ys (All-tail P x (xs ++ ys) h))

  all_right : (xs ys : List ℕ) → All P (xs ++ ys) → All P ys
  all_right [] ys h = h
  all_right (x ∷ xs) ys h = all_right xs ys (All-tail P x (xs ++ ys) h)

not_equal : (a b : ℕ) → a ≢ b → eqb a b ≡ false
not_equal a b n = elim (eqb_tells a b) [ inl e ↦ absurd (n e.1) | inr e ↦ e.0 ]

module _ (op : ℕ) where
  other : (xs : List ℕ) → Type 0
  other xs = All (λ named. named ≢ op) xs

  no_register : (rs : List RegDesc) (k : ℕ) → other (map (λ (r : RegDesc). r.op) rs) → register_with rs op k ≡ bypass
  unfolding other
  no_register [] k h = refl
  no_register (r ∷ rs) k h =
      let first = All-head (λ named. named ≢ op) r.op (map (λ (x : RegDesc). x.op) rs) h in
      let rest = All-tail (λ named. named ≢ op) r.op (map (λ (x : RegDesc). x.op) rs) h in
      ap (λ b. cond b (held_register k r) (register_with rs op (k + 1))) (not_equal r.op op first) ∙ no_register rs (k + 1) rest

  no_memory : (o : Option FlashDesc) → other (flash_opcodes o) → flash_register_with o op ≡ bypass
  unfolding other
  no_memory None h = refl
  no_memory (Some f) h =
      let P : ℕ → Type 0 = λ named. named ≢ op in
      let after_erase = All-tail P f.erase (f.addr ∷ f.prog ∷ f.read ∷ []) h in
      let after_address = All-tail P f.addr (f.prog ∷ f.read ∷ []) after_erase in
      let after_program = All-tail P f.prog (f.read ∷ []) after_address in
      let by_read : Selected = cond (eqb f.read op) (flash_read f) bypass in
      let by_program : Selected = cond (eqb f.prog op) (flash_program f) by_read in
      let by_erase : Selected = cond (eqb f.erase op) (flash_erase f) by_program in
      ap (λ b. cond b (flash_address f) by_erase) (not_equal f.addr op (All-head P f.addr (f.prog ∷ f.read ∷ []) after_erase))
      ∙ ap (λ b. cond b (flash_erase f) by_program) (not_equal f.erase op (All-head P f.erase (f.addr ∷ f.prog ∷ f.read ∷ []) h))
      ∙ ap (λ b. cond b (flash_program f) by_read) (not_equal f.prog op (All-head P f.prog (f.read ∷ []) after_address))
      ∙ ap (λ b. cond b (flash_read f) bypass) (not_equal f.read op (All-head P f.read [] after_program))

  no_kind : (kind : Kind) (d : Desc) → other (map (λ (r : RegDesc). r.op) d.registers) → other (flash_opcodes d.flash) → kind_selects kind d op ≡ bypass
  no_kind Plain d r f = refl
  no_kind Regs d r f = no_register d.registers 0 r
  no_kind Flash d r f = no_memory d.flash f

  no_identity : (id : Option IdCode) (d : Desc) → other (identity_opcodes id) → kind_selects d.kind d op ≡ bypass → identity_or_kind id d op ≡ bypass
  unfolding other
  no_identity None d h e = e
  no_identity (Some i) d h e = ap (λ b. cond b (identity_code i.value) (kind_selects d.kind d op)) (not_equal i.op op (All-head (λ named. named ≢ op) i.op [] h)) ∙ e

pub unnamed_selects_bypass : (d : Desc) (op : ℕ) → All (λ named. named ≢ op) (opcodes_of d) → selected_by d op ≡ bypass
unfolding other
unnamed_selects_bypass d op h =
    let P : ℕ → Type 0 = λ named. named ≢ op in
    let ids : List ℕ = identity_opcodes d.id in
    let regs : List ℕ = map (λ (r : RegDesc). r.op) d.registers in
    let front : All P (ids ++ regs) = all_left P (ids ++ regs) (flash_opcodes d.flash) h in
    no_identity op d.id d (all_left P ids regs front) (no_kind op d.kind d (all_right P ids regs front) (all_right P (ids ++ regs) (flash_opcodes d.flash) h))

below_ones : (op m : ℕ) → op + 1 < m → op ≢ m - 1
below_ones op m h = λ e. absurd (omega arith)

pub all_ones_selects_bypass : (d : Desc) → IsGood d → selected_by d (2 ^ d.ir_len - 1) ≡ bypass
all_ones_selects_bypass d g = unnamed_selects_bypass d (2 ^ d.ir_len - 1) (λ k e l. below_ones _ (2 ^ d.ir_len) (g.opcodes k e l))
