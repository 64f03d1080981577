use Rattle.std.proofs.Common.{◌≡◌, ◌∙◌, ℕ, Bool, List, Some, length, get_or, slice_get, refl, sym, ap, subst, arith}
use Rattle.std.proofs.lemmas.List.Elements.{All-get_or}
use Rattle.std.proofs.lemmas.Option.{get_or_from_slice_get, slice_get_within, same_Some}
use Rattle.dev_card.specs.Descriptions.{IsGood, IsGoodRegister, HasPartsOf}
use Rattle.dev_card.specs.declared.desc.Desc.{Desc}
use Rattle.dev_card.specs.declared.desc.RegDesc.{RegDesc}
use Rattle.dev_card.specs.declared.desc.Kind.TheVariants.{Regs}
use Rattle.dev_kinds.proofs.test_logic.TestLogic.capture_held.Goals as goal

-- the register at a place of the list that was lent
record IsRegister (d : Desc) (k : ℕ) (held : List Bool) (register : RegDesc) : Type 0 where
  is : slice_get d.registers k ≡ Some register
  good : IsGoodRegister register
  holds : length held ≡ register.len

register_at : {d : Desc} {k : ℕ} {held : List Bool} {lent : List RegDesc} (other : RegDesc) → IsGood d → d.kind ≡ Regs →
    ((r : RegDesc) × ((slice_get d.registers k ≡ Some r) × (length held ≡ r.len))) → lent ≡ d.registers → IsRegister d k held (get_or lent k other)
register_at {d = d} {k = k} other good kind given same =
    let r = given.0 in
    let lent_at = ap (λ (l : List RegDesc). get_or l k other) same in
    let found = lent_at ∙ get_or_from_slice_get d.registers k r other given.1.0 in
    let parts = subst (λ kind. HasPartsOf kind d) kind good.parts in
    record {
      is = given.1.0 ∙ ap Some (sym found);
      good = subst IsGoodRegister (sym lent_at) (All-get_or IsGoodRegister d.registers k other (slice_get_within d.registers k r given.1.0) parts.0.each);
      holds = given.1.1 ∙ ap (λ (r : RegDesc). r.len) (sym found);
    }

pub load-requires-clause-some : goal.load-requires-clause-some
load-requires-clause-some c =
    let register = register_at c.index-as_slice-k.result c.self.invariant.good (rw (← c.self.view_is) at c.requires.kind)
    (rw (← c.self.view_is) at c.requires.register) c.as_slice.ensures in
    omega (arith, register.good.some, rw c.in-Some.is at register.good.constant_length)

pub load-requires-clause-room : goal.load-requires-clause-room
load-requires-clause-room c =
    let register = register_at c.index-as_slice-k.result c.self.invariant.good (rw (← c.self.view_is) at c.requires.kind)
    (rw (← c.self.view_is) at c.requires.register) c.as_slice.ensures in
    let room = rw (← c.self.view_is) at c.requires.room in
    omega (arith, register.good.limit, rw c.in-Some.is at register.good.constant_length, room)

pub invariant_of-self : goal.invariant_of-self
invariant_of-self c =
    let register = register_at c.index-as_slice-k.result c.self.invariant.good (rw (← c.self.view_is) at c.requires.kind)
    (rw (← c.self.view_is) at c.requires.register) c.as_slice.ensures in
    rw c.load.ensures (record {
      good = c.self.invariant.good;
      ir_fits = c.self.invariant.ir_fits;
      some = omega (arith, register.good.some, rw c.in-Some.is at register.good.constant_length);
      room_for_identity = c.self.invariant.room_for_identity;
    })

pub load-requires-in-None-clause-some : goal.load-requires-in-None-clause-some
load-requires-in-None-clause-some c =
    let register = register_at c.index-as_slice-k.result c.self.invariant.good (rw (← c.self.view_is) at c.requires.kind)
    (rw (← c.self.view_is) at c.requires.register) c.as_slice.ensures in
    omega (arith, register.good.some, register.holds)

pub load-requires-in-None-clause-room : goal.load-requires-in-None-clause-room
load-requires-in-None-clause-room c =
    let register = register_at c.index-as_slice-k.result c.self.invariant.good (rw (← c.self.view_is) at c.requires.kind)
    (rw (← c.self.view_is) at c.requires.register) c.as_slice.ensures in
    let room = rw (← c.self.view_is) at c.requires.room in
    omega (arith, register.good.limit, register.holds, room)

pub invariant_of-self-in-None : goal.invariant_of-self-in-None
invariant_of-self-in-None c =
    let register = register_at c.index-as_slice-k.result c.self.invariant.good (rw (← c.self.view_is) at c.requires.kind)
    (rw (← c.self.view_is) at c.requires.register) c.as_slice.ensures in
    rw c.load-in-None.ensures (record {
      good = c.self.invariant.good;
      ir_fits = c.self.invariant.ir_fits;
      some = omega (arith, register.good.some, register.holds);
      room_for_identity = c.self.invariant.room_for_identity;
    })

pub returns-in-Some : goal.returns-in-Some
returns-in-Some c =
    let register = register_at c.index-as_slice-k.result c.self.invariant.good (rw (← c.self.view_is) at c.requires.kind)
    (rw (← c.self.view_is) at c.requires.register) c.as_slice.ensures in
    rw (← c.self.view_is, c.load.ensures) (λ r found. rw (same_Some _ _ (sym found ∙ register.is), c.in-Some.is) refl)

pub returns-in-None : goal.returns-in-None
returns-in-None c =
    let register = register_at c.index-as_slice-k.result c.self.invariant.good (rw (← c.self.view_is) at c.requires.kind)
    (rw (← c.self.view_is) at c.requires.register) c.as_slice.ensures in
    rw (← c.self.view_is, c.load-in-None.ensures) (λ r found. rw (same_Some _ _ (sym found ∙ register.is), c.in-None.is) refl)
