-- A card is sound in one way, and a device is fitted in one way. Each part of these facts is an equation or a bound of
-- numbers or of lists, or such a fact for each item of a list.
use Rattle.std.specs.Prelude.{◌≡◌, ◌≢◌, ◌==◌, if◌then◌else◌, ℕ, Bool, List, [], Option, None, All, AllPairs, refl}
use Rattle.std.specs.Option.{ForSome, IsSomeAnd-prop}
use Rattle.std.specs.Coded.{Coded, Coded-set, coded_ℕ, coded_bool, coded_list, coded_option, coded×, code_by, le_prop, ×_prop, Π_prop, →_prop}
use Rattle.stapl_lexer.specs.Names.{IsUpperName}
use Rattle.dev_card.specs.declared.desc.Kind.{Kind}
use Rattle.dev_card.specs.declared.desc.Kind.TheVariants.{Plain, Regs, Flash}
use Rattle.dev_card.specs.declared.desc.IdCode.{IdCode}
use Rattle.dev_card.specs.declared.desc.RegDesc.{RegDesc}
use Rattle.dev_card.specs.declared.desc.FlashDesc.{FlashDesc}
use Rattle.dev_card.specs.declared.desc.Desc.{Desc}
use Rattle.dev_card.specs.Descriptions.{IsOpcode, IsIdentity, IsGoodRegister, AreGoodRegisters, IsGoodFlash, HasPartsOf, IsGood}
use Rattle.dev_card.specs.Card.{Card}
use Rattle.dev_card.specs.Sound.{IsSound}
use Rattle.dev_kinds.specs.Logic.{Logic}
use Rattle.dev_kinds.specs.DataRegisters.{RegisterContents, IsFitted, card_with}

-- registers and memories are coded as tuples of their fields, so equations of them are propositions
coded_register : Coded RegDesc
coded_register = code_by (List ℕ × (ℕ × (ℕ × Option (List Bool)))) (coded× (coded_list coded_ℕ) (coded× coded_ℕ (coded× coded_ℕ (coded_option (coded_list coded_bool)))))
    (λ (r : RegDesc). (r.name, (r.op, (r.len, r.constant)))) (λ p. record { name = p.0; op = p.1.0; len = p.1.1.0; constant = p.1.1.1 }) (λ _. refl)

coded_memory : Coded FlashDesc
coded_memory = code_by (ℕ × (ℕ × (ℕ × (ℕ × (ℕ × (ℕ × (ℕ × Bool)))))))
    (coded× coded_ℕ (coded× coded_ℕ (coded× coded_ℕ (coded× coded_ℕ (coded× coded_ℕ (coded× coded_ℕ (coded× coded_ℕ coded_bool)))))))
    (λ (f : FlashDesc). (f.erase, (f.addr, (f.prog, (f.read, (f.words, (f.width, (f.busy, f.fill)))))))) (λ p. record {
      erase = p.0;
      addr = p.1.0;
      prog = p.1.1.0;
      read = p.1.1.1.0;
      words = p.1.1.1.1.0;
      width = p.1.1.1.1.1.0;
      busy = p.1.1.1.1.1.1.0;
      fill = p.1.1.1.1.1.1.1;
    }) (λ _. refl)

number_eq-prop : (x y : ℕ) → IsProp (x ≡ y)
number_eq-prop x y = Coded-set coded_ℕ x y

⊥-prop : IsProp ⊥
⊥-prop x y = absurd x

apart-prop : {T : Type 0} (x y : T) → IsProp (x ≢ y)
apart-prop x y = →_prop ⊥-prop

ForSome-prop : {T : Type 0} (o : Option T) (P : T → Type 0) → ((x : T) → IsProp (P x)) → IsProp (ForSome o P)
ForSome-prop o P h = Π_prop (λ x. →_prop (h x))

All-prop : {T : Type 0} (P : T → Type 0) (xs : List T) → ((x : T) → IsProp (P x)) → IsProp (All P xs)
All-prop P xs h = Π_prop (λ k. Π_prop (λ d. →_prop (h _)))

AllPairs-prop : {T : Type 0} (R : T → T → Type 0) (xs : List T) → ((x y : T) → IsProp (R x y)) → IsProp (AllPairs R xs)
AllPairs-prop R xs h = Π_prop (λ i. Π_prop (λ j. Π_prop (λ d. →_prop (→_prop (h _ _)))))

IsUpperName-prop : (name : List ℕ) → IsProp (IsUpperName name)
IsUpperName-prop name x y = λ i. record {
  spelled = Coded-set coded_bool _ _ x.spelled y.spelled i;
  some = le_prop x.some y.some i;
  short = le_prop x.short y.short i;
  upper = Coded-set (coded_list coded_ℕ) _ _ x.upper y.upper i;
}

IsIdentity-prop : (id : IdCode) → IsProp (IsIdentity id)
IsIdentity-prop id x y = λ i. record { width = le_prop x.width y.width i; odd = number_eq-prop _ _ x.odd y.odd i }

IsGoodRegister-prop : (r : RegDesc) → IsProp (IsGoodRegister r)
IsGoodRegister-prop r x y = λ i. record {
  named = IsUpperName-prop r.name x.named y.named i;
  some = le_prop x.some y.some i;
  limit = le_prop x.limit y.limit i;
  constant_length = ForSome-prop r.constant _ (λ bits. number_eq-prop _ _) x.constant_length y.constant_length i;
}

AreGoodRegisters-prop : (rs : List RegDesc) → IsProp (AreGoodRegisters rs)
AreGoodRegisters-prop rs x y = λ i. record {
  some = le_prop x.some y.some i;
  limit = le_prop x.limit y.limit i;
  each = All-prop IsGoodRegister rs IsGoodRegister-prop x.each y.each i;
  names_apart = AllPairs-prop ◌≢◌ _ apart-prop x.names_apart y.names_apart i;
}

IsGoodFlash-prop : (f : FlashDesc) → IsProp (IsGoodFlash f)
IsGoodFlash-prop f x y = λ i. record {
  some_words = le_prop x.some_words y.some_words i;
  most_words = le_prop x.most_words y.most_words i;
  some_width = le_prop x.some_width y.some_width i;
  most_width = le_prop x.most_width y.most_width i;
  most_busy = le_prop x.most_busy y.most_busy i;
}

no_registers-prop : (d : Desc) → IsProp (d.registers ≡ [])
no_registers-prop d = Coded-set (coded_list coded_register) d.registers []

no_flash-prop : (d : Desc) → IsProp (d.flash ≡ None)
no_flash-prop d = Coded-set (coded_option coded_memory) d.flash None

HasPartsOf-prop : (k : Kind) (d : Desc) → IsProp (HasPartsOf k d)
HasPartsOf-prop Plain d = ×_prop (no_registers-prop d) (no_flash-prop d)
HasPartsOf-prop Regs d = ×_prop (AreGoodRegisters-prop d.registers) (no_flash-prop d)
HasPartsOf-prop Flash d = ×_prop (no_registers-prop d) (IsSomeAnd-prop d.flash IsGoodFlash IsGoodFlash-prop)

IsGood-prop : (d : Desc) → IsProp (IsGood d)
IsGood-prop d x y = λ i. record {
  named = IsUpperName-prop d.name x.named y.named i;
  shortest = le_prop x.shortest y.shortest i;
  longest = le_prop x.longest y.longest i;
  identity = ForSome-prop d.id IsIdentity IsIdentity-prop x.identity y.identity i;
  opcodes = All-prop (IsOpcode d.ir_len) _ (λ op. le_prop) x.opcodes y.opcodes i;
  opcodes_apart = AllPairs-prop ◌≢◌ _ apart-prop x.opcodes_apart y.opcodes_apart i;
  parts = HasPartsOf-prop d.kind d x.parts y.parts i;
}

IsSound-prop : (c : Card) → IsProp (IsSound c)
IsSound-prop c x y = λ i. record {
  good = IsGood-prop c.desc x.good y.good i;
  instruction_width = le_prop x.instruction_width y.instruction_width i;
  ir_length = number_eq-prop _ _ x.ir_length y.ir_length i;
  dr_length = →_prop (number_eq-prop _ _) x.dr_length y.dr_length i;
  dr_some = →_prop le_prop x.dr_some y.dr_some i;
  cell_count_and_lengths = Coded-set (coded_list coded_ℕ) _ _ x.cell_count_and_lengths y.cell_count_and_lengths i;
  busy_limit = le_prop x.busy_limit y.busy_limit i;
}

-- kinds are coded as numbers, so equations of them are propositions
coded_kind : Coded Kind
coded_kind =
    code_by ℕ coded_ℕ (elim [ Plain ↦ 0 | Regs ↦ 1 | Flash ↦ 2 ])
    (λ n. if n == 0 then Plain else if n == 1 then Regs else Flash)
    (elim [ Plain ↦ refl | Regs ↦ refl | Flash ↦ refl ])

-- a device is fitted in one way, so a struct may keep the fact that it is
pub IsFitted-prop : (own : Kind) (longest : ℕ) (k : Logic) (r : RegisterContents) → IsProp (IsFitted own longest k r)
IsFitted-prop own longest k r x y = λ i. record {
  kind = Coded-set coded_kind _ _ x.kind y.kind i;
  flash = Coded-set (coded_option coded_memory) _ _ x.flash y.flash i;
  room = le_prop x.room y.room i;
  sound = IsSound-prop (card_with k r) x.sound y.sound i;
}
