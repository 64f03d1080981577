-- The smallest reason against what a line says.
use Rattle.std.proofs.Common.{◌≡◌, ◌<◌, ◌≤◌, ℕ, zero, suc, List, refl, sym, subst, ◌∙◌, Bool, true, false, Option, Some, IsSomeAnd, All, length, arith}
use Rattle.std.specs.Prelude.{cond, ◌==◌}
use Rattle.std.proofs.lemmas.Bool.{false≢true}
use Rattle.dev_card.specs.Board.{most_devices}
use Rattle.dev_card.specs.declared.desc.Desc.{Desc}
use Rattle.dev_card.specs.Descriptions.{IsOpcode, opcodes_of}
use Rattle.board_text.specs.declared.reason.BoardReason.{BoardReason}
use Rattle.board_text.specs.declared.reason.BoardReason.TheVariants as reasons
use Rattle.board_text.specs.Reasons.{reason_number}
use Rattle.board_text.specs.Contents.{DeviceLine, RegisterLine, device, register}
use Rattle.board_text.specs.Limits.{HasGoodNumbers, IsDeviceInRange, HasGoodLength, IsRegisterInRange}
use Rattle.board_text.specs.Boards.{most_registers, open_device, AwaitsRegister, RepeatsInBoard, RepeatsInDevice, ReasonAgainst, IsSmallest}

-- a reason that holds, where no reason with a smaller number does
record HoldNoSmaller (Holds : BoardReason → Type 0) (n : ℕ) : Type 0 where
  form : Holds reasons.Form → n ≤ 1
  range : Holds reasons.Range → n ≤ 2
  duplicate : Holds reasons.Duplicate → n ≤ 3
  misplaced : Holds reasons.Misplaced → n ≤ 4
  empty : Holds reasons.Empty → n ≤ 5
  too_many : Holds reasons.TooMany → n ≤ 6
  too_long : Holds reasons.TooLong → n ≤ 7

least : (Holds : BoardReason → Type 0) (reason other : BoardReason) → HoldNoSmaller Holds (reason_number reason) → Holds other → reason_number reason ≤ reason_number other
least Holds reason reasons.Form none h = none.form h
least Holds reason reasons.Range none h = none.range h
least Holds reason reasons.Duplicate none h = none.duplicate h
least Holds reason reasons.Misplaced none h = none.misplaced h
least Holds reason reasons.Empty none h = none.empty h
least Holds reason reasons.TooMany none h = none.too_many h
least Holds reason reasons.TooLong none h = none.too_long h

smallest : (Holds : BoardReason → Type 0) (reason : BoardReason) → Holds reason → HoldNoSmaller Holds (reason_number reason) → IsSmallest Holds reason
smallest Holds reason holds none = record { holds = holds; smallest = λ other h. least Holds reason other none h }

-- the reasons against a device's line
abbrev AgainstDevice : List Desc → DeviceLine → BoardReason → Type 0
AgainstDevice earlier l = ReasonAgainst earlier (Some (device l))

pub device_range : (earlier : List Desc) (l : DeviceLine) → (IsDeviceInRange l → ⊥) → IsSmallest (AgainstDevice earlier l) reasons.Range
device_range earlier l bad = smallest (AgainstDevice earlier l) reasons.Range bad (record {
  form = λ h. absurd cc;
  range = λ _. omega arith;
  duplicate = λ _. omega arith;
  misplaced = λ h. absurd h;
  empty = λ _. omega arith;
  too_many = λ _. omega arith;
  too_long = λ h. absurd h;
})

pub device_duplicate : (earlier : List Desc) (l : DeviceLine) → IsDeviceInRange l → RepeatsInBoard earlier l.description → IsSmallest (AgainstDevice earlier l) reasons.Duplicate
device_duplicate earlier l good repeats = smallest (AgainstDevice earlier l) reasons.Duplicate repeats (record {
  form = λ h. absurd cc;
  range = λ h. absurd (h good);
  duplicate = λ _. omega arith;
  misplaced = λ h. absurd h;
  empty = λ _. omega arith;
  too_many = λ _. omega arith;
  too_long = λ h. absurd h;
})

pub device_empty : (earlier : List Desc) (l : DeviceLine) → IsDeviceInRange l → (RepeatsInBoard earlier l.description → ⊥) → AwaitsRegister earlier →
    IsSmallest (AgainstDevice earlier l) reasons.Empty
device_empty earlier l good new awaits = smallest (AgainstDevice earlier l) reasons.Empty awaits (record {
  form = λ h. absurd cc;
  range = λ h. absurd (h good);
  duplicate = λ h. absurd (new h);
  misplaced = λ h. absurd h;
  empty = λ _. omega arith;
  too_many = λ _. omega arith;
  too_long = λ h. absurd h;
})

pub device_many : (earlier : List Desc) (l : DeviceLine) → IsDeviceInRange l → (RepeatsInBoard earlier l.description → ⊥) → (AwaitsRegister earlier → ⊥) → most_devices ≤ length earlier →
    IsSmallest (AgainstDevice earlier l) reasons.TooMany
device_many earlier l good new whole many = smallest (AgainstDevice earlier l) reasons.TooMany many (record {
  form = λ h. absurd cc;
  range = λ h. absurd (h good);
  duplicate = λ h. absurd (new h);
  misplaced = λ h. absurd h;
  empty = λ h. absurd (whole h);
  too_many = λ _. omega arith;
  too_long = λ h. absurd h;
})

pub device_faultless : (earlier : List Desc) (l : DeviceLine) → IsDeviceInRange l → (RepeatsInBoard earlier l.description → ⊥) → (AwaitsRegister earlier → ⊥) → length earlier < most_devices →
    (reason : BoardReason) → AgainstDevice earlier l reason → ⊥
device_faultless earlier l good new whole few reasons.Form h = cc
device_faultless earlier l good new whole few reasons.Range h = h good
device_faultless earlier l good new whole few reasons.Duplicate h = new h
device_faultless earlier l good new whole few reasons.Misplaced h = h
device_faultless earlier l good new whole few reasons.Empty h = whole h
device_faultless earlier l good new whole few reasons.TooMany h = omega arith
device_faultless earlier l good new whole few reasons.TooLong h = h

-- the reasons against a register's line, where a device is open
abbrev AgainstRegister : List Desc → RegisterLine → BoardReason → Type 0
AgainstRegister earlier l = ReasonAgainst earlier (Some (register l))

at_owner : (o : Option Desc) (P : Desc → Type 0) (d : Desc) → o ≡ Some d → IsSomeAnd o P → P d
at_owner o P d e h = subst (λ (x : Option Desc). IsSomeAnd x P) e h

pub owner_and : (o : Option Desc) (P : Desc → Type 0) (d : Desc) → o ≡ Some d → P d → IsSomeAnd o P
owner_and o P d e h = subst (λ (x : Option Desc). IsSomeAnd x P) (sym e) h

pub owned_in_range : (o : Option Desc) (l : RegisterLine) (d : Desc) → o ≡ Some d → HasGoodLength l → IsOpcode d.ir_len l.description.op → IsRegisterInRange o l
owned_in_range o l d e good op = record {
  numbers = good;
  opcode = λ x x_is. let same : d ≡ x = cc in subst (λ (y : Desc). IsOpcode y.ir_len l.description.op) same op;
}

pub register_many : (earlier : List Desc) (l : RegisterLine) (d : Desc) → open_device earlier ≡ Some d → HasGoodLength l → IsOpcode d.ir_len l.description.op →
    (RepeatsInDevice l.description d → ⊥) → most_registers ≤ length d.registers → IsSmallest (AgainstRegister earlier l) reasons.TooMany
register_many earlier l d e good op new many =
    smallest (AgainstRegister earlier l) reasons.TooMany (owner_and (open_device earlier) (λ (x : Desc). most_registers ≤ length x.registers) d e many) (record {
      form = λ h. absurd cc;
      range = λ h. absurd (h (owned_in_range _ l d e good op));
      duplicate = λ h. absurd (new (at_owner _ (RepeatsInDevice l.description) d e h));
      misplaced = λ h. absurd cc;
      empty = λ h. absurd h;
      too_many = λ _. omega arith;
      too_long = λ h. absurd h;
    })

pub register_faultless : (earlier : List Desc) (l : RegisterLine) (d : Desc) → open_device earlier ≡ Some d → HasGoodLength l → IsOpcode d.ir_len l.description.op →
    (RepeatsInDevice l.description d → ⊥) → length d.registers < most_registers → (reason : BoardReason) → AgainstRegister earlier l reason → ⊥
register_faultless earlier l d e good op new few reasons.Form h = cc
register_faultless earlier l d e good op new few reasons.Range h = h (owned_in_range _ l d e good op)
register_faultless earlier l d e good op new few reasons.Duplicate h = new (at_owner _ (RepeatsInDevice l.description) d e h)
register_faultless earlier l d e good op new few reasons.Misplaced h = cc
register_faultless earlier l d e good op new few reasons.Empty h = h
register_faultless earlier l d e good op new few reasons.TooMany h = omega (arith, at_owner _ (λ (x : Desc). most_registers ≤ length x.registers) d e h)
register_faultless earlier l d e good op new few reasons.TooLong h = h

-- what the reader's tests say of a line
pub refuted : {P : Type 0} (b : Bool) → (P → b ≡ true) → b ≡ false → P → ⊥
refuted b f e p = false≢true (sym e ∙ f p)

pub opcodes_in_range : (l : DeviceLine) (d : Desc) (ops opcodes : List ℕ) → d ≡ l.description → ops ≡ opcodes → opcodes ≡ opcodes_of d → HasGoodNumbers l → All (IsOpcode d.ir_len) ops →
    IsDeviceInRange l
opcodes_in_range l d ops opcodes d_is same named good all =
    record { numbers = good; opcodes = subst (λ (x : Desc). All (IsOpcode x.ir_len) (opcodes_of x)) d_is (subst (All (IsOpcode d.ir_len)) (same ∙ named) all) }

pub in_range_opcodes : (l : DeviceLine) (d : Desc) (ops opcodes : List ℕ) → d ≡ l.description → ops ≡ opcodes → opcodes ≡ opcodes_of d → IsDeviceInRange l → All (IsOpcode d.ir_len) ops
in_range_opcodes l d ops opcodes d_is same named good =
    subst (All (IsOpcode d.ir_len)) (sym (same ∙ named)) (subst (λ (x : Desc). All (IsOpcode x.ir_len) (opcodes_of x)) (sym d_is) good.opcodes)

pub repeats_there : (xs ys : List Desc) (d e : Desc) → xs ≡ ys → d ≡ e → RepeatsInBoard xs d → RepeatsInBoard ys e
repeats_there xs ys d e p q h = subst (λ (x : Desc). RepeatsInBoard ys x) q (subst (λ (zs : List Desc). RepeatsInBoard zs d) p h)

pub awaits_there : (xs ys : List Desc) → xs ≡ ys → AwaitsRegister xs → AwaitsRegister ys
awaits_there xs ys p h = subst AwaitsRegister p h

-- a reason is told by its number
pub reason_with : ℕ → BoardReason
reason_with n =
    cond (n == 1) reasons.Form (cond (n == 2) reasons.Range (cond (n == 3) reasons.Duplicate
    (cond (n == 4) reasons.Misplaced (cond (n == 5) reasons.Empty (cond (n == 6) reasons.TooMany reasons.TooLong)))))

pub told : (reason : BoardReason) → reason_with (reason_number reason) ≡ reason
unfolding reason_with
told reasons.Form = refl
told reasons.Range = refl
told reasons.Duplicate = refl
told reasons.Misplaced = refl
told reasons.Empty = refl
told reasons.TooMany = refl
told reasons.TooLong = refl

pub number_with : (n : ℕ) → n < 7 → reason_number (reason_with (suc n)) ≡ suc n
unfolding reason_with
number_with zero lt = refl
number_with (suc zero) lt = refl
number_with (suc (suc zero)) lt = refl
number_with (suc (suc (suc zero))) lt = refl
number_with (suc (suc (suc (suc zero)))) lt = refl
number_with (suc (suc (suc (suc (suc zero))))) lt = refl
number_with (suc (suc (suc (suc (suc (suc zero)))))) lt = refl
number_with (suc (suc (suc (suc (suc (suc (suc n))))))) lt = absurd (omega arith)
