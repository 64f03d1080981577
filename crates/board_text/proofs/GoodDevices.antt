-- What a faultless line describes is good, but for the registers that a Regs has still to get.
use Rattle.std.proofs.Common.{◌≡◌, ◌≢◌, ◌<◌, ◌≤◌, ◌^◌, ◌++◌, ℕ, List, [], ◌∷◌, length, take, map, get_or, refl, sym, ap, subst, ◌∙◌, append_assoc, Bool, true, false, Option, Some, None, IsSomeAnd, All, arith, inl, inr}
use Rattle.std.specs.Prelude.{AllPairs, ◌==◌}
use Rattle.std.specs.Option.{ForSome, option_map}
use Rattle.std.specs.Str.Parse.{digits_value}
use Rattle.std.proofs.lemmas.Bool.{and_parts, eqb-true}
use Rattle.std.proofs.lemmas.List.{append-nil, length-append, length-take-le, map-append, get_or-map, get_or_default, length-map}
use Rattle.std.proofs.lemmas.List.Elements.{All-nil, All-push}
use Rattle.std.proofs.lemmas.List.Quantifiers.{all_pairs_push}
use Rattle.stapl_lexer.specs.Names.{IsUpperName}
use Rattle.stapl_lexer.proofs.NameLemmas.{upper_name}
use Rattle.bit_list.specs.Digits.{bits_of_hex}
use Rattle.dev_card.specs.declared.desc.Kind.{Kind}
use Rattle.dev_card.specs.declared.desc.Kind.TheVariants as kinds
use Rattle.dev_card.specs.declared.desc.IdCode.{IdCode}
use Rattle.dev_card.specs.declared.desc.RegDesc.{RegDesc}
use Rattle.dev_card.specs.declared.desc.FlashDesc.{FlashDesc}
use Rattle.dev_card.specs.declared.desc.Desc.{Desc}
use Rattle.dev_card.specs.Descriptions.{IsOpcode, IsIdentity, IsGoodRegister, IsGoodFlash, HasPartsOf, IsGood, identity_opcodes, flash_opcodes, opcodes_of}
use Rattle.board_text.specs.declared.shapes.Shape.TheVariants as shapes
use Rattle.board_text.specs.Shapes.{is_identity_word, fits, places_of}
use Rattle.board_text.specs.Contents.{word, identity_of, last_words, flash_of, fill_of, device_line, constant_bits, register_line}
use Rattle.board_text.specs.Limits.{IsMemoryInRange, IsDeviceInRange, IsConstant, HasGoodLength}
use Rattle.board_text.specs.Boards.{with_register, RepeatsInDevice}
use Rattle.board_text.proofs.NumberWords.{hexadecimal_lt}
use Rattle.board_text.proofs.FieldLemmas.{device_name, device_identity, register_word}
use Rattle.board_text.proofs.ConstantLemmas.{enough_bits}

-- the registers of a Regs whose lines are perhaps not all read
pub record AreBegunRegisters (registers : List RegDesc) : Type 0 where
  pub limit : length registers ≤ 64
  pub each : All IsGoodRegister registers
  pub names_apart : AllPairs ◌≢◌ (map (λ (r : RegDesc). r.name) registers)

abbrev pub HasBegunParts : Kind → Desc → Type 0
HasBegunParts kinds.Plain d = (d.registers ≡ []) × (d.flash ≡ None)
HasBegunParts kinds.Regs d = AreBegunRegisters d.registers × (d.flash ≡ None)
HasBegunParts kinds.Flash d = (d.registers ≡ []) × IsSomeAnd d.flash IsGoodFlash

-- a good device, or a Regs that is good once it has a register
pub record IsBegun (d : Desc) : Type 0 where
  pub named : IsUpperName d.name
  pub shortest : 2 ≤ d.ir_len
  pub longest : d.ir_len ≤ 64
  pub identity : ForSome d.id IsIdentity
  pub opcodes : All (IsOpcode d.ir_len) (opcodes_of d)
  pub opcodes_apart : AllPairs ◌≢◌ (opcodes_of d)
  pub parts : HasBegunParts d.kind d

abbrev pub HasRegisters : Desc → Type 0
HasRegisters d = d.kind ≡ kinds.Regs → 1 ≤ length d.registers

begun_parts : (kind : Kind) (d : Desc) → HasBegunParts kind d → (kind ≡ kinds.Regs → 1 ≤ length d.registers) → HasPartsOf kind d
begun_parts kinds.Plain d parts has = parts
begun_parts kinds.Regs d parts has =
    let registers = parts.0 in
    (record { some = has refl; limit = registers.limit; each = registers.each; names_apart = registers.names_apart }, parts.1)
begun_parts kinds.Flash d parts has = parts

pub begun_good : (d : Desc) → IsBegun d → HasRegisters d → IsGood d
begun_good d b has = record {
  named = b.named;
  shortest = b.shortest;
  longest = b.longest;
  identity = b.identity;
  opcodes = b.opcodes;
  opcodes_apart = b.opcodes_apart;
  parts = begun_parts d.kind d b.parts has;
}

-- the device of a line
identity_width : (w : List ℕ) → is_identity_word w ≡ true → digits_value 16 w < 2 ^ 32
identity_width w e =
    let value : digits_value 16 w < 16 ^ length w = hexadecimal_lt w (and_parts (length w == 8) _ e).1 in
    let eight : 16 ^ length w ≡ 16 ^ 8 = ap (λ (n : ℕ). 16 ^ n) (eqb-true _ _ (and_parts (length w == 8) _ e).0) in
    omega arith

line_identity : (identified : Bool) (ws : List (List ℕ)) → (identified ≡ true → is_identity_word (word ws 4) ≡ true) → (id : IdCode) → identity_of identified ws ≡ Some id → id.value < 2 ^ 32
line_identity true ws spelled id e =
    let value : digits_value 16 (word ws 4) < 2 ^ 32 = identity_width (word ws 4) (spelled refl) in
    let same : Some (digits_value 16 (word ws 4)) ≡ Some id.value = ap (option_map (λ (i : IdCode). i.value)) e in
    let is : digits_value 16 (word ws 4) ≡ id.value = cc in
    omega arith
line_identity false ws spelled id e = absurd cc

line_parts : (kind : Kind) (identified : Bool) (ws : List (List ℕ)) →
    ForSome (flash_of kind (last_words identified ws)) (λ (f : FlashDesc). IsMemoryInRange f (fill_of kind (last_words identified ws))) →
    HasBegunParts kind ((device_line kind identified ws).description)
line_parts kinds.Plain identified ws memory = (refl, refl)
line_parts kinds.Regs identified ws memory =
    (record { limit = omega arith; each = All-nil IsGoodRegister; names_apart = λ i j d lt inside. absurd (omega arith) }, refl)
line_parts kinds.Flash identified ws memory = (refl, (memory _ refl).good)

pub device_begun : (kind : Kind) (identified : Bool) (ws : List (List ℕ)) → fits (places_of (shapes.Device kind identified)) ws ≡ true → IsDeviceInRange (device_line kind identified ws) →
    AllPairs ◌≢◌ (opcodes_of ((device_line kind identified ws).description)) → IsBegun ((device_line kind identified ws).description)
device_begun kind identified ws shape good apart =
    let numbers = good.numbers in
    record {
      named = upper_name (word ws 1) (device_name kind identified ws shape);
      shortest = numbers.shortest;
      longest = numbers.longest;
      identity = λ id e. record { width = line_identity identified ws (device_identity kind identified ws shape) id e; odd = numbers.identity id e };
      opcodes = good.opcodes;
      opcodes_apart = apart;
      parts = line_parts kind identified ws numbers.memory;
    }

-- the register of a line
line_constant : (len : ℕ) (digits : Option (List ℕ)) → ForSome digits (IsConstant len) → ForSome (option_map (constant_bits len) digits) (λ (bits : List Bool). length bits ≡ len)
line_constant len None good bits e = absurd cc
line_constant len (Some ds) good bits e =
    let same : take len (bits_of_hex ds) ≡ bits = cc in
    sym (ap length same) ∙ length-take-le len (bits_of_hex ds) (enough_bits ds len (good ds refl))

pub register_good : (constant : Bool) (ws : List (List ℕ)) → fits (places_of (shapes.Register constant)) ws ≡ true → HasGoodLength (register_line constant ws) →
    IsGoodRegister ((register_line constant ws).description)
register_good constant ws shape good = record {
  named = upper_name (word ws 1) (register_word constant ws 1 shape (omega arith));
  some = good.some;
  limit = good.limit;
  constant_length = line_constant _ _ good.constant;
}

-- one more register
more_opcodes : (d : Desc) (r : RegDesc) → d.flash ≡ None → opcodes_of (with_register r d) ≡ opcodes_of d ++ r.op ∷ []
more_opcodes d r none =
    let ids : List ℕ = identity_opcodes d.id in
    let ops : List RegDesc → List ℕ = map (λ (x : RegDesc). x.op) in
    let old : opcodes_of d ≡ ids ++ ops d.registers = ap (λ (f : Option FlashDesc). ids ++ ops d.registers ++ flash_opcodes f) none ∙ append-nil (ids ++ ops d.registers) in
    let new : opcodes_of (with_register r d) ≡ ids ++ ops (d.registers ++ r ∷ []) =
    ap (λ (f : Option FlashDesc). ids ++ ops (d.registers ++ r ∷ []) ++ flash_opcodes f) none ∙ append-nil (ids ++ ops (d.registers ++ r ∷ [])) in
    new ∙ ap (λ (x : List ℕ). ids ++ x) (map-append (λ (x : RegDesc). x.op) d.registers (r ∷ [])) ∙ sym (append_assoc ids (ops d.registers) (r.op ∷ []))
    ∙ ap (λ (x : List ℕ). x ++ r.op ∷ []) (sym old)

more_registers : (d : Desc) (r : RegDesc) → AreBegunRegisters d.registers → IsGoodRegister r → (RepeatsInDevice r d → ⊥) → length d.registers < 64 → AreBegunRegisters (d.registers ++ r ∷ [])
more_registers d r old good new few =
    let names : List RegDesc → List (List ℕ) = map (λ (x : RegDesc). x.name) in
    record {
      limit = omega (arith, length-append d.registers (r ∷ []));
      each = All-push IsGoodRegister d.registers r old.each good;
      names_apart = subst (AllPairs ◌≢◌) (sym (map-append (λ (x : RegDesc). x.name) d.registers (r ∷ [])))
          (all_pairs_push ◌≢◌ (names d.registers) r.name old.names_apart (λ k e lt same.
          let inside : k < length d.registers = omega (arith, length-map d.registers (λ (x : RegDesc). x.name)) in
          new (inl (k, get_or d.registers k r, inside, get_or_default d.registers k (get_or d.registers k r) r inside, sym (get_or-map (λ (x : RegDesc). x.name) d.registers k r e inside) ∙ same))));
    }

pub register_begun : (d : Desc) (r : RegDesc) → IsBegun d → d.kind ≡ kinds.Regs → IsGoodRegister r → IsOpcode d.ir_len r.op → (RepeatsInDevice r d → ⊥) → length d.registers < 64 →
    IsBegun (with_register r d)
register_begun d r b kind_is good op new few =
    let parts : HasBegunParts kinds.Regs d = subst (λ (k : Kind). HasBegunParts k d) kind_is b.parts in
    let ops : opcodes_of (with_register r d) ≡ opcodes_of d ++ r.op ∷ [] = more_opcodes d r parts.1 in
    record {
      named = b.named;
      shortest = b.shortest;
      longest = b.longest;
      identity = b.identity;
      opcodes = subst (All (IsOpcode d.ir_len)) (sym ops) (All-push (IsOpcode d.ir_len) (opcodes_of d) r.op b.opcodes op);
      opcodes_apart = subst (AllPairs ◌≢◌) (sym ops)
          (all_pairs_push ◌≢◌ (opcodes_of d) r.op b.opcodes_apart (λ k e lt same. new (inr (k, lt, get_or_default (opcodes_of d) k r.op e lt ∙ same))));
      parts = subst (λ (k : Kind). HasBegunParts k (with_register r d)) (sym kind_is) (more_registers d r parts.0 good new few, parts.1);
    }
