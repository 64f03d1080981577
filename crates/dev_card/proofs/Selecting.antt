-- What an opcode selects on a device of a good description, and the lengths of what it captures and updates.
use Rattle.std.proofs.Common.{◌≡◌, ◌≤◌, ◌<◌, ◌+◌, ◌-◌, ℕ, suc, zero, Bool, true, false, cond, eqb, All, List, [], ◌∷◌, length, drop, replicate, get_or, set, map, Option, Some, None, refl, sym, ap, ◌∙◌, arith}
use Rattle.std.specs.Prelude.{IsSomeAnd}
use Rattle.std.specs.Option.{ForSome}
use Rattle.std.proofs.lemmas.List.{length-replicate, drop-map}
use Rattle.std.proofs.lemmas.List.Elements.{All-head, All-tail}
use Rattle.std.proofs.Math.ListN.{get_or-map}
use Rattle.std.proofs.Math.Seq.{map-set_same}
use Rattle.base.proofs.NumberBits.{length-low_bits}
use Rattle.dev_card.specs.declared.desc.Kind.{Kind}
use Rattle.dev_card.specs.declared.desc.Kind.TheVariants.{Plain, Regs, Flash}
use Rattle.dev_card.specs.declared.desc.IdCode.{IdCode}
use Rattle.dev_card.specs.declared.desc.RegDesc.{RegDesc}
use Rattle.dev_card.specs.declared.desc.FlashDesc.{FlashDesc}
use Rattle.dev_card.specs.declared.desc.Desc.{Desc}
use Rattle.dev_card.specs.Descriptions.{IsGood, IsGoodRegister, IsGoodFlash, HasPartsOf}
use Rattle.dev_card.specs.Card.{Card, Selected, bypass, identity_code, held_register, flash_address, flash_erase, flash_program, flash_read, register_with, flash_register_with, kind_selects, identity_or_kind, selected, selected_length, captured, constant_or, cell_of, words_of, address_of, address_bits, addressed_word, and_bits, is_busy, erases, next_address, updated_cells, updated_busy}
use Rattle.dev_card.specs.Sound.{flash_cell_lengths, cell_lengths, flash_busy, most_busy}

-- a register of a device whose cells have these lengths
pub record HasCell (lengths : List ℕ) (k : ℕ) (r : RegDesc) : Type 0 where
  pub cell_length : get_or lengths k 0 ≡ r.len
  pub good : IsGoodRegister r

-- a memory of a device whose cells have these lengths, with this greatest busy count
pub record HasMemory (lengths : List ℕ) (busy : ℕ) (f : FlashDesc) : Type 0 where
  pub all_lengths : lengths ≡ address_bits ∷ replicate f.words f.width
  pub busy_count : f.busy ≤ busy
  pub good : IsGoodFlash f

-- what a search finds
abbrev pub IsFound : List ℕ → ℕ → Selected → Type 0
IsFound lengths busy bypass = Unit {0}
IsFound lengths busy (identity_code v) = Unit {0}
IsFound lengths busy (held_register k r) = HasCell lengths k r
IsFound lengths busy (flash_address f) = HasMemory lengths busy f
IsFound lengths busy (flash_erase f) = HasMemory lengths busy f
IsFound lengths busy (flash_program f) = HasMemory lengths busy f
IsFound lengths busy (flash_read f) = HasMemory lengths busy f

pick : (lengths : List ℕ) (busy : ℕ) (b : Bool) (x y : Selected) → IsFound lengths busy x → IsFound lengths busy y → IsFound lengths busy (cond b x y)
pick lengths busy true x y f g = f
pick lengths busy false x y f g = g

-- what a search in registers from place i on finds
abbrev IsFoundFrom : List RegDesc → ℕ → Selected → Type 0
IsFoundFrom rs i (held_register k r) = (j : ℕ) × ((k ≡ i + j) × HasCell (map (λ (x : RegDesc). x.len) rs) j r)
IsFoundFrom rs i (flash_address f) = ⊥
IsFoundFrom rs i (flash_erase f) = ⊥
IsFoundFrom rs i (flash_program f) = ⊥
IsFoundFrom rs i (flash_read f) = ⊥
IsFoundFrom rs i _ = Unit {0}

pick_from : (rs : List RegDesc) (i : ℕ) (b : Bool) (x y : Selected) → IsFoundFrom rs i x → IsFoundFrom rs i y → IsFoundFrom rs i (cond b x y)
pick_from rs i true x y f g = f
pick_from rs i false x y f g = g

next_place : (i j : ℕ) → (i + 1) + j ≡ i + suc j
next_place i j = omega arith

first_place : (i : ℕ) → i ≡ i + 0
first_place i = omega arith

later : (r : RegDesc) (rs : List RegDesc) (i : ℕ) (s : Selected) → IsFoundFrom rs (i + 1) s → IsFoundFrom (r ∷ rs) i s
later r rs i bypass f = tt
later r rs i (identity_code v) f = tt
later r rs i (held_register k s) f = (suc f.0, (f.1.0 ∙ next_place i f.0, record { cell_length = f.1.1.cell_length; good = f.1.1.good }))
later r rs i (flash_address s) f = f
later r rs i (flash_erase s) f = f
later r rs i (flash_program s) f = f
later r rs i (flash_read s) f = f

found_from : (rs : List RegDesc) (op i : ℕ) → All IsGoodRegister rs → IsFoundFrom rs i (register_with rs op i)
found_from [] op i h = tt
found_from (r ∷ rs) op i h =
    pick_from (r ∷ rs) i (eqb r.op op) (held_register i r) (register_with rs op (i + 1)) (0, (first_place i, record { cell_length = refl; good = All-head IsGoodRegister r rs h }))
    (later r rs i (register_with rs op (i + 1)) (found_from rs op (i + 1) (All-tail IsGoodRegister r rs h)))

no_offset : (j k : ℕ) → k ≡ 0 + j → k ≡ j
no_offset j k e = omega arith

found_at_last : (rs : List RegDesc) (busy : ℕ) (s : Selected) → IsFoundFrom rs 0 s → IsFound (map (λ (x : RegDesc). x.len) rs) busy s
found_at_last rs busy bypass f = tt
found_at_last rs busy (identity_code v) f = tt
found_at_last rs busy (held_register k r) f =
    record { cell_length = ap (λ j. get_or (map (λ (x : RegDesc). x.len) rs) j 0) (no_offset f.0 k f.1.0) ∙ f.1.1.cell_length; good = f.1.1.good }
found_at_last rs busy (flash_address g) f = absurd f
found_at_last rs busy (flash_erase g) f = absurd f
found_at_last rs busy (flash_program g) f = absurd f
found_at_last rs busy (flash_read g) f = absurd f

found_memory : (o : Option FlashDesc) (op : ℕ) → IsSomeAnd o IsGoodFlash → IsFound (flash_cell_lengths o) (flash_busy o) (flash_register_with o op)
found_memory None op h = absurd h
found_memory (Some f) op h =
    let ls : List ℕ = flash_cell_lengths (Some f) in
    let m : HasMemory ls f.busy f = record { all_lengths = refl; busy_count = omega arith; good = h } in
    let by_read : IsFound ls f.busy (cond (eqb f.read op) (flash_read f) bypass) = pick ls f.busy (eqb f.read op) (flash_read f) bypass m tt in
    let by_program : IsFound ls f.busy (cond (eqb f.prog op) (flash_program f) (cond (eqb f.read op) (flash_read f) bypass)) =
    pick ls f.busy (eqb f.prog op) (flash_program f) (cond (eqb f.read op) (flash_read f) bypass) m by_read in
    pick ls f.busy (eqb f.addr op) (flash_address f) _ m (pick ls f.busy (eqb f.erase op) (flash_erase f) _ m by_program)

found_kind : (kind : Kind) (d : Desc) (op : ℕ) → HasPartsOf kind d → IsFound (cell_lengths kind d) (most_busy kind d) (kind_selects kind d op)
found_kind Plain d op h = tt
found_kind Regs d op h = found_at_last d.registers 0 (register_with d.registers op 0) (found_from d.registers op 0 h.0.each)
found_kind Flash d op h = found_memory d.flash op h.1

found_identity : (id : Option IdCode) (d : Desc) (op : ℕ) → IsGood d → IsFound (cell_lengths d.kind d) (most_busy d.kind d) (identity_or_kind id d op)
found_identity None d op g = found_kind d.kind d op g.parts
found_identity (Some i) d op g = pick (cell_lengths d.kind d) (most_busy d.kind d) (eqb i.op op) (identity_code i.value) (kind_selects d.kind d op) tt (found_kind d.kind d op g.parts)

-- what a card of a good description has selected
pub found_selected : (c : Card) → IsGood c.desc → IsFound (cell_lengths c.desc.kind c.desc) (most_busy c.desc.kind c.desc) (selected c)
found_selected c g = found_identity c.desc.id c.desc c.instruction g

-- a selected register has at least one bit
pub selected_some : (lengths : List ℕ) (busy : ℕ) (s : Selected) → IsFound lengths busy s → 0 < selected_length s
selected_some lengths busy bypass f = omega arith
selected_some lengths busy (identity_code v) f = omega arith
selected_some lengths busy (held_register k r) f = f.good.some
selected_some lengths busy (flash_address f) m = omega arith
selected_some lengths busy (flash_erase f) m = omega arith
selected_some lengths busy (flash_program f) m = m.good.some_width
selected_some lengths busy (flash_read f) m = m.good.some_width

-- lists
map-replicate : (n : ℕ) (x : List Bool) → map length (replicate n x) ≡ replicate n (length x)
map-replicate zero x = refl
map-replicate (suc n) x = ap (λ t. length x ∷ t) (map-replicate n x)

get_or-replicate_same : (n i w : ℕ) → get_or (replicate n w) i w ≡ w
get_or-replicate_same zero i w = refl
get_or-replicate_same (suc n) zero w = refl
get_or-replicate_same (suc n) (suc i) w = get_or-replicate_same n i w

length-and_bits : (xs ys : List Bool) → length xs ≡ length ys → length (and_bits xs ys) ≡ length xs
length-and_bits [] ys e = refl
length-and_bits (x ∷ xs) [] e = absurd (omega arith)
length-and_bits (x ∷ xs) (y ∷ ys) e = ap suc (length-and_bits xs ys (omega arith))

suc_pred : (n : ℕ) → 1 ≤ n → suc (n - 1) ≡ n
suc_pred n h = omega arith

pub bit_and_zeros : (n : ℕ) (b : Bool) → 1 ≤ n → length (b ∷ replicate (n - 1) false) ≡ n
bit_and_zeros n b h = ap suc (length-replicate (n - 1) false) ∙ suc_pred n h

constant_length : (n : ℕ) (o : Option (List Bool)) (held : List Bool) → ForSome o (λ bits. length bits ≡ n) → length held ≡ n → length (constant_or o held) ≡ n
constant_length n None held f e = e
constant_length n (Some bits) held f e = f bits refl

module _ (c : Card) (lengths : List ℕ) (busy : ℕ) (cells : map length c.cells ≡ lengths) where
  cell_length : (k n : ℕ) → get_or lengths k 0 ≡ n → length (cell_of c k) ≡ n
  cell_length k n e = sym (get_or-map length c.cells k []) ∙ ap (λ t. get_or t k 0) cells ∙ e

  word_lengths : (f : FlashDesc) → HasMemory lengths busy f → map length (words_of c) ≡ replicate f.words f.width
  word_lengths f m = sym (drop-map length 1 c.cells) ∙ ap (drop 1) (cells ∙ m.all_lengths)

  first_length : (f : FlashDesc) → HasMemory lengths busy f → length (cell_of c 0) ≡ address_bits
  first_length f m = cell_length 0 address_bits (ap (λ t. get_or t 0 0) m.all_lengths)

  word_length : (f : FlashDesc) → HasMemory lengths busy f → length (addressed_word f c) ≡ f.width
  word_length f m =
      let ones : List Bool = replicate f.width true in
      sym (get_or-map length (words_of c) (address_of c) ones) ∙ ap (λ t. get_or t (address_of c) (length ones)) (word_lengths f m)
      ∙ ap (get_or (replicate f.words f.width) (address_of c)) (length-replicate f.width true) ∙ get_or-replicate_same f.words (address_of c) f.width

  -- what is captured has the length of the selected register
  pub captured_length : (s : Selected) → IsFound lengths busy s → length (captured c s) ≡ selected_length s
  captured_length bypass f = refl
  captured_length (identity_code v) f = length-low_bits 32 v
  captured_length (held_register k r) f = constant_length r.len r.constant (cell_of c k) f.good.constant_length (cell_length k r.len f.cell_length)
  captured_length (flash_address f) m = first_length f m
  captured_length (flash_erase f) m = refl
  captured_length (flash_program f) m = bit_and_zeros f.width (is_busy c) m.good.some_width
  captured_length (flash_read f) m = word_length f m

  same_either : (b : Bool) (xs ys : List (List Bool)) → map length xs ≡ lengths → map length ys ≡ lengths → map length (cond b xs ys) ≡ lengths
  same_either true xs ys e g = e
  same_either false xs ys e g = g

  with_address : (f : FlashDesc) → HasMemory lengths busy f → (address : List Bool) (words : List (List Bool)) → length address ≡ address_bits
      → map length words ≡ replicate f.words f.width → map length (address ∷ words) ≡ lengths
  with_address f m address words a w = ap (λ t. t ∷ map length words) a ∙ ap (λ t. address_bits ∷ t) w ∙ sym m.all_lengths

  -- an update keeps the lengths of the cells
  pub updated_lengths : (s : Selected) (bits : List Bool) → IsFound lengths busy s → length bits ≡ selected_length s → map length (updated_cells c s bits) ≡ lengths
  updated_lengths bypass bits f e = cells
  updated_lengths (identity_code v) bits f e = cells
  updated_lengths (held_register k r) bits f e = map-set_same length c.cells k bits [] (e ∙ sym (cell_length k r.len f.cell_length)) ∙ cells
  updated_lengths (flash_address f) bits m e = with_address f m bits (words_of c) e (word_lengths f m)
  updated_lengths (flash_erase f) bits m e =
      same_either (erases c bits) (cell_of c 0 ∷ replicate f.words (replicate f.width true)) c.cells
      (with_address f m (cell_of c 0) (replicate f.words (replicate f.width true)) (first_length f m)
      (map-replicate f.words (replicate f.width true) ∙ ap (replicate f.words) (length-replicate f.width true)))
      cells
  updated_lengths (flash_program f) bits m e =
      let both : List Bool = and_bits (addressed_word f c) bits in
      let width : length both ≡ length (addressed_word f c) = length-and_bits (addressed_word f c) bits (word_length f m ∙ sym e) in
      let words : map length (set (words_of c) (address_of c) both) ≡ replicate f.words f.width =
      map-set_same length (words_of c) (address_of c) both (replicate f.width true) width ∙ word_lengths f m in
      same_either (is_busy c) c.cells (next_address c ∷ set (words_of c) (address_of c) both) cells
      (with_address f m (next_address c) (set (words_of c) (address_of c) both) (length-low_bits address_bits (address_of c + 1)) words)
  updated_lengths (flash_read f) bits m e = with_address f m (next_address c) (words_of c) (length-low_bits address_bits (address_of c + 1)) (word_lengths f m)

  below_either : (b : Bool) (x y : ℕ) → x ≤ busy → y ≤ busy → cond b x y ≤ busy
  below_either true x y f g = f
  below_either false x y f g = g

  -- an update keeps the busy count below its limit
  pub updated_busy_limit : (s : Selected) (bits : List Bool) → IsFound lengths busy s → c.busy ≤ busy → updated_busy c s bits ≤ busy
  updated_busy_limit bypass bits f h = h
  updated_busy_limit (identity_code v) bits f h = h
  updated_busy_limit (held_register k r) bits f h = h
  updated_busy_limit (flash_address f) bits m h = h
  updated_busy_limit (flash_erase f) bits m h = below_either (erases c bits) f.busy c.busy m.busy_count h
  updated_busy_limit (flash_program f) bits m h = below_either (is_busy c) c.busy f.busy h m.busy_count
  updated_busy_limit (flash_read f) bits m h = h
