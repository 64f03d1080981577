-- What a report says of the cards of fitted devices.
use Rattle.std.proofs.Common.{◌≡◌, ◌≤◌, ◌<◌, ℕ, zero, suc, ◌+◌, ◌^◌, Bool, List, [], ◌∷◌, ◌++◌, length, get_or, drop, map, Option, Some, None, refl, sym, ap, ◌∙◌, subst, add-one, codes, arith}
use Rattle.std.specs.Prelude.{IsSomeAnd}
use Rattle.std.specs.Option.{option_map}
use Rattle.std.proofs.lemmas.List.{length-map, drop_all, drop_more}
use Rattle.base.specs.Bits.{low_bits}
use Rattle.dev_card.specs.declared.desc.Kind.{Kind}
use Rattle.dev_card.specs.declared.desc.Kind.TheVariants.{Plain, Regs, Flash}
use Rattle.dev_card.specs.declared.desc.RegDesc.{RegDesc}
use Rattle.dev_card.specs.declared.desc.FlashDesc.{FlashDesc}
use Rattle.dev_card.specs.declared.desc.Desc.{Desc}
use Rattle.dev_card.specs.Descriptions.{HasPartsOf, IsGoodFlash}
use Rattle.dev_card.specs.Card.{Card}
use Rattle.bit_list.specs.Hexadecimal.{all_hex_digits}
use Rattle.dev_card.specs.PaddedScan.{descriptions_of}
use Rattle.dev_card.specs.Reports.{named_text, registers_text, word_text, words_text, memory_text, held_text}
use Rattle.dev_card.specs.Sound.{SoundCard, card_in, cell_lengths, flash_cell_lengths}
use Rattle.chain_sim.specs.Places.{card_at, joined, cards_at}
use Rattle.chain_sim.proofs.Clocking.{card_read}
use Rattle.chain_sim.specs.Reports.{cells_in, instruction_in, held_in, line_in, report_in}
use Rattle.std.proofs.lemmas.Option.{same_Some}

-- a device has this description
abbrev pub IsDescribed : Option Card → Desc → Type 0
IsDescribed card d = IsSomeAnd card (λ c. c.desc ≡ d)

-- The instruction in force.

pub instruction_fits : (f : Option SoundCard) (d : Desc) (n : ℕ) → IsDescribed (card_in f) d → option_map (λ (c : Card). c.instruction) (card_in f) ≡ Some n →
    (n < 2 ^ d.ir_len) × (d.ir_len ≤ 64)
instruction_fits None d n h e = absurd h
instruction_fits (Some s) d n h e =
    let width : n < 2 ^ s.card.desc.ir_len = subst (λ (m : ℕ). m < 2 ^ s.card.desc.ir_len) (same_Some _ _ e) s.sound.instruction_width in
    (subst (λ (x : Desc). n < 2 ^ x.ir_len) h width, subst (λ (x : Desc). x.ir_len ≤ 64) h s.sound.good.longest)

pub instruction_shown : (f : Option SoundCard) (d : Desc) (n : ℕ) → IsDescribed (card_in f) d → option_map (λ (c : Card). c.instruction) (card_in f) ≡ Some n →
    named_text (codes "ir") (all_hex_digits (low_bits d.ir_len n)) ≡ instruction_in (card_in f)
instruction_shown None d n h e = absurd h
instruction_shown (Some s) d n h e =
    ap (λ (m : ℕ). named_text (codes "ir") (all_hex_digits (low_bits d.ir_len m))) (sym (same_Some _ _ e))
    ∙ ap (λ (x : Desc). named_text (codes "ir") (all_hex_digits (low_bits x.ir_len s.card.instruction))) (sym h)

-- The cells of each kind.

pub registers_fit : (f : Option SoundCard) (d : Desc) → IsDescribed (card_in f) d → d.kind ≡ Regs →
    (length d.registers ≡ length (cells_in (card_in f))) × (length d.registers ≤ 64)
registers_fit None d h k = absurd h
registers_fit (Some s) d h k =
    let kind : s.card.desc.kind ≡ Regs = ap (λ (x : Desc). x.kind) h ∙ k in
    let lengths : map length s.card.cells ≡ map (λ (r : RegDesc). r.len) s.card.desc.registers =
    s.sound.cell_count_and_lengths ∙ ap (λ (x : Kind). cell_lengths x s.card.desc) kind in
    let count : length s.card.cells ≡ length s.card.desc.registers =
    sym (length-map s.card.cells length) ∙ ap length lengths ∙ length-map s.card.desc.registers (λ (r : RegDesc). r.len) in
    let parts : HasPartsOf Regs s.card.desc = subst (λ (x : Kind). HasPartsOf x s.card.desc) kind s.sound.good.parts in
    let limit : length s.card.desc.registers ≤ 64 = parts.0.limit in
    (ap (λ (x : Desc). length x.registers) (sym h) ∙ sym count, subst (λ (x : Desc). length x.registers ≤ 64) h limit)

some_cells : (memory : Option FlashDesc) → IsSomeAnd memory IsGoodFlash → 1 ≤ length (flash_cell_lengths memory)
some_cells None h = absurd h
some_cells (Some f) h = omega arith

pub memory_fits : (f : Option SoundCard) (d : Desc) → IsDescribed (card_in f) d → d.kind ≡ Flash → 1 ≤ length (cells_in (card_in f))
memory_fits None d h k = absurd h
memory_fits (Some s) d h k =
    let kind : s.card.desc.kind ≡ Flash = ap (λ (x : Desc). x.kind) h ∙ k in
    let lengths : map length s.card.cells ≡ flash_cell_lengths s.card.desc.flash =
    s.sound.cell_count_and_lengths ∙ ap (λ (x : Kind). cell_lengths x s.card.desc) kind in
    let count : length s.card.cells ≡ length (flash_cell_lengths s.card.desc.flash) = sym (length-map s.card.cells length) ∙ ap length lengths in
    let parts : HasPartsOf Flash s.card.desc = subst (λ (x : Kind). HasPartsOf x s.card.desc) kind s.sound.good.parts in
    omega (arith, count, some_cells s.card.desc.flash parts.1)

pub plain_held : (f : Option SoundCard) (d : Desc) → IsDescribed (card_in f) d → d.kind ≡ Plain → held_in (card_in f) ≡ []
plain_held None d h k = absurd h
plain_held (Some s) d h k = ap (λ (x : Kind). held_text x s.card) (ap (λ (x : Desc). x.kind) h ∙ k)

pub registers_held : (f : Option SoundCard) (d : Desc) (registers : List RegDesc) → IsDescribed (card_in f) d → d.kind ≡ Regs → registers ≡ d.registers →
    registers_text registers (cells_in (card_in f)) ≡ held_in (card_in f)
registers_held None d registers h k e = absurd h
registers_held (Some s) d registers h k e =
    ap (λ (x : List RegDesc). registers_text x s.card.cells) (e ∙ ap (λ (x : Desc). x.registers) (sym h))
    ∙ sym (ap (λ (x : Kind). held_text x s.card) (ap (λ (x : Desc). x.kind) h ∙ k))

pub memory_parts : (cells : List (List Bool)) → 1 ≤ length cells →
    named_text (codes "addr") (all_hex_digits (get_or cells 0 [])) ++ words_text 0 (drop 1 cells) ≡ memory_text cells
memory_parts [] h = absurd (omega (arith, h))
memory_parts (address ∷ words) h = refl

pub memory_held : (f : Option SoundCard) (d : Desc) → IsDescribed (card_in f) d → d.kind ≡ Flash → memory_text (cells_in (card_in f)) ≡ held_in (card_in f)
memory_held None d h k = absurd h
memory_held (Some s) d h k = sym (ap (λ (x : Kind). held_text x s.card) (ap (λ (x : Desc). x.kind) h ∙ k))

-- one register more of those that are left
pub register_more : (registers : List RegDesc) (cells : List (List Bool)) (i : ℕ) (r : RegDesc) (name : List ℕ) → i < length registers → length registers ≡ length cells →
    name ≡ (get_or registers i r).name →
    registers_text (drop i registers) (drop i cells) ≡ named_text name (all_hex_digits (get_or cells i [])) ++ registers_text (drop (i + 1) registers) (drop (i + 1) cells)
register_more registers cells i r name lt count e =
    ap (λ (l : List RegDesc). registers_text l (drop i cells)) (drop_more registers i r lt)
    ∙ ap (λ (l : List (List Bool)). registers_text (get_or registers i r ∷ drop (i + 1) registers) l) (drop_more cells i [] (omega (arith, lt, count)))
    ∙ ap (λ (x : List ℕ). named_text x (all_hex_digits (get_or cells i [])) ++ registers_text (drop (i + 1) registers) (drop (i + 1) cells)) (sym e)

-- one word more
pub word_more : (cells : List (List Bool)) (a : ℕ) → a + 1 < length cells →
    words_text a (drop (a + 1) cells) ≡ word_text a (get_or cells (a + 1) []) ++ words_text (a + 1) (drop (a + 1 + 1) cells)
word_more cells a lt = ap (words_text a) (drop_more cells (a + 1) [] lt)

-- and no word
pub words_end : (cells : List (List Bool)) (a : ℕ) → length cells ≤ a + 1 → words_text a (drop (a + 1) cells) ≡ []
words_end cells a h = ap (words_text a) (drop_all (a + 1) cells h)

-- no register is left
pub registers_end : (registers : List RegDesc) (cells : List (List Bool)) (i : ℕ) → length registers ≤ i → registers_text (drop i registers) (drop i cells) ≡ []
registers_end registers cells i h = ap (λ (l : List RegDesc). registers_text l (drop i cells)) (drop_all i registers h)

-- The line of a device.

pub line_shown : (f : Option SoundCard) (d : Desc) (name : List ℕ) → IsDescribed (card_in f) d → name ≡ d.name →
    codes "D " ++ name ++ instruction_in (card_in f) ++ held_in (card_in f) ++ 10 ∷ [] ≡ line_in (card_in f)
line_shown None d name h e = absurd h
line_shown (Some s) d name h e =
    ap (λ (n : List ℕ). codes "D " ++ n ++ instruction_in (Some s.card) ++ held_in (Some s.card) ++ 10 ∷ []) (e ∙ ap (λ (x : Desc). x.name) (sym h))

-- The lines of a board.

-- the devices at these places have these descriptions
abbrev pub IsBoard : List (Option SoundCard) → List ℕ → List Desc → Type 0
IsBoard rack places descs = IsSomeAnd (cards_at rack places) (λ cs. descriptions_of cs ≡ descs)

first_described : (o : Option Card) (os : Option (List Card)) (d : Desc) (ds : List Desc) → IsSomeAnd (joined o os) (λ cs. descriptions_of cs ≡ d ∷ ds) →
    IsDescribed o d × IsSomeAnd os (λ cs. descriptions_of cs ≡ ds)
first_described None os d ds h = absurd h
first_described (Some c) None d ds h = absurd h
first_described (Some c) (Some cs) d ds h = (cc, cc)

some_described : (o : Option Card) (os : Option (List Card)) → IsSomeAnd (joined o os) (λ cs. descriptions_of cs ≡ []) → ⊥
some_described None os h = h
some_described (Some c) None h = h
some_described (Some c) (Some cs) h = let none : suc (length (descriptions_of cs)) ≡ 0 = ap length h in omega (arith, none)

joined_report : (o : Option Card) (os : Option (List Card)) (descs : List Desc) → IsSomeAnd (joined o os) (λ cs. descriptions_of cs ≡ descs) →
    report_in (joined o os) ≡ line_in o ++ report_in os
joined_report None os descs h = absurd h
joined_report (Some c) None descs h = absurd h
joined_report (Some c) (Some cs) descs h = refl

-- there are as many descriptions as places
pub same_count : (rack : List (Option SoundCard)) (places : List ℕ) (descs : List Desc) → IsBoard rack places descs → length places ≡ length descs
same_count rack [] [] h = refl
same_count rack [] (x ∷ xs) h = let none : 0 ≡ suc (length xs) = ap length h in absurd (omega (arith, none))
same_count rack (q ∷ qs) [] h = absurd (some_described (card_at rack q) (cards_at rack qs) h)
same_count rack (q ∷ qs) (x ∷ xs) h = ap suc (same_count rack qs xs (first_described (card_at rack q) (cards_at rack qs) x xs h).1)

-- the device at one of the places, and the lines from there on
record IsAt (rack : List (Option SoundCard)) (places : List ℕ) (i : ℕ) (d : Desc) : Type 0 where
  described : IsDescribed (card_at rack (get_or places i 0)) d
  lines : report_in (cards_at rack (drop i places)) ≡ line_in (card_at rack (get_or places i 0)) ++ report_in (cards_at rack (drop (suc i) places))

at_place : (rack : List (Option SoundCard)) (places : List ℕ) (descs : List Desc) (i : ℕ) (d : Desc) → IsBoard rack places descs → i < length places →
    d ≡ get_or descs i d → IsAt rack places i d
at_place rack [] descs i d h lt e = absurd (omega (arith, lt))
at_place rack (q ∷ qs) [] i d h lt e = absurd (some_described (card_at rack q) (cards_at rack qs) h)
at_place rack (q ∷ qs) (x ∷ xs) zero d h lt e = record {
  described = subst (IsDescribed (card_at rack q)) (sym e) (first_described (card_at rack q) (cards_at rack qs) x xs h).0;
  lines = joined_report (card_at rack q) (cards_at rack qs) (x ∷ xs) h;
}
at_place rack (q ∷ qs) (x ∷ xs) (suc i) d h lt e =
    let rest = at_place rack qs xs i d (first_described (card_at rack q) (cards_at rack qs) x xs h).1 (omega (arith, lt)) e in
    record { described = rest.described; lines = rest.lines }

-- a place with a fitted device is inside the rack
is_inside : (rack : List (Option SoundCard)) (p : ℕ) (d : Desc) → IsDescribed (card_at rack p) d → p < length rack
is_inside [] zero d h = absurd h
is_inside [] (suc p) d h = absurd h
is_inside (x ∷ xs) zero d h = omega arith
is_inside (x ∷ xs) (suc p) d h = omega (arith, is_inside xs p d h)

module _ {A : Type 0} (fitted : A → Option SoundCard) (rack : List A) (places : List ℕ) (descs : List Desc) (i : ℕ) (d : Desc)
    (board : IsBoard (map fitted rack) places descs) (inside : i < length descs) (same : d ≡ get_or descs i d) where
  here : IsAt (map fitted rack) places i d
  here = at_place (map fitted rack) places descs i d board (omega (arith, inside, same_count (map fitted rack) places descs board)) same

  pub place_inside : get_or places i 0 < length rack
  place_inside = omega (arith, is_inside (map fitted rack) (get_or places i 0) d here.described, length-map rack fitted)

  read : (x : A) → x ≡ get_or rack (get_or places i 0) x → card_at (map fitted rack) (get_or places i 0) ≡ card_in (fitted x)
  read x e = card_read fitted rack (get_or places i 0) x place_inside e

  pub described_there : (x : A) → x ≡ get_or rack (get_or places i 0) x → IsDescribed (card_in (fitted x)) d
  described_there x e = subst (λ (o : Option Card). IsDescribed o d) (read x e) here.described

  -- one line more of those that are left
  pub line_more : (x : A) → x ≡ get_or rack (get_or places i 0) x →
      report_in (cards_at (map fitted rack) (drop i places)) ≡ line_in (card_in (fitted x)) ++ report_in (cards_at (map fitted rack) (drop (i + 1) places))
  line_more x e =
      here.lines ∙ ap (λ (o : Option Card). line_in o ++ report_in (cards_at (map fitted rack) (drop (suc i) places))) (read x e)
      ∙ ap (λ (k : ℕ). line_in (card_in (fitted x)) ++ report_in (cards_at (map fitted rack) (drop k places))) (sym (add-one i))

-- and none
pub report_end : (rack : List (Option SoundCard)) (places : List ℕ) (i : ℕ) → length places ≤ i → report_in (cards_at rack (drop i places)) ≡ []
report_end rack places i h = ap (λ (l : List ℕ). report_in (cards_at rack l)) (drop_all i places h)
