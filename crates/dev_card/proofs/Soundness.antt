-- A fresh card is sound, and each clock keeps a card sound.
use Rattle.std.proofs.Common.{◌≡◌, ◌≤◌, ◌<◌, ◌+◌, ◌-◌, ◌^◌, ◌++◌, ℕ, suc, zero, Bool, true, false, All, List, [], ◌∷◌, length, drop, replicate, map, Option, Some, None, refl, ap, subst, ◌∙◌, arith}
use Rattle.std.specs.Prelude.{IfSome}
use Rattle.std.proofs.lemmas.List.{length-append, length-drop, length-replicate}
use Rattle.std.proofs.lemmas.List.Elements.{All-head}
use Rattle.std.proofs.lemmas.Bool.{false≢true}
use Rattle.std.proofs.lemmas.Nat.{pow_pos}
use Rattle.base.specs.Bits.{number_of}
use Rattle.base.proofs.NumberBits.{number_of-below}
use Rattle.tap_states.specs.declared.Tap.{Tap}
use Rattle.tap_states.specs.declared.Tap.TheVariants.{Reset, Idle, DrCapture, DrShift, DrExit1, DrPause, DrExit2, DrUpdate, IrCapture, IrShift, IrUpdate}
use Rattle.tap_states.specs.Tap.{next_of}
use Rattle.dev_card.specs.declared.desc.Kind.{Kind}
use Rattle.dev_card.specs.declared.desc.Kind.TheVariants.{Plain, Regs, Flash}
use Rattle.dev_card.specs.declared.desc.IdCode.{IdCode}
use Rattle.dev_card.specs.declared.desc.RegDesc.{RegDesc}
use Rattle.dev_card.specs.declared.desc.FlashDesc.{FlashDesc}
use Rattle.dev_card.specs.declared.desc.Desc.{Desc}
use Rattle.dev_card.specs.Descriptions.{IsGood, IsOpcode, identity_opcodes, flash_opcodes}
use Rattle.dev_card.specs.Card.{Card, during, entered, step, fresh, selected, selected_length, shifted, reset_opcode, reset_instruction, address_bits, fresh_flash, fresh_cells}
use Rattle.dev_card.specs.Board.{board_tdo, board_step, board_after, Input}
use Rattle.dev_card.specs.Sound.{is_data_state, IsSound, AllSound, flash_cell_lengths, cell_lengths, most_busy, SoundCard, card_in}
use Rattle.dev_card.proofs.Selecting.{found_selected, selected_some, captured_length, updated_lengths, updated_busy_limit, bit_and_zeros}

-- the parts of soundness that don't speak of the data list
record HasSoundParts (c : Card) : Type 0 where
  good : IsGood c.desc
  instruction_width : c.instruction < 2 ^ c.desc.ir_len
  ir_length : length c.ir_list ≡ c.desc.ir_len
  cell_count_and_lengths : map length c.cells ≡ cell_lengths c.desc.kind c.desc
  busy_limit : c.busy ≤ most_busy c.desc.kind c.desc

parts_of : (c : Card) → IsSound c → HasSoundParts c
parts_of c h = record { good = h.good; instruction_width = h.instruction_width; ir_length = h.ir_length; cell_count_and_lengths = h.cell_count_and_lengths; busy_limit = h.busy_limit }

length_shifted : (xs : List Bool) (b : Bool) (n : ℕ) → 0 < n → length xs ≡ n → length (shifted xs b) ≡ n
length_shifted xs b n h e = omega (arith, length-append (drop 1 xs) (b ∷ []), length-drop 1 xs, e, h)

at_least_one : (n : ℕ) → 2 ≤ n → 1 ≤ n
at_least_one n h = omega arith

one_less : (n m : ℕ) → n ≤ m → n - 1 ≤ m
one_less n m h = omega arith

during_parts : (s : Tap) (b : Bool) (c : Card) → HasSoundParts c → HasSoundParts (during s b c)
during_parts IrCapture b c h = record {
  good = h.good;
  instruction_width = h.instruction_width;
  ir_length = bit_and_zeros c.desc.ir_len true (at_least_one c.desc.ir_len h.good.shortest);
  cell_count_and_lengths = h.cell_count_and_lengths;
  busy_limit = h.busy_limit;
}
during_parts IrShift b c h = record {
  good = h.good;
  instruction_width = h.instruction_width;
  ir_length = length_shifted c.ir_list b c.desc.ir_len (at_least_one c.desc.ir_len h.good.shortest) h.ir_length;
  cell_count_and_lengths = h.cell_count_and_lengths;
  busy_limit = h.busy_limit;
}
during_parts DrCapture b c h = record { good = h.good; instruction_width = h.instruction_width; ir_length = h.ir_length; cell_count_and_lengths = h.cell_count_and_lengths; busy_limit = h.busy_limit }
during_parts DrShift b c h = record { good = h.good; instruction_width = h.instruction_width; ir_length = h.ir_length; cell_count_and_lengths = h.cell_count_and_lengths; busy_limit = h.busy_limit }
during_parts Idle b c h = record {
  good = h.good;
  instruction_width = h.instruction_width;
  ir_length = h.ir_length;
  cell_count_and_lengths = h.cell_count_and_lengths;
  busy_limit = one_less c.busy (most_busy c.desc.kind c.desc) h.busy_limit;
}
during_parts _ b c h = h

less_one : (n : ℕ) → 0 < n → n - 1 < n
less_one n h = omega arith

opcode_below : (op m : ℕ) → op + 1 < m → op < m
opcode_below op m h = omega arith

reset_below : (n : ℕ) (id : Option IdCode) (xs ys : List ℕ) → All (IsOpcode n) ((identity_opcodes id ++ xs) ++ ys) → reset_opcode n id < 2 ^ n
reset_below n None xs ys h = less_one (2 ^ n) (pow_pos n)
reset_below n (Some id) xs ys h = opcode_below id.op (2 ^ n) (All-head (IsOpcode n) id.op (xs ++ ys) h)

reset_width : (d : Desc) → IsGood d → reset_instruction d < 2 ^ d.ir_len
reset_width d g = reset_below d.ir_len d.id (map (λ (r : RegDesc). r.op) d.registers) (flash_opcodes d.flash) g.opcodes

number_width : (bits : List Bool) (n : ℕ) → length bits ≡ n → number_of bits < 2 ^ n
number_width bits n e = subst (λ m. number_of bits < 2 ^ m) e (number_of-below bits)

entered_parts : (t : Tap) (c : Card) → HasSoundParts c → (t ≡ DrUpdate → length c.dr_list ≡ selected_length (selected c)) → HasSoundParts (entered t c)
entered_parts IrUpdate c h e = record {
  good = h.good;
  instruction_width = number_width c.ir_list c.desc.ir_len h.ir_length;
  ir_length = h.ir_length;
  cell_count_and_lengths = h.cell_count_and_lengths;
  busy_limit = h.busy_limit;
}
entered_parts DrUpdate c h e =
    let found = found_selected c h.good in
    record {
      good = h.good;
      instruction_width = h.instruction_width;
      ir_length = h.ir_length;
      cell_count_and_lengths = updated_lengths c (cell_lengths c.desc.kind c.desc) (most_busy c.desc.kind c.desc) h.cell_count_and_lengths (selected c) c.dr_list found (e refl);
      busy_limit = updated_busy_limit c (cell_lengths c.desc.kind c.desc) (most_busy c.desc.kind c.desc) h.cell_count_and_lengths (selected c) c.dr_list found h.busy_limit;
    }
entered_parts Reset c h e = record {
  good = h.good;
  instruction_width = reset_width c.desc h.good;
  ir_length = h.ir_length;
  cell_count_and_lengths =
      h.cell_count_and_lengths;
  busy_limit = h.busy_limit;
}
entered_parts _ c h e = record { good = h.good; instruction_width = h.instruction_width; ir_length = h.ir_length; cell_count_and_lengths = h.cell_count_and_lengths; busy_limit = h.busy_limit }

-- the states on coming to which the data list is that of the selected register
holds_data : Tap → Bool
holds_data DrUpdate = true
holds_data t = is_data_state t

data_holds : (t : Tap) → is_data_state t ≡ true → holds_data t ≡ true
unfolding holds_data
data_holds DrUpdate e = refl
data_holds _ e = e

during_data : (s : Tap) (m b : Bool) (c : Card) → c.tap ≡ s → IsSound c → holds_data (next_of s m) ≡ true → length (during s b c).dr_list ≡ selected_length (selected (during s b c))
unfolding holds_data
during_data DrCapture m b c e h x =
    captured_length c (cell_lengths c.desc.kind c.desc) (most_busy c.desc.kind c.desc) h.cell_count_and_lengths (selected c) (found_selected c h.good)
during_data DrShift m b c e h x =
    length_shifted c.dr_list b (selected_length (selected c))
    (selected_some (cell_lengths c.desc.kind c.desc) (most_busy c.desc.kind c.desc) (selected c) (found_selected c h.good)) (h.dr_length (ap is_data_state e))
during_data DrExit1 m b c e h x = h.dr_length (ap is_data_state e)
during_data DrPause m b c e h x = h.dr_length (ap is_data_state e)
during_data DrExit2 m b c e h x = h.dr_length (ap is_data_state e)
during_data _ true b c e h x = absurd (false≢true x)
during_data _ false b c e h x = absurd (false≢true x)

entered_data : (t : Tap) (c : Card) → (is_data_state t ≡ true → length c.dr_list ≡ selected_length (selected c)) → is_data_state (entered t c).tap ≡ true →
    length (entered t c).dr_list ≡ selected_length (selected (entered t c))
entered_data IrUpdate c h x = absurd (false≢true x)
entered_data DrUpdate c h x = absurd (false≢true x)
entered_data Reset c h x = absurd (false≢true x)
entered_data _ c h x = h x

some_data : (c : Card) → IsGood c.desc → (is_data_state c.tap ≡ true → length c.dr_list ≡ selected_length (selected c)) → is_data_state c.tap ≡ true → 0 < length c.dr_list
some_data c g h x =
    let e = h x in
    let n = selected_some (cell_lengths c.desc.kind c.desc) (most_busy c.desc.kind c.desc) (selected c) (found_selected c g) in
    omega (arith, e, n)

sound_of_parts : (c : Card) → HasSoundParts c → (is_data_state c.tap ≡ true → length c.dr_list ≡ selected_length (selected c)) → IsSound c
sound_of_parts c p h = record {
  good = p.good;
  instruction_width = p.instruction_width;
  ir_length = p.ir_length;
  dr_length = h;
  dr_some = some_data c p.good h;
  cell_count_and_lengths = p.cell_count_and_lengths;
  busy_limit = p.busy_limit;
}

sound_after : (s : Tap) (m b : Bool) (c : Card) → c.tap ≡ s → IsSound c → IsSound (entered (next_of s m) (during s b c))
unfolding holds_data
sound_after s m b c e h =
    let data_of : holds_data (next_of s m) ≡ true → length (during s b c).dr_list ≡ selected_length (selected (during s b c)) = during_data s m b c e h in
    sound_of_parts (entered (next_of s m) (during s b c))
    (entered_parts (next_of s m) (during s b c) (during_parts s b c (parts_of c h)) (λ x. data_of (ap holds_data x)))
    (entered_data (next_of s m) (during s b c) (λ x. data_of (data_holds (next_of s m) x)))

pub sound_step : (c : Card) (m b : Bool) → IsSound c → IsSound (step c m b)
sound_step c m b h = sound_after c.tap m b c refl h

pub sound_board_step : (cs : List Card) (m b : Bool) → AllSound cs → AllSound (board_step cs m b)
sound_board_step [] m b h = tt
sound_board_step (c ∷ cs) m b h = (sound_step c m (board_tdo cs b) h.0, sound_board_step cs m b h.1)

pub sound_board_after : (cs : List Card) (inputs : List Input) → AllSound cs → AllSound (board_after cs inputs)
sound_board_after cs [] h = h
sound_board_after cs (i ∷ is) h = sound_board_after (board_step cs i.tms i.tdi) is (sound_board_step cs i.tms i.tdi h)

-- fresh cards
register_zeros : (rs : List RegDesc) → map length (map (λ (r : RegDesc). replicate r.len false) rs) ≡ map (λ (r : RegDesc). r.len) rs
register_zeros [] = refl
register_zeros (r ∷ rs) = ap (λ t. t ∷ map length (map (λ (x : RegDesc). replicate x.len false) rs)) (length-replicate r.len false) ∙ ap (λ t. r.len ∷ t) (register_zeros rs)

same_lengths : (n : ℕ) (x : List Bool) (w : ℕ) → length x ≡ w → map length (replicate n x) ≡ replicate n w
same_lengths zero x w e = refl
same_lengths (suc n) x w e = ap (λ t. t ∷ map length (replicate n x)) e ∙ ap (λ t. w ∷ t) (same_lengths n x w e)

fresh_memory : (o : Option FlashDesc) → map length (fresh_flash o) ≡ flash_cell_lengths o
fresh_memory None = refl
fresh_memory (Some f) = ap (λ t. address_bits ∷ t) (same_lengths f.words (replicate f.width f.fill) f.width (length-replicate f.width f.fill))

fresh_lengths : (kind : Kind) (d : Desc) → map length (fresh_cells kind d) ≡ cell_lengths kind d
fresh_lengths Plain d = refl
fresh_lengths Regs d = register_zeros d.registers
fresh_lengths Flash d = fresh_memory d.flash

pub fresh_sound : (d : Desc) → IsGood d → IsSound (fresh d)
fresh_sound d g = record {
  good = g;
  instruction_width = reset_width d g;
  ir_length = length-replicate d.ir_len false;
  dr_length = λ x. absurd (false≢true x);
  dr_some = λ x. absurd (false≢true x);
  cell_count_and_lengths = fresh_lengths d.kind d;
  busy_limit = omega arith;
}

told_sound : (o : Option SoundCard) → IfSome (card_in o) IsSound
told_sound None = tt
told_sound (Some s) = s.sound

pub fitted_is_sound : (o : Option SoundCard) (c : Card) → card_in o ≡ Some c → IsSound c
fitted_is_sound o c e = subst (λ x. IfSome x IsSound) e (told_sound o)
