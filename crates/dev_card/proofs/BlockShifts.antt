-- A block of a card that shifts is one equation of lists.
use Rattle.std.proofs.Common.{◌≡◌, ◌<◌, ◌≤◌, ℕ, Bool, true, false, List, [], ◌∷◌, ◌++◌, length, map, refl, sym, ap, ◌∙◌, arith}
use Rattle.std.proofs.lemmas.List.{append-nil, length-append, length-take-le, length-drop, length-map, take_all}
use Rattle.base.specs.Bits.{low_bits, number_of}
use Rattle.base.proofs.NumberBits.{length-low_bits}
use Rattle.dev_card.specs.Card.{Card, in_state, step, tdo_of}
use Rattle.dev_card.specs.Board.{Input, clocks_of, board_after, tdos}
use Rattle.dev_card.specs.Line.{shift_state, exit_state, list_of, with_list, line_of, cut_back, shifted_out, left_in, IsShifting, AllShift}
use Rattle.dev_card.specs.Clocks.{still_inputs, shift_inputs, part_inputs, StaysShifting, ShiftsAsLine}
use Rattle.dev_card.specs.Blocks.{card_after, card_tdos, ShiftsBlock}
use Rattle.dev_card.proofs.LastClock.{shifts_as_line, stays_shifting}
use Rattle.dev_card.proofs.Scanning.{inputs_of_whole, tdos_of_with, length_of_shift}

-- a board of one card
one_after : (is : List Input) (c : Card) → board_after (c ∷ []) is ≡ card_after c is ∷ []
one_after [] c = refl
one_after (i ∷ is) c = one_after is (step c i.tms i.tdi)

one_tdos : (is : List Input) (c : Card) → tdos (clocks_of (c ∷ []) is) ≡ card_tdos c is
one_tdos [] c = refl
one_tdos (i ∷ is) c = ap (λ z. tdo_of c ∷ z) (one_tdos is (step c i.tms i.tdi))

first_card : (c d : Card) → c ∷ [] ≡ d ∷ [] → c ≡ d
first_card c d e = cc

still_part : (bits : List Bool) → still_inputs bits ≡ part_inputs false bits
still_part [] = refl
still_part (b ∷ bits) = ap (λ z. record { tms = false; tdi = b } ∷ z) (still_part bits)

-- what stays in is as long as the list was
left_length : (list bits : List Bool) → length (left_in list bits) ≡ length list
left_length list bits = omega (arith, length-drop (length bits) (list ++ bits), length-append list bits)

out_length : (list bits : List Bool) → length (shifted_out list bits) ≡ length bits
out_length list bits = length-take-le (length bits) (list ++ bits) (omega (arith, length-append list bits))

cut_one : (ir : Bool) (c : Card) (bits : List Bool) → cut_back ir (c ∷ []) (left_in (line_of ir (c ∷ [])) bits)
    ≡ with_list ir c (left_in (list_of ir c) bits) ∷ []
cut_one ir c bits =
    ap (λ l. cut_back ir (c ∷ []) (left_in l bits)) (append-nil (list_of ir c))
    ∙ ap (λ l. with_list ir c l ∷ [])
    (take_all (length (list_of ir c)) (left_in (list_of ir c) bits) (let e = left_length (list_of ir c) bits in
    omega (arith, e)))

own_state : (ir : Bool) (c : Card) (bits : List Bool) → c.tap ≡ shift_state ir → with_list ir c bits ≡ in_state (shift_state ir) (with_list ir c bits)
own_state true c bits e = ap (λ t. record c { tap = t; ir_list = bits }) e
own_state false c bits e = ap (λ t. record c { tap = t; dr_list = bits }) e

module _ (ir : Bool) (c : Card) (tdi n : ℕ) (shifting : IsShifting ir c) where
  all_shift : AllShift ir (c ∷ [])
  all_shift = (shifting, tt)

  still_block : ShiftsBlock ir c tdi n false
  still_block =
      let bits : List Bool = low_bits n tdi in
      let s : StaysShifting ir (c ∷ []) bits = stays_shifting ir (c ∷ []) bits all_shift in
      let is : still_inputs bits ≡ part_inputs false bits = still_part bits in
      let count : length (still_inputs bits) ≡ length (shifted_out (line_of ir (c ∷ [])) bits) = length-map bits _
      ∙ sym (out_length (line_of ir (c ∷ [])) bits) in
      record {
        tdo = ap (λ z. number_of (card_tdos c z)) (sym is)
            ∙ ap number_of (sym (one_tdos (still_inputs bits) c) ∙ ap tdos s.clocks
            ∙ tdos_of_with (still_inputs bits) (shifted_out (line_of ir (c ∷ [])) bits) count
            ∙ ap (λ l. shifted_out l bits) (append-nil (list_of ir c)));
        card = ap (card_after c) (sym is)
            ∙ first_card _ _ (sym (one_after (still_inputs bits) c) ∙ s.board ∙ cut_one ir c bits)
            ∙ own_state ir c (left_in (list_of ir c) bits) shifting.state;
      }

  last_block : 1 ≤ n → ShiftsBlock ir c tdi n true
  last_block h =
      let bits : List Bool = low_bits n tdi in
      let some : 0 < length bits = omega (arith, h, length-low_bits n tdi) in
      let s : ShiftsAsLine ir (c ∷ []) bits = shifts_as_line ir (c ∷ []) bits some all_shift in
      let is : shift_inputs bits ≡ part_inputs true bits = inputs_of_whole bits in
      let count : length (shift_inputs bits) ≡ length (shifted_out (line_of ir (c ∷ [])) bits) = length_of_shift bits
      ∙ sym (out_length (line_of ir (c ∷ [])) bits) in
      record {
        tdo = ap (λ z. number_of (card_tdos c z)) (sym is)
            ∙ ap number_of (sym (one_tdos (shift_inputs bits) c) ∙ ap tdos s.clocks
            ∙ tdos_of_with (shift_inputs bits) (shifted_out (line_of ir (c ∷ [])) bits) count
            ∙ ap (λ l. shifted_out l bits) (append-nil (list_of ir c)));
        card = ap (card_after c) (sym is)
            ∙ first_card _ _ (sym (one_after (shift_inputs bits) c) ∙ s.board
            ∙ ap (map (in_state (exit_state ir))) (cut_one ir c bits));
      }

pub shifts_block : (ir : Bool) (c : Card) (tdi n : ℕ) (last : Bool) → 1 ≤ n → IsShifting ir c → ShiftsBlock ir c tdi n last
shifts_block ir c tdi n true h s = last_block ir c tdi n s h
shifts_block ir c tdi n false h s = still_block ir c tdi n s
