-- The shift clocks of a scan, the last one with TMS 1.
use Rattle.std.proofs.Common.{◌≡◌, ◌<◌, Bool, true, false, List, [], ◌∷◌, ◌++◌, length, drop, map, refl, sym, ap, ◌∙◌, arith}
use Rattle.std.proofs.lemmas.List.{length-append, length-drop}
use Rattle.std.proofs.Math.Seq.{take-length}
use Rattle.tap_states.specs.Tap.{next_of}
use Rattle.tap_states.specs.declared.Tap.TheVariants.{DrExit1, IrExit1}
use Rattle.dev_card.specs.Card.{Card, step, during, entered, in_state}
use Rattle.dev_card.specs.Board.{Input, board_tdo, board_step, clocks_of, board_after, tdos}
use Rattle.dev_card.specs.Line.{list_of, shift_state, exit_state, line_of, cut_back, AllShift}
use Rattle.dev_card.specs.Clocks.{still_inputs, shift_inputs, clocks_with, ShiftsAsLine, StaysShifting}
use Rattle.dev_card.proofs.ShiftLines.{shifts, stepped, line_of_cut, cut_shifts}

-- the last clock of a shift does what the others do, and comes to the exit
last_step : (ir : Bool) (c : Card) (b : Bool) → c.tap ≡ shift_state ir → step c true b ≡ in_state (exit_state ir) (step c false b)
last_step true c b e = ap (λ t. entered (next_of t true) (during t b c)) e ∙ sym (ap (λ t. in_state IrExit1 (entered (next_of t false) (during t b c))) e)
last_step false c b e = ap (λ t. entered (next_of t true) (during t b c)) e ∙ sym (ap (λ t. in_state DrExit1 (entered (next_of t false) (during t b c))) e)

-- clocks are their inputs and their TDO bits
clocks-with_tdos : (is : List Input) (cs : List Card) → clocks_of cs is ≡ clocks_with is (tdos (clocks_of cs is))
clocks-with_tdos [] cs = refl
clocks-with_tdos (i ∷ is) cs = ap (λ t. record { tms = i.tms; tdi = i.tdi; tdo = board_tdo cs i.tdi } ∷ t) (clocks-with_tdos is (board_step cs i.tms i.tdi))

module _ (ir : Bool) where
  last_board : (cs : List Card) (b : Bool) → AllShift ir cs → board_step cs true b ≡ map (in_state (exit_state ir)) (board_step cs false b)
  last_board [] b h = refl
  last_board (c ∷ cs) b h =
      ap (λ k. k ∷ board_step cs true b) (last_step ir c (board_tdo cs b) h.0.state)
      ∙ ap (λ ks. in_state (exit_state ir) (step c false (board_tdo cs b)) ∷ ks) (last_board cs b h.1)

  still_kept : (cs : List Card) (b : Bool) → 0 < length (line_of ir cs) → AllShift ir cs → (0 < length (line_of ir (board_step cs false b))) × AllShift ir (board_step cs false b)
  still_kept cs b n a =
      let L1 : List Bool = drop 1 (line_of ir cs ++ b ∷ []) in
      let e : board_step cs false b ≡ cut_back ir cs L1 = stepped ir cs b a in
      let k : length L1 ≡ length (line_of ir cs) = omega (arith, length-drop 1 (line_of ir cs ++ b ∷ []), length-append (line_of ir cs) (b ∷ [])) in
      let line : line_of ir (board_step cs false b) ≡ L1 = ap (line_of ir) e ∙ line_of_cut ir cs L1 k in
      (omega (arith, ap length line, k, n), rw e (cut_shifts ir cs L1 k a))

  -- TDO is read before the clock, so the last TMS does not show
  last_inputs : (bits : List Bool) (cs : List Card) → 0 < length bits → 0 < length (line_of ir cs) → AllShift ir cs
      → (tdos (clocks_of cs (shift_inputs bits)) ≡ tdos (clocks_of cs (still_inputs bits))) × (board_after cs (shift_inputs bits) ≡ map (in_state (exit_state ir)) (board_after cs (still_inputs bits)))
  last_inputs [] cs h n a = absurd (omega arith)
  last_inputs (b ∷ []) cs h n a = (refl, last_board cs b a)
  last_inputs (b ∷ c ∷ bs) cs h n a =
      let next = still_kept cs b n a in
      let rest = last_inputs (c ∷ bs) (board_step cs false b) (omega arith) next.0 next.1 in
      (ap (λ t. board_tdo cs b ∷ t) rest.0, rest.1)

-- a board without devices: what comes in comes out
empty_seen : (bits : List Bool) → tdos (clocks_of [] (shift_inputs bits)) ≡ bits
empty_seen [] = refl
empty_seen (b ∷ []) = refl
empty_seen (b ∷ c ∷ bs) = ap (λ t. b ∷ t) (empty_seen (c ∷ bs))

empty_after : (bits : List Bool) → board_after [] (shift_inputs bits) ≡ []
empty_after [] = refl
empty_after (b ∷ []) = refl
empty_after (b ∷ c ∷ bs) = empty_after (c ∷ bs)

pub shifts_as_line : (ir : Bool) (cs : List Card) (bits : List Bool) → 0 < length bits → AllShift ir cs → ShiftsAsLine ir cs bits
shifts_as_line ir [] bits h a = record { clocks = clocks-with_tdos (shift_inputs bits) [] ∙ ap (clocks_with (shift_inputs bits)) (empty_seen bits ∙ sym (take-length bits)); board = empty_after bits }
shifts_as_line ir (c ∷ cs) bits h a =
    let n : 0 < length (line_of ir (c ∷ cs)) = let k = a.0.some in omega (arith, k, length-append (list_of ir c) (line_of ir cs)) in
    let s = shifts ir bits (c ∷ cs) n a in
    let l = last_inputs ir bits (c ∷ cs) h n a in
    record {
      clocks = clocks-with_tdos (shift_inputs bits) (c ∷ cs) ∙ ap (clocks_with (shift_inputs bits)) (l.0 ∙ s.seen);
      board = l.1 ∙ ap (map (in_state (exit_state ir))) s.cards;
    }

empty_still : (bits : List Bool) → tdos (clocks_of [] (still_inputs bits)) ≡ bits
empty_still [] = refl
empty_still (b ∷ bs) = ap (λ t. b ∷ t) (empty_still bs)

empty_stays : (bits : List Bool) → board_after [] (still_inputs bits) ≡ []
empty_stays [] = refl
empty_stays (b ∷ bs) = empty_stays bs

pub stays_shifting : (ir : Bool) (cs : List Card) (bits : List Bool) → AllShift ir cs → StaysShifting ir cs bits
stays_shifting ir [] bits a = record { clocks = clocks-with_tdos (still_inputs bits) [] ∙ ap (clocks_with (still_inputs bits)) (empty_still bits ∙ sym (take-length bits)); board = empty_stays bits }
stays_shifting ir (c ∷ cs) bits a =
    let n : 0 < length (line_of ir (c ∷ cs)) = let k = a.0.some in omega (arith, k, length-append (list_of ir c) (line_of ir cs)) in
    let s = shifts ir bits (c ∷ cs) n a in
    record { clocks = clocks-with_tdos (still_inputs bits) (c ∷ cs) ∙ ap (clocks_with (still_inputs bits)) s.seen; board = s.cards }
