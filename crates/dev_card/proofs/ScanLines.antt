-- A whole scan by single clocks is the scan of the line, and leads to its stop.
use Rattle.std.proofs.Common.{◌≡◌, ◌<◌, Bool, true, false, List, [], ◌∷◌, ◌++◌, length, map, Option, Some, None, refl, sym, ap, subst, ◌∙◌}
use Rattle.std.specs.Option.{option_map}
use Rattle.tap_states.specs.declared.Tap.{Tap}
use Rattle.tap_states.specs.Tap.{next_of, is_stable_state}
use Rattle.tap_states.specs.Path.{path_of}
use Rattle.tap_states.proofs.Shortest.{is_path, path_leads}
use Rattle.dev_card.specs.Card.{Card, in_state}
use Rattle.dev_card.specs.Board.{Input, clock_at, clocks_of, board_after, after_input, AllIn}
use Rattle.dev_card.specs.Line.{exit_state, pause_state, line_of, cut_back, left_in}
use Rattle.dev_card.specs.Clocks.{entry_inputs, shift_inputs, pause_inputs, stop_inputs, move_inputs, at_shift, at_pause, shift_clocks, board_shifted, board_scanned, ShiftsAsLine, ScansAsLine}
use Rattle.dev_card.specs.Sound.{AllSound}
use Rattle.dev_card.proofs.LastClock.{shifts_as_line}
use Rattle.dev_card.proofs.Reaching.{shift_reached, steps_in, walk_in}

pub after-append : (is js : List Input) (cs : List Card) → board_after cs (is ++ js) ≡ board_after (board_after cs is) js
after-append [] js cs = refl
after-append (i ∷ is) js cs = after-append is js (after_input cs i)

pub clocks-append : (is js : List Input) (cs : List Card) → clocks_of cs (is ++ js) ≡ clocks_of cs is ++ clocks_of (board_after cs is) js
clocks-append [] js cs = refl
clocks-append (i ∷ is) js cs = ap (λ t. clock_at cs i ∷ t) (clocks-append is js (after_input cs i))

pub after_none : (o : Option (List Card)) → o ≡ option_map (λ cs. board_after cs []) o
after_none None = refl
after_none (Some cs) = refl

pub after_both : (o : Option (List Card)) (xs ys : List Input) →
    option_map (λ cs. board_after cs ys) (option_map (λ cs. board_after cs xs) o) ≡ option_map (λ cs. board_after cs (xs ++ ys)) o
after_both None xs ys = refl
after_both (Some cs) xs ys = ap Some (sym (after-append xs ys cs))

pub scans_as_line : (at : Tap) (ir : Bool) (stop : Tap) (cs : List Card) (bits : List Bool) → is_stable_state at ≡ true → 0 < length bits → AllIn at cs → AllSound cs → ScansAsLine at ir stop cs bits
scans_as_line at ir stop cs bits st n a h =
    let there : List Card = at_shift at ir cs in
    let rest : List Input = pause_inputs ++ stop_inputs ir stop in
    let s : ShiftsAsLine ir there bits = shifts_as_line ir there bits n (shift_reached at ir cs st a h) in
    let gone : List Card = board_shifted ir there bits in
    record {
      clocks = clocks-append (entry_inputs at ir) (shift_inputs bits ++ rest) cs
          ∙ ap (λ t. clocks_of cs (entry_inputs at ir) ++ t) (clocks-append (shift_inputs bits) rest there
          ∙ ap (λ t. t ++ clocks_of (board_after there (shift_inputs bits)) rest) s.clocks
          ∙ ap (λ t. shift_clocks ir there bits ++ clocks_of t rest) s.board
          ∙ ap (λ t. shift_clocks ir there bits ++ t) (clocks-append pause_inputs (stop_inputs ir stop) gone));
      board = after-append (entry_inputs at ir) (shift_inputs bits ++ rest) cs ∙ after-append (shift_inputs bits) rest there ∙ ap (λ t. board_after t rest) s.board
          ∙ after-append pause_inputs (stop_inputs ir stop) gone;
    }

pub move_leads : (at to : Tap) (cs : List Card) → AllIn at cs → AllIn to (board_after cs (move_inputs at to))
move_leads at to cs a = subst (λ t. AllIn t (board_after cs (move_inputs at to))) (path_leads at to (path_of at to) (is_path at to)) (walk_in at cs (path_of at to) a)

all_in_state : (t : Tap) (cs : List Card) → AllIn t (map (in_state t) cs)
all_in_state t [] = tt
all_in_state t (c ∷ cs) = (refl, all_in_state t cs)

pub pause_follows : (ir : Bool) → next_of (exit_state ir) false ≡ pause_state ir
pause_follows true = refl
pause_follows false = refl

pub stop_reached : (at : Tap) (ir : Bool) (stop : Tap) (cs : List Card) (bits : List Bool) → AllIn stop (board_scanned at ir stop cs bits)
stop_reached at ir stop cs bits =
    let gone : List Card = board_shifted ir (at_shift at ir cs) bits in
    let exit : AllIn (exit_state ir) gone = all_in_state (exit_state ir) (cut_back ir (at_shift at ir cs) (left_in (line_of ir (at_shift at ir cs)) bits)) in
    let pause : AllIn (pause_state ir) (at_pause ir (at_shift at ir cs) bits) =
    subst (λ t. AllIn t (at_pause ir (at_shift at ir cs) bits)) (pause_follows ir) (steps_in (exit_state ir) gone false false exit) in
    move_leads (pause_state ir) stop (at_pause ir (at_shift at ir cs) bits) pause
