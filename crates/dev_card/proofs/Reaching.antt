-- Sound cards in one stable state come to the shift, with lists of the lengths of their registers.
use Rattle.std.proofs.Common.{◌≡◌, ◌<◌, ◌+◌, Bool, true, false, List, [], ◌∷◌, length, refl, ap, subst, ◌∙◌, arith}
use Rattle.std.proofs.lemmas.List.{length-append}
use Rattle.std.proofs.lemmas.Bool.{false≢true}
use Rattle.tap_states.specs.declared.Tap.{Tap}
use Rattle.tap_states.specs.declared.Tap.TheVariants.{Reset, Idle, DrCapture, DrPause, DrShift, DrUpdate, IrCapture, IrPause, IrShift, IrUpdate}
use Rattle.tap_states.specs.Tap.{next_of, is_stable_state}
use Rattle.tap_states.specs.Path.{walk}
use Rattle.dev_card.specs.Card.{Card, during, entered, step, selected, selected_length}
use Rattle.dev_card.specs.Board.{board_tdo, board_step, board_after, AllIn}
use Rattle.dev_card.specs.Line.{AllShift, line_of, list_of, shift_state}
use Rattle.dev_card.specs.Clocks.{with_zero, entry_tms, at_shift, rest_tms}
use Rattle.dev_card.specs.Sound.{IsSound, AllSound, AllBypass, is_data_state, register_lengths}
use Rattle.dev_card.proofs.Soundness.{sound_board_after}

tap_of_during : (s : Tap) (b : Bool) (c : Card) → (during s b c).tap ≡ c.tap
tap_of_during IrCapture b c = refl
tap_of_during IrShift b c = refl
tap_of_during DrShift b c = refl
tap_of_during DrCapture b c = refl
tap_of_during Idle b c = refl
tap_of_during _ b c = refl

tap_of_entered : (t : Tap) (c : Card) → (entered t c).tap ≡ t
tap_of_entered IrUpdate c = refl
tap_of_entered DrUpdate c = refl
tap_of_entered Reset c = refl
tap_of_entered _ c = refl

pub step_in : (s : Tap) (c : Card) (m b : Bool) → c.tap ≡ s → (step c m b).tap ≡ next_of s m
step_in s c m b e = tap_of_entered (next_of c.tap m) (during c.tap b c) ∙ ap (λ t. next_of t m) e

pub steps_in : (s : Tap) (cs : List Card) (m b : Bool) → AllIn s cs → AllIn (next_of s m) (board_step cs m b)
steps_in s [] m b h = tt
steps_in s (c ∷ cs) m b h = (step_in s c m (board_tdo cs b) h.0, steps_in s cs m b h.1)

pub walk_in : (s : Tap) (cs : List Card) (ms : List Bool) → AllIn s cs → AllIn (walk s ms) (board_after cs (with_zero ms))
walk_in s cs [] h = h
walk_in s cs (m ∷ ms) h = walk_in (next_of s m) (board_step cs m false) ms (steps_in s cs m false h)

pub entry_leads : (s : Tap) (ir : Bool) → is_stable_state s ≡ true → walk s (entry_tms s ir) ≡ shift_state ir
entry_leads Reset true e = refl
entry_leads Reset false e = refl
entry_leads Idle true e = refl
entry_leads Idle false e = refl
entry_leads DrPause true e = refl
entry_leads DrPause false e = refl
entry_leads IrPause true e = refl
entry_leads IrPause false e = refl
entry_leads _ ir e = absurd (false≢true e)

some_list : (ir : Bool) (c : Card) → c.tap ≡ shift_state ir → IsSound c → 0 < length (list_of ir c)
some_list true c e h = let a = h.ir_length in let b = h.good.shortest in omega (arith, a, b)
some_list false c e h = h.dr_some (ap is_data_state e)

all_shift : (ir : Bool) (cs : List Card) → AllIn (shift_state ir) cs → AllSound cs → AllShift ir cs
all_shift ir [] a h = tt
all_shift ir (c ∷ cs) a h = (record { state = a.0; some = some_list ir c a.0 h.0 }, all_shift ir cs a.1 h.1)

pub line_length : (ir : Bool) (cs : List Card) → AllIn (shift_state ir) cs → AllSound cs → length (line_of ir cs) ≡ register_lengths ir cs
line_length true [] a h = refl
line_length false [] a h = refl
line_length true (c ∷ cs) a h =
    length-append (list_of true c) (line_of true cs) ∙ ap (λ n. n + length (line_of true cs)) h.0.ir_length ∙ ap (λ n. c.desc.ir_len + n) (line_length true cs a.1 h.1)
line_length false (c ∷ cs) a h =
    length-append (list_of false c) (line_of false cs) ∙ ap (λ n. n + length (line_of false cs)) (h.0.dr_length (ap is_data_state a.0))
    ∙ ap (λ n. selected_length (selected c) + n) (line_length false cs a.1 h.1)

bypass_lengths : (cs : List Card) → AllBypass cs → register_lengths false cs ≡ length cs
bypass_lengths [] h = refl
bypass_lengths (c ∷ cs) h =
    let a : selected_length (selected c) ≡ 1 = ap selected_length h.0 in
    let b = bypass_lengths cs h.1 in
    omega (arith, a, b)

pub bypass_line : (cs : List Card) → AllIn DrShift cs → AllSound cs → AllBypass cs → length (line_of false cs) ≡ length cs
bypass_line cs a h b = line_length false cs a h ∙ bypass_lengths cs b

pub shift_reached : (at : Tap) (ir : Bool) (cs : List Card) → is_stable_state at ≡ true → AllIn at cs → AllSound cs → AllShift ir (at_shift at ir cs)
shift_reached at ir cs e a h =
    all_shift ir (at_shift at ir cs) (subst (λ t. AllIn t (at_shift at ir cs)) (entry_leads at ir e) (walk_in at cs (entry_tms at ir) a)) (sound_board_after cs (with_zero (entry_tms at ir)) h)

-- a stable state stays under its TMS
pub rests : (s : Tap) → is_stable_state s ≡ true → next_of s (rest_tms s) ≡ s
rests Reset h = refl
rests Idle h = refl
rests DrPause h = refl
rests IrPause h = refl
rests _ h = absurd (false≢true h)
