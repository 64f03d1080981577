-- What a reader sees of a dump.
use Rattle.std.proofs.Common.{◌≡◌, ◌<◌, ◌+◌, ◌/◌, ◌%◌, ◌^◌, ◌∙◌, ℕ, Bool, true, false, List, [], ◌∷◌, ◌++◌, map, Option, None, Some, refl, sym, ap, subst, append_assoc, append-nil, arith}
use Rattle.std.specs.Prelude.{◌==◌, codes, if◌then◌else◌}
use Rattle.std.specs.Str.Parse.{digits_value}
use Rattle.std.proofs.lemmas.Bool.{and_parts}
use Rattle.std.proofs.lemmas.Bool.Decides.{nat_tests}
use Rattle.tap_states.specs.declared.Tap.{Tap}
use Rattle.tap_states.specs.declared.Tap.TheVariants.{Reset, Idle, DrSelect, DrCapture, DrShift, DrExit1, DrPause, DrExit2, DrUpdate, IrSelect, IrCapture, IrShift, IrExit1, IrPause, IrExit2, IrUpdate}
use Rattle.tap_states.specs.Tap.{tap_number}
use Rattle.pin_lines.specs.PinLines.{lines_of, input_of_pin, clock_of_pin}
use Rattle.wave_tool.specs.declared.wave.Levels.{Levels}
use Rattle.wave_tool.specs.Items.{Item, Clocked, Waited}
use Rattle.wave_tool.specs.States.{all_states, states_after, settled_state}
use Rattle.wave_tool.specs.Waves.{Wave, level_of, wire_change, state_level, state_wire, changes, are_same, time_line, moment, low_levels, high_levels, states_clocked, rest_levels, item_text, after_item, items_text, after_items, shown_number, first_wave, end_text, head_text, wave_text}
use Rattle.wave_laws.specs.Readers.{Rise, View, after_lines, no_view, view_of, seen_clocks, states_before, state_levels, IsShown, AreShown, bit_digit, clocks_of, length_of}
use Rattle.wave_laws.specs.States.{tms_values}
use Rattle.wave_laws.proofs.ShownStates.{states_led, known_after, shown_is, led_once, below_16, number_exactly, number_unknown}
use Rattle.wave_laws.proofs.ReadLines.{Reads, reads_both, reads_none, reads_as, reads_time, IsLevel, reads_wire}

-- what is seen if the wires have these levels, and TCK that one
abbrev pub view_with : ℕ → ℕ → List Rise → Levels → View
view_with tck time rises l = record {
  time = time;
  tck = tck;
  tms = l.tms;
  tdi = l.tdi;
  tdo = l.tdo;
  tap3 = state_level 8 l.state;
  tap2 = state_level 4 l.state;
  tap1 = state_level 2 l.state;
  tap0 = state_level 1 l.state;
  rises = rises;
}

pub record AreLevels (l : Levels) : Type 0 where
  pub tms : IsLevel l.tms
  pub tdi : IsLevel l.tdi
  pub tdo : IsLevel l.tdo

bit_level : (b : Bool) → IsLevel (level_of b)
bit_level true = record { no_feed = refl; no_time = refl }
bit_level false = record { no_feed = refl; no_time = refl }

above : (n : ℕ) → IsLevel (48 + n)
above n = record { no_feed = no_feed n; no_time = no_time n }
  where
    no_feed : (n : ℕ) → (48 + n == 10) ≡ false
    no_feed n = grind (arith, nat_tests)

    no_time : (n : ℕ) → (48 + n == 35) ≡ false
    no_time n = grind (arith, nat_tests)

state_is_level : (place n : ℕ) → IsLevel (state_level place n)
state_is_level place n = by (n == 16)
  where
    by : (t : Bool) → IsLevel (if t then 120 else 48 + n / place % 2)
    by true = record { no_feed = refl; no_time = refl }
    by false = above (n / place % 2)

-- all wires but TCK, after what TCK writes
others : (v : View) (tck time : ℕ) (rises : List Rise) (old new : Levels) → AreLevels new →
    Reads v (wire_change 33 old.tck new.tck) (view_with tck time rises old) → Reads v (changes old new) (view_with tck time rises new)
others v tck time rises old new are first =
    let v0 = view_with tck time rises old in
    let v1 : View = record v0 { tms = new.tms } in
    let v2 : View = record v1 { tdi = new.tdi } in
    let v3 : View = record v2 { tdo = new.tdo } in
    let v4 : View = record v3 { tap3 = state_level 8 new.state } in
    let v5 : View = record v4 { tap2 = state_level 4 new.state } in
    let v6 : View = record v5 { tap1 = state_level 2 new.state } in
    let tms : Reads v0 (wire_change 34 old.tms new.tms) v1 = reads_wire v0 34 old.tms new.tms refl are.tms (λ e. ap (λ k. record v0 { tms = k }) (sym e)) in
    let tdi : Reads v1 (wire_change 35 old.tdi new.tdi) v2 = reads_wire v1 35 old.tdi new.tdi refl are.tdi (λ e. ap (λ k. record v1 { tdi = k }) (sym e)) in
    let tdo : Reads v2 (wire_change 36 old.tdo new.tdo) v3 = reads_wire v2 36 old.tdo new.tdo refl are.tdo (λ e. ap (λ k. record v2 { tdo = k }) (sym e)) in
    let tap3 : Reads v3 (state_wire 37 8 old.state new.state) v4 =
    reads_wire v3 37 (state_level 8 old.state) (state_level 8 new.state) refl (state_is_level 8 new.state) (λ e. ap (λ k. record v3 { tap3 = k }) (sym e)) in
    let tap2 : Reads v4 (state_wire 38 4 old.state new.state) v5 =
    reads_wire v4 38 (state_level 4 old.state) (state_level 4 new.state) refl (state_is_level 4 new.state) (λ e. ap (λ k. record v4 { tap2 = k }) (sym e)) in
    let tap1 : Reads v5 (state_wire 39 2 old.state new.state) v6 =
    reads_wire v5 39 (state_level 2 old.state) (state_level 2 new.state) refl (state_is_level 2 new.state) (λ e. ap (λ k. record v5 { tap1 = k }) (sym e)) in
    let tap0 : Reads v6 (state_wire 40 1 old.state new.state) (view_with tck time rises new) =
    reads_wire v6 40 (state_level 1 old.state) (state_level 1 new.state) refl (state_is_level 1 new.state) (λ e. ap (λ k. record v6 { tap0 = k }) (sym e)) in
    reads_both (reads_both (reads_both (reads_both first tms) tdi) tdo) (reads_both (reads_both (reads_both tap3 tap2) tap1) tap0)

-- TCK falls, or stays at 0
falls : (time : ℕ) (rises : List Rise) (old new : Levels) → new.tck ≡ 48 → AreLevels new →
    Reads (view_with old.tck time rises old) (changes old new) (view_with 48 time rises new)
falls time rises old new low are = others (view_with old.tck time rises old) 48 time rises old new are (tck_falls old.tck new.tck low)
  where
    tck_falls : (before after : ℕ) → after ≡ 48 → Reads (view_with before time rises old) (wire_change 33 before after) (view_with 48 time rises old)
    tck_falls before after low =
        rw low (reads_as
        (reads_wire (view_with before time rises old) 33 before 48 refl (record { no_feed = refl; no_time = refl })
        (λ e. ap (λ r. view_with 48 time r old) (append-nil rises) ∙ ap (λ k. view_with k time rises old) (sym e)))
        (ap (λ r. view_with 48 time r old) (append-nil rises)))

-- the levels of the four wires of the state for a number
abbrev levels_for : ℕ → List ℕ
levels_for n = state_level 8 n ∷ state_level 4 n ∷ state_level 2 n ∷ state_level 1 n ∷ []

-- the rise of TCK at a time, with these levels
abbrev rise_at : ℕ → Levels → Rise
rise_at time l = record {
  clock = record { time = time; tms = l.tms; tdi = l.tdi; tdo = l.tdo };
  state = levels_for l.state;
}

climbs : (time : ℕ) (rises : List Rise) (old new : Levels) → AreLevels new →
    Reads (view_with 48 time rises old) (changes (record old { tck = 48 }) (record new { tck = 49 })) (view_with 49 time (rises ++ rise_at time old ∷ []) new)
climbs time rises old new are =
    others (view_with 48 time rises old) 49 time (rises ++ rise_at time old ∷ []) (record old { tck = 48 }) (record new { tck = 49 }) (record { tms = are.tms; tdi = are.tdi; tdo = are.tdo })
    (reads_wire (view_with 48 time rises old) 33 48 49 refl (record { no_feed = refl; no_time = refl }) (λ e. absurd cc))

-- levels that are the same
same_levels : (old new : Levels) → are_same old new ≡ true → old ≡ new
same_levels old new e =
    let first = and_parts (old.tck == new.tck) _ e in
    let second = and_parts (old.tms == new.tms) _ first.1 in
    let third = and_parts (old.tdi == new.tdi) _ second.1 in
    let last = and_parts (old.tdo == new.tdo) (old.state == new.state) third.1 in
    joined old new (equal old.tck new.tck first.0) (equal old.tms new.tms second.0) (equal old.tdi new.tdi third.0) (equal old.tdo new.tdo last.0) (equal old.state new.state last.1)
  where
    equal : (a b : ℕ) → (a == b) ≡ true → a ≡ b
    equal a b e = grind (arith, nat_tests)

    joined : (old new : Levels) → old.tck ≡ new.tck → old.tms ≡ new.tms → old.tdi ≡ new.tdi → old.tdo ≡ new.tdo → old.state ≡ new.state → old ≡ new
    joined old new a b c d e = λ j. record { tck = a j; tms = b j; tdi = c j; tdo = d j; state = e j }

-- a moment at which TCK falls, or stays at 0; the time is not told if nothing changes
pub falls_then : (seen time : ℕ) (rises : List Rise) (old new : Levels) → time < 2 ^ 64 → new.tck ≡ 48 → AreLevels new →
    (told : ℕ) × Reads (view_with old.tck seen rises old) (moment time old new) (view_with 48 told rises new)
falls_then seen time rises old new small low are = by (are_same old new) refl
  where
    by : (t : Bool) → are_same old new ≡ t →
        (told : ℕ) × Reads (view_with old.tck seen rises old) (if t then [] else time_line time ++ changes old new) (view_with 48 told rises new)
    by true e = (seen, reads_none (ap (λ (l : Levels). view_with l.tck seen rises l) (same_levels old new e) ∙ ap (λ k. view_with k seen rises new) low))
    by false e = (time, reads_both (reads_time (view_with old.tck seen rises old) time small) (falls time rises old new low are))

are_levels : (old : Levels) (digit : ℕ) → AreLevels (low_levels old digit)
are_levels old digit = record { tms = bit_level (input_of_pin digit).tms; tdi = bit_level (input_of_pin digit).tdi; tdo = bit_level (clock_of_pin digit).tdo }

level_is : (b : Bool) → level_of b ≡ bit_digit b
level_is true = refl
level_is false = refl

-- the rise that a clock makes, and those of clocks and waits
abbrev rise_of : Wave → ℕ → Rise
rise_of w digit = record {
  clock = record {
    time = w.time + 1;
    tms = bit_digit (clock_of_pin digit).tms;
    tdi = bit_digit (clock_of_pin digit).tdi;
    tdo = bit_digit (clock_of_pin digit).tdo;
  };
  state = levels_for w.levels.state;
}

abbrev rises_from : Wave → List Item → List Rise
rises_from w [] = []
rises_from w (Clocked digit ∷ items) = rise_of w digit ∷ rises_from (after_item w (Clocked digit)) items
rises_from w (Waited usec ∷ items) = rises_from (after_item w (Waited usec)) items

rise_is : (w : Wave) (digit : ℕ) → rise_at (w.time + 1) (low_levels w.levels digit) ≡ rise_of w digit
rise_is w digit = λ j. record {
  clock = record {
    time = w.time + 1;
    tms = level_is (clock_of_pin digit).tms j;
    tdi = level_is (clock_of_pin digit).tdi j;
    tdo = level_is (clock_of_pin digit).tdo j;
  };
  state = levels_for w.levels.state;
}

-- what is seen of one clock
clock_read : (seen : ℕ) (rises : List Rise) (w : Wave) (digit : ℕ) → w.time + 1 < 2 ^ 64 →
    Reads (view_with w.levels.tck seen rises w.levels) (item_text w (Clocked digit))
    (view_with 49 (w.time + 1) (rises ++ rise_of w digit ∷ []) (high_levels w.levels (states_clocked w.states digit) digit))
clock_read seen rises w digit small =
    let low = low_levels w.levels digit in
    let high = high_levels w.levels (states_clocked w.states digit) digit in
    let first = falls_then seen w.time rises w.levels low (omega arith) refl (are_levels w.levels digit) in
    let at_rise = reads_time (view_with 48 first.0 rises low) (w.time + 1) small in
    let last = climbs (w.time + 1) rises low high (record { tms = (are_levels w.levels digit).tms; tdi = (are_levels w.levels digit).tdi; tdo = (are_levels w.levels digit).tdo }) in
    reads_as (reads_both first.1 (reads_both at_rise last)) (ap (λ r. view_with 49 (w.time + 1) (rises ++ r ∷ []) high) (rise_is w digit))

-- what is seen of clocks and waits
items_read : (seen : ℕ) (rises : List Rise) (items : List Item) (w : Wave) → AreLevels w.levels → w.time + length_of items < 2 ^ 64 →
    (told : ℕ) × Reads (view_with w.levels.tck seen rises w.levels) (items_text w items)
    (view_with (after_items w items).levels.tck told (rises ++ rises_from w items) (after_items w items).levels)
items_read seen rises [] w are small = (seen, reads_none (ap (λ r. view_with w.levels.tck seen r w.levels) (sym (append-nil rises))))
items_read seen rises (Clocked digit ∷ items) w are small =
    let after = after_item w (Clocked digit) in
    let rise = rise_of w digit in
    let low = are_levels w.levels digit in
    let rest = items_read (w.time + 1) (rises ++ rise ∷ []) items after (record { tms = low.tms; tdi = low.tdi; tdo = low.tdo }) (omega arith) in
    let end = after_items after items in (
      rest.0,
      reads_as (reads_both (clock_read seen rises w digit (omega arith)) rest.1)
          (ap (λ r. view_with end.levels.tck rest.0 r end.levels) (append_assoc rises (rise ∷ []) (rises_from after items))),
    )
items_read seen rises (Waited usec ∷ items) w are small =
    let resting : AreLevels (rest_levels w.levels) = record { tms = are.tms; tdi = are.tdi; tdo = are.tdo } in
    let first = falls_then seen w.time rises w.levels (rest_levels w.levels) (omega arith) refl resting in
    let rest = items_read first.0 rises items (after_item w (Waited usec)) resting (omega arith) in
    (rest.0, reads_both first.1 rest.1)

levels_after : (items : List Item) (w : Wave) → AreLevels w.levels → AreLevels (after_items w items).levels
levels_after [] w are = are
levels_after (Clocked digit ∷ items) w are =
    let low = are_levels w.levels digit in levels_after items (after_item w (Clocked digit)) (record { tms = low.tms; tdi = low.tdi; tdo = low.tdo })
levels_after (Waited usec ∷ items) w are = levels_after items (after_item w (Waited usec)) (record { tms = are.tms; tdi = are.tdi; tdo = are.tdo })

time_after : (items : List Item) (w : Wave) → (after_items w items).time ≡ w.time + length_of items
time_after [] w = omega arith
time_after (Clocked digit ∷ items) w = let e = time_after items (after_item w (Clocked digit)) in omega (arith, e)
time_after (Waited usec ∷ items) w = let e = time_after items (after_item w (Waited usec)) in omega (arith, e)

first_levels : AreLevels first_wave.levels
first_levels = record {
  tms = record { no_feed = refl; no_time = refl };
  tdi = record { no_feed = refl; no_time = refl };
  tdo = record { no_feed = refl; no_time = refl };
}

head_read : Reads no_view head_text (view_with 48 0 [] first_wave.levels)
head_read = record { leads = λ rest. refl }

end_read : (seen : ℕ) (rises : List Rise) (w : Wave) → AreLevels w.levels → w.time < 2 ^ 64 →
    Reads (view_with w.levels.tck seen rises w.levels) (end_text w) (view_with 48 w.time rises (rest_levels w.levels))
end_read seen rises w are small =
    reads_both (reads_time (view_with w.levels.tck seen rises w.levels) w.time small)
    (falls w.time rises w.levels (rest_levels w.levels) refl (record { tms = are.tms; tdi = are.tdi; tdo = are.tdo }))

read_whole : (v : View) (text : List ℕ) → Reads no_view text v → view_of text ≡ v
read_whole v text r = ap (λ t. after_lines no_view (lines_of t)) (sym (append-nil text)) ∙ r.leads []

-- a whole dump
seen_of : (items : List Item) → length_of items < 2 ^ 64 →
    let w = after_items first_wave items in
    view_of (wave_text items) ≡ view_with 48 w.time (rises_from first_wave items) (rest_levels w.levels)
seen_of items small =
    let e = time_after items first_wave in
    let w = after_items first_wave items in
    let items_seen = items_read 0 [] items first_wave first_levels (omega arith) in
    read_whole (view_with 48 w.time (rises_from first_wave items) (rest_levels w.levels)) (wave_text items)
    (reads_both (reads_both head_read items_seen.1) (end_read items_seen.0 (rises_from first_wave items) w (levels_after items first_wave first_levels) (omega (arith, e))))

clocks_from : (items : List Item) (w : Wave) →
    map (λ (rise : Rise). rise.clock) (rises_from w items) ≡ clocks_of w.time items
clocks_from [] w = refl
clocks_from (Clocked digit ∷ items) w =
    ap (λ clocks. (rise_of w digit).clock ∷ clocks) (clocks_from items (after_item w (Clocked digit)))
clocks_from (Waited usec ∷ items) w = clocks_from items (after_item w (Waited usec))

pub clocks_seen : (items : List Item) → length_of items < 2 ^ 64 →
    seen_clocks (view_of (wave_text items)) ≡ clocks_of 0 items
clocks_seen items small = ap seen_clocks (seen_of items small) ∙ clocks_from items first_wave

pub time_seen : (items : List Item) → length_of items < 2 ^ 64 → (view_of (wave_text items)).time ≡ length_of items
time_seen items small = ap (λ (v : View). v.time) (seen_of items small) ∙ time_after items first_wave ∙ nothing_before (length_of items)
  where
    nothing_before : (n : ℕ) → 0 + n ≡ n
    nothing_before n = omega arith

-- ---- the state

state_spelled : (tap : Tap) → digits_value 2 (levels_for (tap_number tap)) ≡ tap_number tap
state_spelled Reset = refl
state_spelled Idle = refl
state_spelled DrSelect = refl
state_spelled DrCapture = refl
state_spelled DrShift = refl
state_spelled DrExit1 = refl
state_spelled DrPause = refl
state_spelled DrExit2 = refl
state_spelled DrUpdate = refl
state_spelled IrSelect = refl
state_spelled IrCapture = refl
state_spelled IrShift = refl
state_spelled IrExit1 = refl
state_spelled IrPause = refl
state_spelled IrExit2 = refl
state_spelled IrUpdate = refl

-- digits that are no digits are no number of a state
no_state : (tap : Tap) → digits_value 2 (codes "xxxx") ≡ tap_number tap → ⊥
no_state tap e = let less = below_16 tap in omega (arith, less, e)

shown_if_spelled : (known : Option Tap) (tap : Tap) →
    digits_value 2 (levels_for (shown_number known)) ≡ tap_number tap → shown_number known ≡ tap_number tap
shown_if_spelled (Some state) tap e = sym (state_spelled state) ∙ e
shown_if_spelled None tap e = absurd (no_state tap e)

unknown_if_spelled : (known : Option Tap) → levels_for (shown_number known) ≡ codes "xxxx" → shown_number known ≡ 16
unknown_if_spelled (Some state) e = absurd (no_state state (ap (digits_value 2) (sym e) ∙ state_spelled state))
unknown_if_spelled None e = refl

levels_show : (values : List Bool) → IsShown (levels_for (shown_number (known_after values))) values
levels_show values =
    let known = known_after values in
    let unknown = number_unknown values in record {
      state = λ tap. (
        (λ e. (number_exactly values tap).0 (shown_if_spelled known tap e)),
        (λ h. ap (λ n. digits_value 2 (levels_for n)) ((number_exactly values tap).1 h) ∙ state_spelled tap),
      );
      unknown = ((λ e. unknown.0 (unknown_if_spelled known e)), (λ none. ap levels_for (unknown.1 none)));
    }

pub shown_at_end : (items : List Item) → length_of items < 2 ^ 64 →
    IsShown (state_levels (view_of (wave_text items))) (tms_values items)
shown_at_end items small =
    let levels = ap state_levels (seen_of items small) ∙ ap levels_for (shown_is items) in
    subst (λ l. IsShown l (tms_values items)) (sym levels) (levels_show (tms_values items))

-- the states before clocks that follow others
shown_from : (items : List Item) (earlier : List Bool) (w : Wave) → w.states ≡ states_led all_states earlier →
    w.levels.state ≡ shown_number (settled_state w.states) →
    AreShown earlier (tms_values items) (map (λ (rise : Rise). rise.state) (rises_from w items))
shown_from [] earlier w states number = refl
shown_from (Clocked digit ∷ items) earlier w states number =
    let tms = (input_of_pin digit).tms in
    let known : w.levels.state ≡ shown_number (known_after earlier) =
    number ∙ ap (λ s. shown_number (settled_state s)) states in
    let after : states_after w.states tms ≡ states_led all_states (earlier ++ tms ∷ []) =
    ap (λ s. states_after s tms) states ∙ sym (led_once all_states earlier tms) in (
      subst (λ n. IsShown (levels_for n) earlier) (sym known) (levels_show earlier),
      shown_from items (earlier ++ tms ∷ []) (after_item w (Clocked digit)) after refl,
    )
shown_from (Waited usec ∷ items) earlier w states number =
    shown_from items earlier (after_item w (Waited usec)) states number

pub shown_before : (items : List Item) → length_of items < 2 ^ 64 →
    AreShown [] (tms_values items) (states_before (view_of (wave_text items)))
shown_before items small =
    let before = ap states_before (seen_of items small) in
    subst (AreShown [] (tms_values items)) (sym before) (shown_from items [] first_wave refl refl)

-- ---- two lists

pub same_clocks : (a b : List Item) → length_of a < 2 ^ 64 → length_of b < 2 ^ 64 → wave_text a ≡ wave_text b →
    clocks_of 0 a ≡ clocks_of 0 b
same_clocks a b p q e = sym (clocks_seen a p) ∙ ap (λ t. seen_clocks (view_of t)) e ∙ clocks_seen b q

pub same_length : (a b : List Item) → length_of a < 2 ^ 64 → length_of b < 2 ^ 64 → wave_text a ≡ wave_text b → length_of a ≡ length_of b
same_length a b p q e = sym (time_seen a p) ∙ ap (λ t. (view_of t).time) e ∙ time_seen b q
