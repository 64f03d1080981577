-- Clocks and waits, one after another.
use Rattle.std.proofs.Common.{◌≡◌, ◌<◌, ◌≤◌, ◌+◌, ◌-◌, ◌*◌, ◌∙◌, ℕ, Bool, true, false, List, [], ◌∷◌, ◌++◌, length, map, take, drop, get_or, add-one, Option, None, Some, refl, sym, ap, subst, append_assoc, append-nil, arith}
use Rattle.std.specs.Prelude.{nat_le, Result, if◌then◌else◌}
use Rattle.std.specs.List.{flat_map, list_any}
use Rattle.std.specs.Option.{option_map_or}
use Rattle.std.specs.Str.Parse.{digits_value}
use Rattle.std.proofs.Math.ListN.{drop_of_length-le}
use Rattle.std.proofs.lemmas.Bool.{or_parts, and_parts, leb-true}
use Rattle.std.proofs.Math.Seq.{take-suc}
use Rattle.std.proofs.lemmas.List.{length-drop, length-take, map-append, take-append-drop, take_all}
use Rattle.base.specs.Decimals.{is_decimal}
use Rattle.tool_io.specs.declared.lines.Lines.{Lines}
use Rattle.tool_io.specs.declared.outside.Sink.{Ghosts as SinkOf}
use Rattle.tool_io.specs.Lines.{IsWhole, Puts, PutsBroken, HasPut}
use Rattle.tool_io.proofs.PutLemmas.{put_then, put_then_front, front_with, puts_same, front_same, puts_nothing}
use Rattle.pin_lines.specs.PinLines.{lines_of, is_bad_line, has_bad_line, line_digits}
use Rattle.trace_check.proofs.LineLemmas.{drop_twice}
use Rattle.trace_check.proofs.TraceLemmas.{digits_short}
use Rattle.wave_tool.specs.declared.wave.Levels.{Levels}
use Rattle.wave_tool.specs.Items.{Item, Clocked, Waited, most_usec, after_wait, is_usec, waits_in, line_waits, line_items, items_in}
use Rattle.wave_tool.specs.Waves.{Wave, changes, are_same, time_line, moment, item_text, after_item, items_text, after_items, first_wave}

pub text_join : (xs ys : List Item) (w : Wave) → items_text w (xs ++ ys) ≡ items_text w xs ++ items_text (after_items w xs) ys
text_join [] ys w = refl
text_join (x ∷ xs) ys w =
    ap (λ t. item_text w x ++ t) (text_join xs ys (after_item w x))
    ∙ sym (append_assoc (item_text w x) (items_text (after_item w x) xs) (items_text (after_items (after_item w x) xs) ys))

pub after_join : (xs ys : List Item) (w : Wave) → after_items w (xs ++ ys) ≡ after_items (after_items w xs) ys
after_join [] ys w = refl
after_join (x ∷ xs) ys w = after_join xs ys (after_item w x)

-- how far they lead in time

pub clocked_time : (ds : List ℕ) (w : Wave) → (after_items w (map Clocked ds)).time ≡ w.time + 2 * length ds
clocked_time [] w = omega arith
clocked_time (d ∷ ds) w = let e = clocked_time ds (after_item w (Clocked d)) in omega (arith, e)

waits_time : (bytes : List ℕ) (w : Wave) → (after_items w (waits_in bytes)).time ≤ w.time + most_usec
waits_time bytes w = by (is_usec bytes) refl
  where
    by : (t : Bool) → is_usec bytes ≡ t → (after_items w (if t then Waited (digits_value 10 bytes) ∷ [] else [])).time ≤ w.time + most_usec
    by true e = let few = leb-true (digits_value 10 bytes) most_usec (and_parts (is_decimal bytes) (nat_le (digits_value 10 bytes) most_usec) e).1 in omega (arith, few)
    by false e = omega arith

line_waits_time : (o : Option (List ℕ)) (w : Wave) → (after_items w (option_map_or waits_in o [])).time ≤ w.time + most_usec
line_waits_time None w = omega arith
line_waits_time (Some bytes) w = waits_time bytes w

line_time : (line : List ℕ) (len : ℕ) (w : Wave) → length line ≤ len → 0 < len → (after_items w (line_items line)).time ≤ w.time + 8589934592 * len
line_time line len w short some =
    let joined = ap (λ (v : Wave). v.time) (after_join (map Clocked (line_digits line)) (line_waits line) w) in
    let clocks = clocked_time (line_digits line) w in
    let waits = line_waits_time (after_wait line) (after_items w (map Clocked (line_digits line))) in
    let few = digits_short line in
    omega (arith, joined, clocks, waits, few, short, some)

-- the clocks of the first digits are put
module _ {K : Type 0} (sink : SinkOf K) (digits : List ℕ) where
  pub record AreClockedUpTo (old new : Lines K) (first : Wave) (n : ℕ) (wave : Wave) : Type 0 where
    pub within : n ≤ length digits
    pub puts : Puts sink old (items_text first (map Clocked (take n digits))) new
    pub is : wave ≡ after_items first (map Clocked (take n digits))

  pub none_clocked : (lines : Lines K) (first : Wave) → IsWhole lines → AreClockedUpTo lines lines first 0 first
  none_clocked lines first whole = record { within = omega arith; puts = puts_nothing sink lines whole; is = refl }

  pub clocked_so_far : {old new : Lines K} {first : Wave} {n : ℕ} {wave : Wave} → AreClockedUpTo old new first n wave → wave.time ≡ first.time + 2 * n
  clocked_so_far {first = first} {n = n} h =
      let e = clocked_time (take n digits) first in
      let l = length-take n digits in
      let t = ap (λ (v : Wave). v.time) h.is in
      omega (arith, e, l, t, h.within)

  one_more : (n d : ℕ) → n < length digits → d ≡ get_or digits n 0 → map Clocked (take (n + 1) digits) ≡ map Clocked (take n digits) ++ Clocked d ∷ []
  one_more n d lt e =
      ap (λ k. map Clocked (take k digits)) (add-one n) ∙ ap (map Clocked) (take-suc digits n 0 lt) ∙ map-append Clocked (take n digits) (get_or digits n 0 ∷ [])
      ∙ ap (λ x. map Clocked (take n digits) ++ Clocked x ∷ []) (sym e)

  module _ (old now : Lines K) (first : Wave) (n d : ℕ) (wave : Wave) (h : AreClockedUpTo old now first n wave) (lt : n < length digits) (e : d ≡ get_or digits n 0) where
    text_more : items_text first (map Clocked (take n digits)) ++ item_text wave (Clocked d) ≡ items_text first (map Clocked (take (n + 1) digits))
    text_more =
        ap (λ (v : Wave). items_text first (map Clocked (take n digits)) ++ item_text v (Clocked d)) h.is
        ∙ ap (λ t. items_text first (map Clocked (take n digits)) ++ t) (sym (append-nil (item_text (after_items first (map Clocked (take n digits))) (Clocked d))))
        ∙ sym (ap (items_text first) (one_more n d lt e) ∙ text_join (map Clocked (take n digits)) (Clocked d ∷ []) first)

    pub clock_put : (new : Lines K) (after : Wave) → Puts sink now (item_text wave (Clocked d)) new → after ≡ after_item wave (Clocked d) →
        AreClockedUpTo old new first (n + 1) after
    clock_put new after puts led = record {
      within = omega (arith, lt);
      puts = puts_same text_more (put_then h.puts puts);
      is = led ∙ ap (λ (v : Wave). after_item v (Clocked d)) h.is
          ∙ sym (ap (after_items first) (one_more n d lt e) ∙ after_join (map Clocked (take n digits)) (Clocked d ∷ []) first);
    }

    pub clock_failed : (torn : Lines K) → PutsBroken sink now (item_text wave (Clocked d)) torn → PutsBroken sink old (items_text first (map Clocked digits)) torn
    clock_failed torn front =
        let more = items_text (after_items first (map Clocked (take (n + 1) digits))) (map Clocked (drop (n + 1) digits)) in
        front_same
        (ap (λ t. t ++ more) text_more ∙ sym (text_join (map Clocked (take (n + 1) digits)) (map Clocked (drop (n + 1) digits)) first)
        ∙ ap (items_text first) (sym (map-append Clocked (take (n + 1) digits) (drop (n + 1) digits)) ∙ ap (map Clocked) (take-append-drop (n + 1) digits)))
        (front_with more (put_then_front h.puts front))

  pub all_clocked : {old new : Lines K} {first : Wave} {n : ℕ} {wave : Wave} → AreClockedUpTo old new first n wave → length digits ≤ n → take n digits ≡ digits
  all_clocked {n = n} h end = take_all n digits end

-- the items of the lines up to a place of a text are put
module _ {K : Type 0} (sink : SinkOf K) (text : List ℕ) where
  pub record ArePutUpTo (old new : Lines K) (at : ℕ) (wave : Wave) : Type 0 where
    pub within : at ≤ length text
    pub good : has_bad_line (drop at text) ≡ false
    pub done : List Item
    pub parts : items_in text ≡ done ++ items_in (drop at text)
    pub puts : Puts sink old (items_text first_wave done) new
    pub is : wave ≡ after_items first_wave done
    pub time : wave.time ≤ 8589934592 * at

  pub none_put : (lines : Lines K) → IsWhole lines → has_bad_line text ≡ false → ArePutUpTo lines lines 0 first_wave
  none_put lines whole good = record {
    within = omega arith;
    good = good;
    done = [];
    parts = refl;
    puts = puts_nothing sink lines whole;
    is = refl;
    time = omega arith;
  }

  module _ (old now : Lines K) (rest line : List ℕ) (at len : ℕ) (wave : Wave) (is : rest ≡ drop at text) (h : ArePutUpTo old now at wave) (some : 0 < len)
      (few : len ≤ length rest) (short : length line ≤ len) (first : lines_of rest ≡ line ∷ lines_of (drop len rest)) where
    left_over : items_in (drop at text) ≡ line_items line ++ items_in (drop len rest)
    left_over = ap items_in (sym is) ∙ ap (flat_map line_items) first

    pub line_good : is_bad_line line ≡ false
    line_good = (or_parts (is_bad_line line) (has_bad_line (drop len rest)) (sym (ap (list_any is_bad_line) first) ∙ ap has_bad_line is ∙ h.good)).0

    pub line_put : (new : Lines K) (after : Wave) → Puts sink now (items_text wave (line_items line)) new → after ≡ after_items wave (line_items line) →
        ArePutUpTo old new (at + len) after
    line_put new after puts e =
        let r : length rest ≡ length text - at = ap (λ (xs : List ℕ). length xs) is ∙ length-drop at text in
        let far : drop len rest ≡ drop (at + len) text = ap (drop len) is ∙ drop_twice len at text in
        let bad = sym (ap (list_any is_bad_line) first) ∙ ap has_bad_line is ∙ h.good in
        let led = line_time line len wave short some in
        let time = ap (λ (v : Wave). v.time) e in
        record {
          within = omega (arith, r, few, h.within);
          good = ap has_bad_line (sym far) ∙ (or_parts (is_bad_line line) (has_bad_line (drop len rest)) bad).1;
          done = h.done ++ line_items line;
          parts = h.parts ∙ ap (λ t. h.done ++ t) left_over ∙ sym (append_assoc h.done (line_items line) (items_in (drop len rest)))
              ∙ ap (λ t. (h.done ++ line_items line) ++ items_in t) far;
          puts = puts_same (ap (λ (v : Wave). items_text first_wave h.done ++ items_text v (line_items line)) h.is ∙ sym (text_join h.done (line_items line) first_wave))
              (put_then h.puts puts);
          is = e ∙ ap (λ (v : Wave). after_items v (line_items line)) h.is ∙ sym (after_join h.done (line_items line) first_wave);
          time = omega (arith, led, time, h.time);
        }

    pub line_failed : (torn : Lines K) → PutsBroken sink now (items_text wave (line_items line)) torn → PutsBroken sink old (items_text first_wave (items_in text)) torn
    line_failed torn front =
        let more = items_text (after_items wave (line_items line)) (items_in (drop len rest)) in
        front_same
        (ap (λ t. items_text first_wave h.done ++ t) (sym (text_join (line_items line) (items_in (drop len rest)) wave))
        ∙ ap (λ (v : Wave). items_text first_wave h.done ++ items_text v (line_items line ++ items_in (drop len rest))) h.is
        ∙ sym (text_join h.done (line_items line ++ items_in (drop len rest)) first_wave)
        ∙ ap (items_text first_wave) (ap (λ t. h.done ++ t) (sym left_over) ∙ sym h.parts))
        (put_then_front h.puts (front_with more front))

  pub all_done : (old new : Lines K) (at : ℕ) (wave : Wave) (h : ArePutUpTo old new at wave) → length text ≤ at → h.done ≡ items_in text
  all_done old new at wave h end =
      sym (h.parts ∙ ap (λ (t : List ℕ). h.done ++ items_in t) (drop_of_length-le text end) ∙ append-nil h.done)

-- the same text of a call
pub has_put_same : {K T E : Type 0} (sink : SinkOf K) (a b : Lines K) {xs ys : List ℕ} (r : Result T E) → xs ≡ ys → HasPut sink a xs b r →
    HasPut sink a ys b r
has_put_same sink a b r e p = subst (λ (zs : List ℕ). HasPut sink a zs b r) e p

-- nothing changes, or something does
pub no_moment : (time : ℕ) (old new : Levels) → are_same old new ≡ true → [] ≡ moment time old new
no_moment time old new e = sym (ap (λ t. if t then [] else time_line time ++ changes old new) e)

pub some_moment : (time : ℕ) (old new : Levels) → are_same old new ≡ false → time_line time ++ changes old new ≡ moment time old new
some_moment time old new e = sym (ap (λ t. if t then [] else time_line time ++ changes old new) e)
