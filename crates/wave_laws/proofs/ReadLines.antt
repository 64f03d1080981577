-- A dump is read line by line.
use Rattle.std.proofs.Common.{◌≡◌, ◌<◌, ◌+◌, ◌%◌, ◌^◌, ◌∙◌, ℕ, Bool, true, false, List, [], ◌∷◌, ◌++◌, refl, sym, ap, subst, append_assoc, arith}
use Rattle.std.specs.Prelude.{◌==◌, ◌&&◌, not, if◌then◌else◌}
use Rattle.std.specs.Fmt.{decimal}
use Rattle.std.specs.List.{list_all}
use Rattle.std.specs.Str.Parse.{digits_value}
use Rattle.std.proofs.lemmas.Bool.{and_parts}
use Rattle.std.proofs.lemmas.Bool.Decides.{nat_tests}
use Rattle.std.proofs.lemmas.Fmt.{decimal_by_steps, decimal_is_IsNumeral}
use Rattle.pin_lines.specs.PinLines.{lines_of, in_front}
use Rattle.wave_tool.specs.Waves.{wire_change, time_line}
use Rattle.wave_laws.specs.Readers.{View, with_level, after_line, after_lines}

-- no byte ends a line
abbrev pub holds_no_feed : List ℕ → Bool
holds_no_feed line = list_all (λ b. not (b == 10)) line

pub first_line : (line rest : List ℕ) → holds_no_feed line ≡ true → lines_of (line ++ 10 ∷ rest) ≡ line ∷ lines_of rest
first_line [] rest e = refl
first_line (b ∷ line) rest e = let parts = and_parts (not (b == 10)) (holds_no_feed line) e in by (b == 10) parts.0 (first_line line rest parts.1)
  where
    by : (t : Bool) → not t ≡ true → lines_of (line ++ 10 ∷ rest) ≡ line ∷ lines_of rest →
        (if t then [] ∷ lines_of (line ++ 10 ∷ rest) else in_front b (lines_of (line ++ 10 ∷ rest))) ≡ (b ∷ line) ∷ lines_of rest
    by true e known = absurd cc
    by false e known = ap (in_front b) known

-- A text in front of any other leads from one view to another.
pub record Reads (before : View) (text : List ℕ) (after : View) : Type 0 where
  pub leads : (rest : List ℕ) → after_lines before (lines_of (text ++ rest)) ≡ after_lines after (lines_of rest)

pub reads_both : {u v w : View} {a b : List ℕ} → Reads u a v → Reads v b w → Reads u (a ++ b) w
reads_both {u} {v} {w} {a} {b} first second = record {
  leads = λ rest. ap (λ t. after_lines u (lines_of t)) (append_assoc a b rest) ∙ first.leads (b ++ rest) ∙ second.leads rest;
}

pub reads_none : {u v : View} → u ≡ v → Reads u [] v
reads_none e = record { leads = λ rest. ap (λ (x : View). after_lines x (lines_of rest)) e }

pub reads_line : (v : View) (line : List ℕ) → holds_no_feed line ≡ true → Reads v (line ++ 10 ∷ []) (after_line v line)
reads_line v line e = record {
  leads = λ rest. ap (λ t. after_lines v (lines_of t)) (append_assoc line (10 ∷ []) rest) ∙ ap (after_lines v) (first_line line rest e);
}

pub reads_as : {u v w : View} {text : List ℕ} → Reads u text v → v ≡ w → Reads u text w
reads_as {u = u} {text = text} r e = subst (λ x. Reads u text x) e r

-- ---- times

no_digit_feeds : (d : ℕ) → not (48 + d == 10) ≡ true
no_digit_feeds d = grind (arith, nat_tests)

no_feed-append : (a b : List ℕ) → holds_no_feed a ≡ true → holds_no_feed b ≡ true → holds_no_feed (a ++ b) ≡ true
no_feed-append [] b p q = q
no_feed-append (x ∷ a) b p q = let parts = and_parts (not (x == 10)) (holds_no_feed a) p in by (not (x == 10)) parts.0 (no_feed-append a b parts.1 q)
  where
    by : (t : Bool) → t ≡ true → holds_no_feed (a ++ b) ≡ true → (t && holds_no_feed (a ++ b)) ≡ true
    by true e h = h
    by false e h = absurd cc

decimals_do_not_feed : (n : ℕ) → n < 2 ^ 64 → holds_no_feed (decimal n) ≡ true
decimals_do_not_feed n small = decimal_by_steps (λ n ds. holds_no_feed ds ≡ true) (λ n less. one n) (λ n ds le h. no_feed-append ds ((48 + n % 10) ∷ []) h (one (n % 10))) n small
  where
    one : (d : ℕ) → holds_no_feed ((48 + d) ∷ []) ≡ true
    one d = by (not (48 + d == 10)) (no_digit_feeds d)
      where
        by : (t : Bool) → t ≡ true → (t && true) ≡ true
        by true e = refl
        by false e = absurd cc

pub reads_time : (v : View) (n : ℕ) → n < 2 ^ 64 → Reads v (time_line n) (record v { time = n })
reads_time v n small =
    reads_as (reads_line v (35 ∷ decimal n) (decimals_do_not_feed n small)) (ap (λ t. record v { time = t }) (decimal_is_IsNumeral n small).1)

-- ---- wires

-- a level that is neither a line feed nor a `#`
pub record IsLevel (level : ℕ) : Type 0 where
  pub no_feed : (level == 10) ≡ false
  pub no_time : (level == 35) ≡ false

-- a wire that may change
pub reads_wire : (v : View) (id old new : ℕ) → (id == 10) ≡ false → IsLevel new → (old ≡ new → with_level v id new ≡ v) →
    Reads v (wire_change id old new) (with_level v id new)
reads_wire v id old new fed level same = by (old == new) refl
  where
    equal : (a b : ℕ) → (a == b) ≡ true → a ≡ b
    equal a b e = grind (arith, nat_tests)

    changed : (s t : Bool) → s ≡ false → t ≡ false → (not s && (not t && true)) ≡ true
    changed true t p q = absurd cc
    changed false true p q = absurd cc
    changed false false p q = refl

    noted : (t : Bool) → t ≡ false → (if t then record v { time = digits_value 10 (id ∷ []) } else with_level v id new) ≡ with_level v id new
    noted true e = absurd cc
    noted false e = refl

    by : (t : Bool) → (old == new) ≡ t → Reads v (if t then [] else new ∷ id ∷ 10 ∷ []) (with_level v id new)
    by true e = reads_none (sym (same (equal old new e)))
    by false e = reads_as (reads_line v (new ∷ id ∷ []) (changed (new == 10) (id == 10) level.no_feed fed)) (noted (new == 35) level.no_time)
