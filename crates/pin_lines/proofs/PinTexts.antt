-- The text of events has the digits of their clocks, and no bad line.
use Rattle.std.proofs.Common.{◌≡◌, ◌≤◌, ℕ, zero, suc, ◌+◌, ◌*◌, ◌==◌, ◌/◌, ◌%◌, Bool, true, false, cond, not, map, List, [], ◌∷◌, ◌++◌, length, All, refl, sym, ap, subst, ◌∙◌, arith, append_assoc, append-nil, length-append}
use Rattle.std.proofs.lemmas.Bool.{ne_eqb, eqb-false, and_from, and_parts, le-leb}
use Rattle.std.proofs.lemmas.List.Folds.{list_all-append}
use Rattle.std.proofs.lemmas.List.Elements.{All-head, All-tail}
use Rattle.std.specs.List.{list_all}
use Rattle.std.specs.Fmt.{signed_decimal}
use Rattle.std.specs.Prelude.{pos, codes, nat_lt, nat_le}
use Rattle.base.specs.Bits.{number_of, low_bits}
use Rattle.bit_list.specs.Hexadecimal.{hex_digit, hex_digits, digits_needed, all_hex_digits}
use Rattle.bit_list.specs.Ranges.{taken}
use Rattle.tool_io.specs.Texts.{is_plain, escaped_byte, escaped}
use Rattle.stapl_lexer.specs.Names.{is_name_byte, IsUpperName}
use Rattle.dev_card.specs.declared.desc.Kind.{Kind}
use Rattle.dev_card.specs.declared.desc.Kind.TheVariants.{Plain, Regs, Flash}
use Rattle.dev_card.specs.declared.desc.Desc.{Desc}
use Rattle.dev_card.specs.declared.desc.RegDesc.{RegDesc}
use Rattle.dev_card.specs.Descriptions.{IsGood, HasPartsOf}
use Rattle.dev_card.specs.Card.{Card}
use Rattle.dev_card.specs.Board.{Clock, Input}
use Rattle.dev_card.specs.Reports.{named_text, registers_text, are_ones, word_text, words_text, memory_text, held_text, report_line, report_of}
use Rattle.stapl_meaning.specs.declared.events.Event.{Event}
use Rattle.stapl_meaning.specs.declared.events.Event.TheVariants.{Print, Export, Usec, Hertz}
use Rattle.stapl_meaning.specs.declared.events.Event.TheVariants as events
use Rattle.stapl_meaning.specs.declared.events.ExportValue.{ExportValue}
use Rattle.stapl_meaning.specs.declared.events.ExportValue.TheVariants.{Int, Bit, Array}
use Rattle.stapl_meaning.specs.declared.events.RunFault.{RunFault}
use Rattle.stapl_meaning.specs.declared.events.RunFault.TheVariants.{DivideByZero, IndexOutOfRange, RangeReversed, LengthMismatch, BadLength, BadCount, ShiftCount, ZeroStep, NoRecord, RecordsFull, BadChar}
use Rattle.stapl_meaning.specs.declared.events.Ending.{Ending}
use Rattle.stapl_meaning.specs.declared.events.Ending.TheVariants.{Exit, Fault, Spent}
use Rattle.stapl_meaning.specs.Effects.{digit_of}
use Rattle.stapl_meaning.specs.Texts.{export_text, event_line, pin_digit, pin_line, pin_limit, bytes_of, waiting, events_text, fault_name, ending_line, text_of}
use Rattle.pin_lines.specs.PinLines.{is_pin_digit, are_pin_digits, clock_of_pin, inputs_of_pins, clocks_of_pins, pins_in, has_bad_line}
use Rattle.pin_lines.proofs.Lines.{IsOneLine, both_one_line, above_feed, signed_is_one, not_feed, named_is_one, IsPart, no_part, both_parts, line_part, skipped_part}

-- the clocks among events, and their digits
abbrev pub clocks_among : List Event → List Clock
clocks_among [] = []
clocks_among (events.Clock tms tdi tdo ∷ es) = record { tms = tms; tdi = tdi; tdo = tdo } ∷ clocks_among es
clocks_among (Print bytes ∷ es) = clocks_among es
clocks_among (Export key value ∷ es) = clocks_among es
clocks_among (Usec n ∷ es) = clocks_among es
clocks_among (Hertz n ∷ es) = clocks_among es

abbrev pub digit_of_clock : Clock → ℕ
digit_of_clock k = pin_digit k.tms k.tdi k.tdo

abbrev pub digits_among : List Event → List ℕ
digits_among es = map digit_of_clock (clocks_among es)

abbrev pub input_of : Clock → Input
input_of k = record { tms = k.tms; tdi = k.tdi }

-- the digit of a clock tells it
digit_is_pin : (a b c : Bool) → is_pin_digit (pin_digit a b c) ≡ true
digit_is_pin true true true = refl
digit_is_pin true true false = refl
digit_is_pin true false true = refl
digit_is_pin true false false = refl
digit_is_pin false true true = refl
digit_is_pin false true false = refl
digit_is_pin false false true = refl
digit_is_pin false false false = refl

digit_tells : (a b c : Bool) → clock_of_pin (pin_digit a b c) ≡ record { tms = a; tdi = b; tdo = c }
digit_tells true true true = refl
digit_tells true true false = refl
digit_tells true false true = refl
digit_tells true false false = refl
digit_tells false true true = refl
digit_tells false true false = refl
digit_tells false false true = refl
digit_tells false false false = refl

pub digits_tell : (ks : List Clock) → clocks_of_pins (map digit_of_clock ks) ≡ ks
digits_tell [] = refl
digits_tell (k ∷ ks) = ap (λ x. x ∷ clocks_of_pins (map digit_of_clock ks)) (digit_tells k.tms k.tdi k.tdo) ∙ ap (λ xs. k ∷ xs) (digits_tell ks)

pub digits_tell_inputs : (ks : List Clock) → inputs_of_pins (map digit_of_clock ks) ≡ map input_of ks
digits_tell_inputs [] = refl
digits_tell_inputs (k ∷ ks) =
    ap (λ (x : Clock). input_of x ∷ inputs_of_pins (map digit_of_clock ks)) (digit_tells k.tms k.tdi k.tdo) ∙ ap (λ xs. input_of k ∷ xs) (digits_tell_inputs ks)

-- digits that wait for their line
pub record IsWaiting (digits : List ℕ) : Type 0 where
  pub most : length digits ≤ 64
  pub pins : list_all is_pin_digit digits ≡ true

pin_line_part : (digits : List ℕ) → IsWaiting digits → IsPart (pin_line digits) digits
pin_line_part [] w = no_part
pin_line_part (d ∷ ds) w =
    let digits : List ℕ = d ∷ ds in
    let e : (length digits == 0) ≡ false = ne_eqb (length digits) 0 (λ e. absurd (omega (arith, e))) in
    let some : nat_le 1 (length digits) ≡ true = le-leb 1 (length digits) (omega arith) in
    let few : nat_le (length digits) pin_limit ≡ true = le-leb (length digits) 64 w.most in
    let good : are_pin_digits digits ≡ true = and_from _ _ (and_from _ _ some few) w.pins in
    let part : IsPart ((67 ∷ 32 ∷ digits) ++ (10 ∷ [])) digits =
    line_part (67 ∷ 32 ∷ digits) digits (refl, (refl, named_is_one is_pin_digit refl digits w.pins)) refl (ap not good) in
    subst (λ b. IsPart (cond b [] (codes "C " ++ digits ++ 10 ∷ [])) digits) (sym e) part

-- lines of other events
plain_byte : (b : ℕ) (t : Bool) → is_plain b ≡ t → IsOneLine (cond t (b ∷ []) (92 ∷ hex_digit (b / 16) ∷ hex_digit (b % 16) ∷ []))
plain_byte b true e = (not_feed is_plain refl b e, tt)
plain_byte b false e = (refl, (hex_is_one (b / 16), (hex_is_one (b % 16), tt)))
  where
    glyph : (t : Bool) (n : ℕ) → (cond t (48 + n) (55 + n) == 10) ≡ false
    glyph true n = above_feed 48 n (omega arith)
    glyph false n = above_feed 55 n (omega arith)

    hex_is_one : (n : ℕ) → (hex_digit n == 10) ≡ false
    hex_is_one n = glyph (nat_lt n 10) n

escaped_is_one : (bytes : List ℕ) → IsOneLine (escaped bytes)
escaped_is_one [] = tt
escaped_is_one (b ∷ bytes) = both_one_line (escaped_byte b) (escaped bytes) (plain_byte b (is_plain b) refl) (escaped_is_one bytes)

glyph_is_one : (t : Bool) (n : ℕ) → (cond t (48 + n) (55 + n) == 10) ≡ false
glyph_is_one true n = above_feed 48 n (omega arith)
glyph_is_one false n = above_feed 55 n (omega arith)

hexes_are_one : (n : ℕ) (bits : List Bool) → IsOneLine (hex_digits n bits)
hexes_are_one zero bits = tt
hexes_are_one (suc n) bits =
    let m : ℕ = number_of (taken (4 * n) 4 bits) in
    (glyph_is_one (nat_lt m 10) m, hexes_are_one n bits)

bits_are_one : (bits : List Bool) → IsOneLine (all_hex_digits bits)
bits_are_one bits = hexes_are_one (digits_needed (length bits)) bits

digit_is_one : (b : Bool) → IsOneLine (digit_of b ∷ [])
digit_is_one true = (refl, tt)
digit_is_one false = (refl, tt)

export_is_one : (v : ExportValue) → IsOneLine (export_text v)
export_is_one (Int z) = signed_is_one z
export_is_one (Bit b) = digit_is_one b
export_is_one (Array bits) = (refl, bits_are_one bits)

print_part : (bytes : List ℕ) → IsPart (event_line (Print bytes)) []
print_part bytes = skipped_part (80 ∷ 32 ∷ escaped bytes) (refl, (refl, escaped_is_one bytes)) refl

export_part : (key : List ℕ) (v : ExportValue) → IsPart (event_line (Export key v)) []
export_part key v =
    let one : IsOneLine ((escaped key ++ codes " = ") ++ export_text v) =
    both_one_line (escaped key ++ codes " = ") (export_text v) (both_one_line (escaped key) (codes " = ") (escaped_is_one key) (refl, (refl, (refl, tt)))) (export_is_one v) in
    skipped_part (88 ∷ 32 ∷ ((escaped key ++ codes " = ") ++ export_text v)) (refl, (refl, one)) refl

usec_part : (n : ℕ) → IsPart (event_line (Usec n)) []
usec_part n = skipped_part (87 ∷ 32 ∷ signed_decimal (pos n)) (refl, (refl, signed_is_one (pos n))) refl

hertz_part : (n : ℕ) → IsPart (event_line (Hertz n)) []
hertz_part n = skipped_part (70 ∷ 32 ∷ signed_decimal (pos n)) (refl, (refl, signed_is_one (pos n))) refl

fault_is_one : (k : RunFault) → IsOneLine (fault_name k)
fault_is_one DivideByZero = named_is_one is_name_byte refl (fault_name DivideByZero) refl
fault_is_one IndexOutOfRange = named_is_one is_name_byte refl (fault_name IndexOutOfRange) refl
fault_is_one RangeReversed = named_is_one is_name_byte refl (fault_name RangeReversed) refl
fault_is_one LengthMismatch = named_is_one is_name_byte refl (fault_name LengthMismatch) refl
fault_is_one BadLength = named_is_one is_name_byte refl (fault_name BadLength) refl
fault_is_one BadCount = named_is_one is_name_byte refl (fault_name BadCount) refl
fault_is_one ShiftCount = named_is_one is_name_byte refl (fault_name ShiftCount) refl
fault_is_one ZeroStep = named_is_one is_name_byte refl (fault_name ZeroStep) refl
fault_is_one NoRecord = named_is_one is_name_byte refl (fault_name NoRecord) refl
fault_is_one RecordsFull = named_is_one is_name_byte refl (fault_name RecordsFull) refl
fault_is_one BadChar = named_is_one is_name_byte refl (fault_name BadChar) refl

pub ending_part : (ending : Ending) → IsPart (ending_line ending) []
ending_part (Exit k) =
    skipped_part (codes "E exit " ++ signed_decimal k) (both_one_line (codes "E exit ") (signed_decimal k) (refl, (refl, (refl, (refl, (refl, (refl, (refl, tt))))))) (signed_is_one k)) refl
ending_part (Fault k piece) =
    let line : List ℕ = ((codes "E fault " ++ fault_name k) ++ codes " at ") ++ signed_decimal (pos piece) in
    let one : IsOneLine line =
    both_one_line ((codes "E fault " ++ fault_name k) ++ codes " at ") (signed_decimal (pos piece))
    (both_one_line (codes "E fault " ++ fault_name k) (codes " at ")
    (both_one_line (codes "E fault ") (fault_name k) (refl, (refl, (refl, (refl, (refl, (refl, (refl, (refl, tt)))))))) (fault_is_one k)) (refl, (refl, (refl, (refl, tt)))))
    (signed_is_one (pos piece)) in
    skipped_part line one refl
ending_part Spent = skipped_part (codes "E spent") (refl, (refl, (refl, (refl, (refl, (refl, (refl, tt))))))) refl

-- the report of devices whose names are of one line
pub record AreNames (d : Desc) : Type 0 where
  pub name : IsOneLine d.name
  pub registers : All (λ (r : RegDesc). IsOneLine r.name) d.registers

upper_is_one : (name : List ℕ) → IsUpperName name → IsOneLine name
upper_is_one name h = named_is_one is_name_byte refl name (and_parts _ _ (and_parts _ _ h.spelled).0).1

pub are_names : (d : Desc) → IsGood d → AreNames d
are_names d g = record { name = upper_is_one d.name g.named; registers = by_kind d.kind g.parts }
  where
    none : (rs : List RegDesc) → rs ≡ [] → All (λ (r : RegDesc). IsOneLine r.name) rs
    none rs e = subst (All (λ (r : RegDesc). IsOneLine r.name)) (sym e) (λ k r l. absurd (omega (arith, l)))

    by_kind : (k : Kind) → HasPartsOf k d → All (λ (r : RegDesc). IsOneLine r.name) d.registers
    by_kind Plain h = none d.registers h.0
    by_kind Regs h = λ k r l. upper_is_one _ (h.0.each k r l).named
    by_kind Flash h = none d.registers h.0

named_text_is_one : (name text : List ℕ) → IsOneLine name → IsOneLine text → IsOneLine (named_text name text)
named_text_is_one name text p q = (refl, both_one_line (name ++ codes "=") text (both_one_line name (codes "=") p (refl, tt)) q)

registers_are_one : (rs : List RegDesc) (cells : List (List Bool)) → All (λ (r : RegDesc). IsOneLine r.name) rs → IsOneLine (registers_text rs cells)
registers_are_one [] cells h = tt
registers_are_one (r ∷ rs) [] h = tt
registers_are_one (r ∷ rs) (held ∷ cells) h =
    both_one_line (named_text r.name (all_hex_digits held)) (registers_text rs cells)
    (named_text_is_one r.name (all_hex_digits held) (All-head (λ (r : RegDesc). IsOneLine r.name) r rs h) (bits_are_one held))
    (registers_are_one rs cells (All-tail (λ (r : RegDesc). IsOneLine r.name) r rs h))

word_is_one : (a : ℕ) (word : List Bool) (t : Bool) → IsOneLine (cond t [] (named_text (signed_decimal (pos a)) (all_hex_digits word)))
word_is_one a word true = tt
word_is_one a word false = named_text_is_one (signed_decimal (pos a)) (all_hex_digits word) (signed_is_one (pos a)) (bits_are_one word)

words_are_one : (a : ℕ) (words : List (List Bool)) → IsOneLine (words_text a words)
words_are_one a [] = tt
words_are_one a (word ∷ words) = both_one_line (word_text a word) (words_text (a + 1) words) (word_is_one a word (are_ones word)) (words_are_one (a + 1) words)

memory_is_one : (cells : List (List Bool)) → IsOneLine (memory_text cells)
memory_is_one [] = tt
memory_is_one (address ∷ words) =
    both_one_line (named_text (codes "addr") (all_hex_digits address)) (words_text 0 words)
    (named_text_is_one (codes "addr") (all_hex_digits address) (refl, (refl, (refl, (refl, tt)))) (bits_are_one address)) (words_are_one 0 words)

held_is_one : (k : Kind) (c : Card) → AreNames c.desc → IsOneLine (held_text k c)
held_is_one Plain c h = tt
held_is_one Regs c h = registers_are_one c.desc.registers c.cells h.registers
held_is_one Flash c h = memory_is_one c.cells

report_line_part : (c : Card) → AreNames c.desc → IsPart (report_line c) []
report_line_part c h =
    let ir : List ℕ = named_text (codes "ir") (all_hex_digits (low_bits c.desc.ir_len c.instruction)) in
    let held : List ℕ = held_text c.desc.kind c in
    let ir_is_one : IsOneLine ir =
    named_text_is_one (codes "ir") (all_hex_digits (low_bits c.desc.ir_len c.instruction)) (refl, (refl, tt)) (bits_are_one (low_bits c.desc.ir_len c.instruction)) in
    skipped_part (68 ∷ 32 ∷ ((c.desc.name ++ ir) ++ held))
    (refl, (refl, both_one_line (c.desc.name ++ ir) held (both_one_line c.desc.name ir h.name ir_is_one) (held_is_one c.desc.kind c h))) refl

pub report_part : (cs : List Card) → All (λ (c : Card). AreNames c.desc) cs → IsPart (report_of cs) []
report_part [] h = no_part
report_part (c ∷ cs) h =
    both_parts (report_line c) (report_of cs) [] [] (report_line_part c (All-head (λ (c : Card). AreNames c.desc) c cs h))
    (report_part cs (All-tail (λ (c : Card). AreNames c.desc) c cs h))

-- the events
other_part : (digits line : List ℕ) → IsWaiting digits → IsPart line [] → IsPart (pin_line digits ++ line) digits
other_part digits line w h =
    subst (IsPart (pin_line digits ++ line)) (append-nil digits) (both_parts (pin_line digits) line digits [] (pin_line_part digits w) h)

-- what an event puts, and then the text of what follows it
and_then : (here more wait digits x : List ℕ) → IsPart here digits → IsPart (more ++ wait) x → IsPart ((here ++ more) ++ wait) (digits ++ x)
and_then here more wait digits x p q = subst (λ t. IsPart t (digits ++ x)) (sym (append_assoc here more wait)) (both_parts here (more ++ wait) digits x p q)

none_waits : IsWaiting []
none_waits = record { most = omega arith; pins = refl }

one_waits : (d : ℕ) → is_pin_digit d ≡ true → IsWaiting (d ∷ [])
one_waits d h = record { most = omega arith; pins = and_from (is_pin_digit d) true h refl }

more_wait : (digits : List ℕ) (d : ℕ) → IsWaiting digits → is_pin_digit d ≡ true → (length digits == 64) ≡ false → IsWaiting (digits ++ d ∷ [])
more_wait digits d w h e =
    let n : length (digits ++ d ∷ []) ≡ length digits + 1 = length-append digits (d ∷ []) in
    let less : length digits ≡ 64 → ⊥ = eqb-false (length digits) 64 e in
    record {
      most = omega (arith, n, less, w.most);
      pins = list_all-append is_pin_digit digits (d ∷ []) ∙ and_from (list_all is_pin_digit digits) (list_all is_pin_digit (d ∷ [])) w.pins (and_from (is_pin_digit d) true h refl);
    }

clock_part : (d : ℕ) (es : List Event) (digits : List ℕ) (t : Bool) → (length digits == 64) ≡ t → IsWaiting digits → is_pin_digit d ≡ true
    → ((more : List ℕ) → IsWaiting more → IsPart (events_text true more es) (more ++ digits_among es))
    → IsPart ((cond t (pin_line digits) [] ++ bytes_of true (cond t (d ∷ []) (digits ++ d ∷ [])) es) ++ pin_line (waiting true (cond t (d ∷ []) (digits ++ d ∷ [])) es))
    (digits ++ (d ∷ digits_among es))
clock_part d es digits true e w h go =
    let more : List ℕ = d ∷ [] in
    and_then (pin_line digits) (bytes_of true more es) (pin_line (waiting true more es)) digits (d ∷ digits_among es) (pin_line_part digits w) (go more (one_waits d h))
clock_part d es digits false e w h go =
    let more : List ℕ = digits ++ d ∷ [] in
    subst (IsPart (events_text true more es)) (append_assoc digits (d ∷ []) (digits_among es)) (go more (more_wait digits d w h e))

other_event : (line : List ℕ) (es : List Event) (digits : List ℕ) → IsWaiting digits → IsPart line [] → IsPart (events_text true [] es) (digits_among es)
    → IsPart (((pin_line digits ++ line) ++ bytes_of true [] es) ++ pin_line (waiting true [] es)) (digits ++ digits_among es)
other_event line es digits w h go =
    and_then (pin_line digits ++ line) (bytes_of true [] es) (pin_line (waiting true [] es)) digits (digits_among es) (other_part digits line w h) go

pub events_part : (es : List Event) (digits : List ℕ) → IsWaiting digits → IsPart (events_text true digits es) (digits ++ digits_among es)
events_part [] digits w = subst (IsPart (pin_line digits)) (sym (append-nil digits)) (pin_line_part digits w)
events_part (Print bytes ∷ es) digits w = other_event (event_line (Print bytes)) es digits w (print_part bytes) (events_part es [] none_waits)
events_part (Export key value ∷ es) digits w = other_event (event_line (Export key value)) es digits w (export_part key value) (events_part es [] none_waits)
events_part (events.Clock tms tdi tdo ∷ es) digits w =
    clock_part (pin_digit tms tdi tdo) es digits (length digits == 64) refl w (digit_is_pin tms tdi tdo) (events_part es)
events_part (Usec n ∷ es) digits w = other_event (event_line (Usec n)) es digits w (usec_part n) (events_part es [] none_waits)
events_part (Hertz n ∷ es) digits w = other_event (event_line (Hertz n)) es digits w (hertz_part n) (events_part es [] none_waits)

-- the whole text of a play
pub text_part : (es : List Event) (report : List ℕ) (ending : Ending) → IsPart report [] → IsPart (text_of true es report ending) (digits_among es)
text_part es report ending h =
    let digits : List ℕ = digits_among es in
    let text : List ℕ = events_text true [] es in
    let two : IsPart (text ++ report) digits = subst (IsPart (text ++ report)) (append-nil digits) (both_parts text report digits [] (events_part es [] none_waits) h) in
    subst (IsPart ((text ++ report) ++ ending_line ending)) (append-nil digits) (both_parts (text ++ report) (ending_line ending) digits [] two (ending_part ending))

pub pins_in_whole : (text digits : List ℕ) → IsPart text digits → pins_in text ≡ digits
pins_in_whole text digits p = ap pins_in (sym (append-nil text)) ∙ p.pins [] ∙ append-nil digits

pub good_whole : (text digits : List ℕ) → IsPart text digits → has_bad_line text ≡ false
good_whole text digits p = ap has_bad_line (sym (append-nil text)) ∙ p.good []
