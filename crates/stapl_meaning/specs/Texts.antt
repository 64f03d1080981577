-- The written text of a play: a line for each event, a report of the devices if it is asked for, and a line for its
-- ending. The format is this profile's.
use Rattle.std.specs.Prelude.{ℕ, pos, ◌+◌, ◌*◌, List, [], ◌∷◌, ◌++◌, length, Bool, true, false, ◌==◌, codes, if◌then◌else◌}
use Rattle.std.specs.Fmt.{signed_decimal}
use Rattle.base.specs.Bits.{bit_value}
use Rattle.dev_card.specs.FarEnds.{FarEnd, Told, Heard}
use Rattle.bit_list.specs.Hexadecimal.{all_hex_digits}
use Rattle.tool_io.specs.Texts.{escaped}
use Rattle.dev_card.specs.Reports.{report_of}
use Rattle.stapl_meaning.specs.declared.events.Event.{Event}
use Rattle.stapl_meaning.specs.declared.events.Event.TheVariants.{Print, Export, Clock, Usec, Hertz}
use Rattle.stapl_meaning.specs.declared.events.ExportValue.{ExportValue}
use Rattle.stapl_meaning.specs.declared.events.ExportValue.TheVariants.{Int, Bit, Array}
use Rattle.stapl_meaning.specs.declared.events.RunFault.{RunFault}
use Rattle.stapl_meaning.specs.declared.events.RunFault.TheVariants.{DivideByZero, IndexOutOfRange, RangeReversed, LengthMismatch, BadLength, BadCount, ShiftCount, ZeroStep, NoRecord, RecordsFull, BadChar}
use Rattle.stapl_meaning.specs.declared.events.Ending.{Ending}
use Rattle.stapl_meaning.specs.declared.events.Ending.TheVariants.{Exit, Fault, Spent}
use Rattle.stapl_meaning.specs.Effects.{digit_of}

-- what is exported, as it is written: an integer in decimal, a Boolean as 0 or 1, bits in hexadecimal
abbrev pub export_text : ExportValue → List ℕ
export_text (Int z) = signed_decimal z
export_text (Bit b) = digit_of b ∷ []
export_text (Array bits) = codes "$" ++ all_hex_digits bits

-- the line of an event; a clock has a digit in a line of clocks, and no line of its own
abbrev pub event_line : Event → List ℕ
event_line (Print bytes) = codes "P " ++ escaped bytes ++ 10 ∷ []
event_line (Export key value) = codes "X " ++ escaped key ++ codes " = " ++ export_text value ++ 10 ∷ []
event_line (Clock tms tdi tdo) = []
event_line (Usec n) = codes "W " ++ signed_decimal (pos n) ++ 10 ∷ []
event_line (Hertz n) = codes "F " ++ signed_decimal (pos n) ++ 10 ∷ []

-- the digit of a clock
abbrev pub pin_digit : Bool → Bool → Bool → ℕ
pin_digit tms tdi tdo = 48 + (4 * bit_value tms + (2 * bit_value tdi + bit_value tdo))

-- a line of digits, and none where there is no digit
abbrev pub pin_line : List ℕ → List ℕ
pin_line digits = if length digits == 0 then [] else codes "C " ++ digits ++ 10 ∷ []

-- how many digits a line of clocks may have
abbrev pub pin_limit : ℕ
pin_limit = 64

-- the line that is full before one digit more, and the digits that wait after that one
abbrev pub full_line : List ℕ → List ℕ
full_line digits = if length digits == pin_limit then pin_line digits else []

abbrev pub with_digit : List ℕ → ℕ → List ℕ
with_digit digits d = if length digits == pin_limit then d ∷ [] else digits ++ d ∷ []

-- The bytes that an event puts where these digits wait, and the digits that wait after it. True asks for the clocks.
-- Any other event ends a line of clocks.
abbrev pub event_bytes : Bool → List ℕ → Event → List ℕ
event_bytes true digits (Clock tms tdi tdo) = full_line digits
event_bytes false digits (Clock tms tdi tdo) = []
event_bytes pins digits (Print bytes) = pin_line digits ++ event_line (Print bytes)
event_bytes pins digits (Export key value) = pin_line digits ++ event_line (Export key value)
event_bytes pins digits (Usec n) = pin_line digits ++ event_line (Usec n)
event_bytes pins digits (Hertz n) = pin_line digits ++ event_line (Hertz n)

abbrev pub digits_after : Bool → List ℕ → Event → List ℕ
digits_after true digits (Clock tms tdi tdo) = with_digit digits (pin_digit tms tdi tdo)
digits_after false digits (Clock tms tdi tdo) = digits
digits_after pins digits (Print bytes) = []
digits_after pins digits (Export key value) = []
digits_after pins digits (Usec n) = []
digits_after pins digits (Hertz n) = []

-- the bytes of events one after another, and the digits that wait after them
abbrev pub bytes_of : Bool → List ℕ → List Event → List ℕ
bytes_of pins digits [] = []
bytes_of pins digits (e ∷ es) = event_bytes pins digits e ++ bytes_of pins (digits_after pins digits e) es

abbrev pub waiting : Bool → List ℕ → List Event → List ℕ
waiting pins digits [] = digits
waiting pins digits (e ∷ es) = waiting pins (digits_after pins digits e) es

-- the whole text of events, with the line of the digits that wait in the end
abbrev pub events_text : Bool → List ℕ → List Event → List ℕ
events_text pins digits events = bytes_of pins digits events ++ pin_line (waiting pins digits events)

abbrev pub fault_name : RunFault → List ℕ
fault_name DivideByZero = codes "DivideByZero"
fault_name IndexOutOfRange = codes "IndexOutOfRange"
fault_name RangeReversed = codes "RangeReversed"
fault_name LengthMismatch = codes "LengthMismatch"
fault_name BadLength = codes "BadLength"
fault_name BadCount = codes "BadCount"
fault_name ShiftCount = codes "ShiftCount"
fault_name ZeroStep = codes "ZeroStep"
fault_name NoRecord = codes "NoRecord"
fault_name RecordsFull = codes "RecordsFull"
fault_name BadChar = codes "BadChar"

abbrev pub ending_line : Ending → List ℕ
ending_line (Exit k) = codes "E exit " ++ signed_decimal k ++ 10 ∷ []
ending_line (Fault k piece) = codes "E fault " ++ fault_name k ++ codes " at " ++ signed_decimal (pos piece) ++ 10 ∷ []
ending_line Spent = codes "E spent" ++ 10 ∷ []

-- the report of what stands at a far end: the devices of a board that is told
abbrev pub far_report : FarEnd → List ℕ
far_report (Told cs) = report_of cs
far_report (Heard bs) = []

-- the same, if it is asked for
abbrev pub asked_report : Bool → FarEnd → List ℕ
asked_report false far = []
asked_report true far = far_report far

-- the text of a play that has ended, with this report; true asks for its clocks
abbrev pub text_of : Bool → List Event → List ℕ → Ending → List ℕ
text_of pins events report ending = events_text pins [] events ++ report ++ ending_line ending
