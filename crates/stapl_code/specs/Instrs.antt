-- How instructions are written: a byte that says which instruction it is, and its fields. The format is this profile's.
use Rattle.std.specs.Prelude.{ℕ, ◌+◌, ◌<◌, ◌^◌, Bool, true, false, List, [], ◌∷◌, ◌++◌, length, All, Option, Some, None}
use Rattle.std.specs.Int.{w32}
use Rattle.std.specs.Int.RustNames.{FitsSigned}
use Rattle.tap_states.specs.declared.Tap.{Tap}
use Rattle.tap_states.specs.Tap.{tap_number}
use Rattle.stapl_lexer.specs.declared.terminal.Register.{Register}
use Rattle.stapl_lexer.specs.declared.terminal.Register.TheVariants as registers
use Rattle.stapl_lexer.specs.declared.terminal.Padding.{Padding}
use Rattle.stapl_lexer.specs.declared.terminal.Padding.TheVariants as paddings
use Rattle.stapl_meaning.specs.declared.values.ValueKind.{ValueKind}
use Rattle.stapl_meaning.specs.declared.values.ValueKind.TheVariants as kinds
use Rattle.stapl_meaning.specs.declared.waits.WaitKind.{WaitKind}
use Rattle.stapl_meaning.specs.declared.waits.WaitKind.TheVariants as waits
use Rattle.stapl_code.specs.declared.instr.PrintPart.{PrintPart}
use Rattle.stapl_code.specs.declared.instr.PrintPart.TheVariants as parts
use Rattle.stapl_code.specs.declared.instr.ExportPart.{ExportPart}
use Rattle.stapl_code.specs.declared.instr.ExportPart.TheVariants as exports
use Rattle.stapl_code.specs.declared.instr.Source.{Source}
use Rattle.stapl_code.specs.declared.instr.Source.TheVariants as sources
use Rattle.stapl_code.specs.declared.instr.Dest.{Dest}
use Rattle.stapl_code.specs.declared.instr.Dest.TheVariants as dests
use Rattle.stapl_code.specs.declared.instr.Cell.{Cell}
use Rattle.stapl_code.specs.declared.instr.Cell.TheVariants as cells
use Rattle.stapl_code.specs.declared.instr.Compare.{Compare}
use Rattle.stapl_code.specs.declared.instr.Scan.{Scan}
use Rattle.stapl_code.specs.declared.instr.Instr.{Instr}
use Rattle.stapl_code.specs.declared.instr.Instr.TheVariants.{Turn, Push, PushBit, Load, LoadAt, CheckIndex, CheckRange, Store, StoreAt, Unary, Binary, ToInt, CopyBits, SetBits, SetInts, For, Next, PushRecord, PopRecord, Call, Jump, JumpIfZero, EndProc, Print, Export, CheckChar, Exit, Scan as Scans, Stop, Pad, State as GoThrough, Wait, Frequency}
use Rattle.stapl_code.specs.Fields.{number, integer, marked, counted}

abbrev pub source : Source → List ℕ
source (sources.Literal n) = marked 0 n
source (sources.Whole n) = marked 1 n
source (sources.Range n) = marked 2 n
source sources.FromInt = 3 ∷ []

abbrev pub dest : Dest → List ℕ
dest (dests.Whole n) = marked 1 n
dest (dests.Range n) = marked 2 n

abbrev pub cell : Cell → List ℕ
cell (cells.Scalar n) = marked 0 n
cell (cells.Element n) = marked 1 n

abbrev pub part : PrintPart → List ℕ
part (parts.Text n) = marked 0 n
part parts.Int = 1 ∷ []
part parts.Bit = 2 ∷ []
part parts.Char = 3 ∷ []

abbrev pub export_part : ExportPart → List ℕ
export_part exports.Int = 0 ∷ []
export_part exports.Bit = 1 ∷ []
export_part (exports.Array s) = 2 ∷ source s

abbrev pub register_number : Register → ℕ
register_number registers.Data = 0
register_number registers.Instruction = 1

abbrev pub padding_number : Padding → ℕ
padding_number paddings.PreData = 0
padding_number paddings.PostData = 1
padding_number paddings.PreInstruction = 2
padding_number paddings.PostInstruction = 3

abbrev pub kind_number : ValueKind → ℕ
kind_number kinds.Int = 0
kind_number kinds.Bit = 1

-- 1 for clocks, 2 for microseconds, 3 for both
abbrev pub wait_number : WaitKind → ℕ
wait_number waits.Cycles = 1
wait_number waits.Usec = 2
wait_number waits.Both = 3

abbrev pub flag_number : Bool → ℕ
flag_number false = 0
flag_number true = 1

-- a number where something stands, else 0
abbrev pub if_given : {A : Type 0} → ℕ → Option A → ℕ
if_given n None = 0
if_given n (Some x) = n

-- what may be left out
abbrev pub given : {A : Type 0} → (A → List ℕ) → Option A → List ℕ
given field None = []
given field (Some x) = field x

-- the expected bits, the mask, and where the result goes
abbrev pub compare : Compare → List ℕ
compare c = source c.expected ++ source c.mask ++ cell c.cell

-- 1 where bits are captured, 2 where they are compared, 3 for both
abbrev pub scan_flags : Scan → ℕ
scan_flags s = if_given 1 s.target + if_given 2 s.compare

abbrev pub scan : Scan → List ℕ
scan s = register_number s.register ∷ source s.source ++ scan_flags s ∷ given dest s.target ++ given compare s.compare

abbrev pub padding : Padding → Option Source → List ℕ
padding which bits = padding_number which ∷ if_given 1 bits ∷ given source bits

abbrev pub state : Tap → List ℕ
state t = tap_number t ∷ []

abbrev pub instr : Instr → List ℕ
instr (Turn piece) = marked 1 piece
instr (Push z) = 2 ∷ integer z
instr (PushBit b) = 3 ∷ b ∷ []
instr (Load n) = marked 4 n
instr (LoadAt n) = marked 5 n
instr (CheckIndex n) = marked 6 n
instr (CheckRange n) = marked 7 n
instr (Store n) = marked 8 n
instr (StoreAt n) = marked 9 n
instr (Unary op) = 10 ∷ op ∷ []
instr (Binary op) = 11 ∷ op ∷ []
instr (ToInt s) = 12 ∷ source s
instr (CopyBits d s) = 13 ∷ dest d ++ source s
instr (SetBits n literal) = marked 14 n ++ number literal
instr (SetInts n values) = marked 15 n ++ counted integer values
instr (Jump to) = marked 16 to
instr (JumpIfZero to) = marked 17 to
instr (For n body) = marked 18 n ++ number body
instr (Next n) = marked 19 n
instr (PushRecord kind) = 20 ∷ kind_number kind ∷ []
instr (PopRecord kind) = 21 ∷ kind_number kind ∷ []
instr (Call p) = marked 22 p
instr EndProc = 23 ∷ []
instr (Print list) = 24 ∷ counted part list
instr CheckChar = 25 ∷ []
instr (Export key what) = marked 26 key ++ export_part what
instr Exit = 27 ∷ []
instr (Scans s) = 28 ∷ scan s
instr (Stop register t) = 29 ∷ register_number register ∷ state t
instr (Pad which bits) = 30 ∷ padding which bits
instr (GoThrough states) = 31 ∷ counted state states
instr (Wait at counts last) = 32 ∷ tap_number at ∷ wait_number counts ∷ state last
instr (Frequency stated) = 33 ∷ flag_number stated ∷ []

-- the counts of an instruction have four bytes
abbrev pub IsCountableInstr : Instr → Type 0
IsCountableInstr (SetInts n values) = length values < 2 ^ 32
IsCountableInstr (Print list) = length list < 2 ^ 32
IsCountableInstr (GoThrough states) = length states < 2 ^ 32
IsCountableInstr _ = Unit {0}

-- its numbers have four bytes, too
abbrev pub FitsInstr : Instr → Type 0
FitsInstr (Push z) = FitsSigned w32 z
FitsInstr (SetInts n values) = All (FitsSigned w32) values
FitsInstr (Jump to) = to < 2 ^ 32
FitsInstr (JumpIfZero to) = to < 2 ^ 32
FitsInstr (For n body) = body < 2 ^ 32
FitsInstr _ = Unit {0}
