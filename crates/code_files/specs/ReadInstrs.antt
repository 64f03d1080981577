-- How instructions are read. The format is this profile's.
use Rattle.std.specs.Prelude.{ℕ, ℤ, ◌+◌, ◌-◌, Bool, true, false, List, [], ◌∷◌, length, Option, Some, None, Result, Ok, Err, slice_get}
use Rattle.std.specs.Int.{w32, cast_signed}
use Rattle.tap_states.specs.declared.Tap.{Tap}
use Rattle.tap_states.specs.declared.Tap.TheVariants as taps
use Rattle.stapl_lexer.specs.declared.terminal.Register.{Register}
use Rattle.stapl_lexer.specs.declared.terminal.Register.TheVariants as registers
use Rattle.stapl_lexer.specs.declared.terminal.Padding.{Padding}
use Rattle.stapl_lexer.specs.declared.terminal.Padding.TheVariants as paddings
use Rattle.stapl_meaning.specs.declared.values.ValueKind.{ValueKind}
use Rattle.stapl_meaning.specs.declared.values.ValueKind.TheVariants as kinds
use Rattle.stapl_meaning.specs.declared.waits.WaitKind.{WaitKind}
use Rattle.stapl_meaning.specs.declared.waits.WaitKind.TheVariants as waits
use Rattle.stapl_code.specs.declared.instr.PrintPart.{PrintPart}
use Rattle.stapl_code.specs.declared.instr.PrintPart.TheVariants as parts
use Rattle.stapl_code.specs.declared.instr.ExportPart.{ExportPart}
use Rattle.stapl_code.specs.declared.instr.ExportPart.TheVariants as exports
use Rattle.stapl_code.specs.declared.instr.Source.{Source}
use Rattle.stapl_code.specs.declared.instr.Source.TheVariants as sources
use Rattle.stapl_code.specs.declared.instr.Dest.{Dest}
use Rattle.stapl_code.specs.declared.instr.Dest.TheVariants as dests
use Rattle.stapl_code.specs.declared.instr.Cell.{Cell}
use Rattle.stapl_code.specs.declared.instr.Cell.TheVariants as cells
use Rattle.stapl_code.specs.declared.instr.Compare.{Compare}
use Rattle.stapl_code.specs.declared.instr.Scan.{Scan}
use Rattle.stapl_code.specs.declared.instr.Instr.{Instr}
use Rattle.stapl_code.specs.declared.instr.Instr.TheVariants.{Turn, Push, PushBit, Load, LoadAt, CheckIndex, CheckRange, Store, StoreAt, Unary, Binary, ToInt, CopyBits, SetBits, SetInts, For, Next, PushRecord, PopRecord, Call, Jump, JumpIfZero, EndProc, Print, Export, CheckChar, Exit, Scan as Scans, Stop, Pad, State as GoThrough, Wait, Frequency}
use Rattle.stapl_code.specs.declared.raw.VarDef.{VarDef}
use Rattle.stapl_code.specs.Ranges.{size_of}
use Rattle.stapl_code.specs.declared.reason.CodeReason.TheVariants.{Field}
use Rattle.code_files.specs.declared.fault.Fault.{Fault}
use Rattle.code_files.specs.Reading.{◌>>=◌, fault, byte_in, number_in, listed_in, any_end}

-- a reader of a value: it gives the value, and the bytes after it
abbrev pub Reads : Type 0 → Type 0
Reads A = List ℕ → Result (A × List ℕ) Fault

-- no field
abbrev pub nothing : {A : Type 0} → A → Reads A
nothing x bytes = Ok (x, bytes)

-- a number from low on and below end, and one below end, of four bytes and of one
abbrev pub with_number_from : {A : Type 0} → ℕ → ℕ → (ℕ → A) → Reads A
with_number_from low end made bytes = number_in low end bytes >>= λ n. Ok (made n.0, n.1)

abbrev pub with_number : {A : Type 0} → ℕ → (ℕ → A) → Reads A
with_number end made = with_number_from 0 end made

abbrev pub with_byte_from : {A : Type 0} → ℕ → ℕ → (ℕ → A) → Reads A
with_byte_from low end made bytes = byte_in low end bytes >>= λ n. Ok (made n.0, n.1)

abbrev pub with_byte : {A : Type 0} → ℕ → (ℕ → A) → Reads A
with_byte end made = with_byte_from 0 end made

-- what is made of a value
abbrev pub made_of : {A B : Type 0} → (A → B) → Reads A → Reads B
made_of made reads bytes = reads bytes >>= λ x. Ok (made x.0, x.1)

-- a value, and after it what it leads to
abbrev pub followed : {A B : Type 0} → Reads A → (A → Reads B) → Reads B
followed first second bytes = first bytes >>= λ x. second x.0 x.1

-- the row of a table
abbrev pub row : {A : Type 0} → Option (Reads A) → Reads A
row None bytes = Err (fault (length bytes) Field)
row (Some reads) bytes = reads bytes

-- a byte that names a row of a table, of which the first one has the number low
unfoldable pub tagged : {A : Type 0} → ℕ → List (Reads A) → Reads A
tagged low table bytes = byte_in low (low + length table) bytes >>= λ tag. row (slice_get table (tag.0 - low)) tag.1

abbrev pub register_at : Reads Register
register_at = tagged 0 (nothing registers.Data ∷ nothing registers.Instruction ∷ [])

abbrev pub padding_at : Reads Padding
padding_at = tagged 0 (nothing paddings.PreData ∷ nothing paddings.PostData
    ∷ nothing paddings.PreInstruction ∷ nothing paddings.PostInstruction ∷ [])

abbrev pub kind_at : Reads ValueKind
kind_at = tagged 0 (nothing kinds.Int ∷ nothing kinds.Bit ∷ [])

abbrev pub wait_at : Reads WaitKind
wait_at = tagged 1 (nothing waits.Cycles ∷ nothing waits.Usec ∷ nothing waits.Both ∷ [])

abbrev pub flag_at : Reads Bool
flag_at = tagged 0 (nothing false ∷ nothing true ∷ [])

abbrev pub state_at : Reads Tap
state_at = tagged 0 (nothing taps.Reset ∷ nothing taps.Idle
    ∷ nothing taps.DrSelect ∷ nothing taps.DrCapture ∷ nothing taps.DrShift ∷ nothing taps.DrExit1
    ∷ nothing taps.DrPause ∷ nothing taps.DrExit2 ∷ nothing taps.DrUpdate
    ∷ nothing taps.IrSelect ∷ nothing taps.IrCapture ∷ nothing taps.IrShift ∷ nothing taps.IrExit1
    ∷ nothing taps.IrPause ∷ nothing taps.IrExit2 ∷ nothing taps.IrUpdate ∷ [])

abbrev pub integer_at : Reads ℤ
integer_at = with_number any_end (cast_signed w32)

-- what may be left out, after a byte that says whether it stands
abbrev pub given_at : {A : Type 0} → Reads A → Reads (Option A)
given_at reads = tagged 0 (nothing None ∷ made_of Some reads ∷ [])

abbrev pub part_at : ℕ → Reads PrintPart
part_at texts = tagged 0 (with_number texts parts.Text
    ∷ nothing parts.Int ∷ nothing parts.Bit ∷ nothing parts.Char ∷ [])

abbrev pub dest_at : ℕ → Reads Dest
dest_at variables = tagged 1 (with_number variables dests.Whole ∷ with_number variables dests.Range ∷ [])

abbrev pub cell_at : ℕ → Reads Cell
cell_at variables = tagged 0 (with_number variables cells.Scalar ∷ with_number variables cells.Element ∷ [])

module _ (variables literals : ℕ) where
  abbrev pub source_at : Reads Source
  source_at = tagged 0 (with_number literals sources.Literal ∷ with_number variables sources.Whole
      ∷ with_number variables sources.Range ∷ nothing sources.FromInt ∷ [])

  abbrev pub export_part_at : Reads ExportPart
  export_part_at = tagged 0 (nothing exports.Int ∷ nothing exports.Bit ∷ made_of exports.Array source_at ∷ [])

  abbrev pub compare_at : Reads Compare
  compare_at = followed source_at (λ expected. followed source_at (λ mask.
      made_of (λ cell. record { expected = expected; mask = mask; cell = cell }) (cell_at variables)))

  -- a scan through a register, of a source, after which a byte says which parts stand
  abbrev pub scan_parts_at : Register → Source → Reads Scan
  scan_parts_at register source = tagged 0 (
      nothing (record { register = register; source = source; target = None; compare = None })
      ∷ made_of (λ target. record { register = register; source = source; target = Some target; compare = None })
      (dest_at variables)
      ∷ made_of (λ compare. record { register = register; source = source; target = None; compare = Some compare })
      compare_at
      ∷ followed (dest_at variables) (λ target.
      made_of (λ compare. record { register = register; source = source; target = Some target; compare = Some compare })
      compare_at)
      ∷ [])

  abbrev pub scan_at : Reads Scan
  scan_at = followed register_at (λ register. followed source_at (λ source. scan_parts_at register source))

-- the table of instructions, where these are the variables, and there are so many literals, texts and procedures
module _ (variables : List VarDef) (literals texts procedures : ℕ) where
  abbrev pub instr_table : List (Reads Instr)
  instr_table =
      with_number_from 1 100001 Turn
      ∷ made_of Push integer_at
      ∷ with_byte 2 PushBit
      ∷ with_number (length variables) Load
      ∷ with_number (length variables) LoadAt
      ∷ with_number (length variables) CheckIndex
      ∷ with_number (length variables) CheckRange
      ∷ with_number (length variables) Store
      ∷ with_number (length variables) StoreAt
      ∷ with_byte 4 Unary
      ∷ with_byte 23 Binary
      ∷ made_of ToInt (source_at (length variables) literals)
      ∷ followed (dest_at (length variables)) (λ d.
      made_of (CopyBits d) (source_at (length variables) literals))
      ∷ followed (with_number (length variables) (λ n. n)) (λ n. with_number literals (SetBits n))
      ∷ followed (with_number (length variables) (λ n. n)) (λ n.
      made_of (SetInts n) (listed_in (λ _. integer_at) 1 (size_of (slice_get variables n) + 1)))
      ∷ with_number any_end Jump
      ∷ with_number any_end JumpIfZero
      ∷ followed (with_number (length variables) (λ n. n)) (λ n. with_number any_end (For n))
      ∷ with_number (length variables) Next
      ∷ made_of PushRecord kind_at
      ∷ made_of PopRecord kind_at
      ∷ with_number procedures Call
      ∷ nothing EndProc
      ∷ made_of Print (listed_in (λ _. part_at texts) 1 any_end)
      ∷ nothing CheckChar
      ∷ followed (with_number texts (λ n. n)) (λ key.
      made_of (Export key) (export_part_at (length variables) literals))
      ∷ nothing Exit
      ∷ made_of Scans (scan_at (length variables) literals)
      ∷ followed register_at (λ register. made_of (Stop register) state_at)
      ∷ followed padding_at (λ which. made_of (Pad which) (given_at (source_at (length variables) literals)))
      ∷ made_of GoThrough (listed_in (λ _. state_at) 1 any_end)
      ∷ followed state_at (λ at. followed wait_at (λ counts. made_of (Wait at counts) state_at))
      ∷ made_of Frequency flag_at
      ∷ []

  abbrev pub instr_at : Reads Instr
  instr_at = tagged 1 instr_table
