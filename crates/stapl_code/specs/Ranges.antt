-- The ranges of a code's fields. They are this profile's. Variables, literals, texts, procedures and instructions are
-- told by their numbers, from 0.
use Rattle.std.specs.Prelude.{◌≡◌, ◌≢◌, ℕ, ◌<◌, ◌≤◌, ◌^◌, ◌==◌, ◌||◌, Bool, List, length, All, AllPairs, Option, None, Some, slice_get, sum_by, if◌then◌else◌}
use Rattle.stapl_syntax.specs.Contents.{IsFreeName}
use Rattle.stapl_code.specs.declared.instr.PrintPart.{PrintPart}
use Rattle.stapl_code.specs.declared.instr.PrintPart.TheVariants as parts
use Rattle.stapl_code.specs.declared.instr.ExportPart.{ExportPart}
use Rattle.stapl_code.specs.declared.instr.ExportPart.TheVariants as exports
use Rattle.stapl_code.specs.declared.instr.Source.{Source}
use Rattle.stapl_code.specs.declared.instr.Source.TheVariants as sources
use Rattle.stapl_code.specs.declared.instr.Dest.{Dest}
use Rattle.stapl_code.specs.declared.instr.Dest.TheVariants as dests
use Rattle.stapl_code.specs.declared.instr.Cell.{Cell}
use Rattle.stapl_code.specs.declared.instr.Cell.TheVariants as cells
use Rattle.stapl_code.specs.declared.instr.Compare.{Compare}
use Rattle.stapl_code.specs.declared.instr.Scan.{Scan}
use Rattle.stapl_code.specs.declared.instr.Instr.{Instr}
use Rattle.stapl_code.specs.declared.instr.Instr.TheVariants.{Turn, PushBit, Load, LoadAt, CheckIndex, CheckRange, Store, StoreAt, Unary, Binary, ToInt, CopyBits, SetBits, SetInts, For, Next, Call, Print, Export, Scan as Scans, Pad, State as GoThrough}
use Rattle.stapl_code.specs.declared.raw.VarDef.{VarDef}
use Rattle.stapl_code.specs.declared.raw.ProcDef.{ProcDef}
use Rattle.stapl_code.specs.declared.raw.ItemDef.{ItemDef}
use Rattle.stapl_code.specs.declared.raw.ActionDef.{ActionDef}
use Rattle.stapl_code.specs.declared.raw.CodeLists.{CodeLists}
use Rattle.stapl_code.specs.Operators.{operator_table, unary_kinds}

-- a variable: kind 0 is an INTEGER scalar, 1 a BOOLEAN scalar, 2 an INTEGER array, 3 a BOOLEAN array
pub record IsVariable (v : VarDef) : Type 0 where
  pub kind : v.kind ≤ 3
  pub some : 1 ≤ v.size
  pub scalar : v.kind ≤ 1 → v.size ≡ 1
  pub boolean_array : v.kind ≡ 3 → v.size ≤ 4194304

-- how many elements a variable has, where it is of one of these two kinds
abbrev pub elements_of : ℕ → ℕ → VarDef → ℕ
elements_of scalar array v = if (v.kind == scalar) || (v.kind == array) then v.size else 0

-- the variables keep the limits, each alone and all together
pub record AreVariables (variables : List VarDef) : Type 0 where
  pub each : All IsVariable variables
  pub integers : sum_by (elements_of 0 2) variables ≤ 1048576
  pub booleans : sum_by (elements_of 1 3) variables ≤ 16777216

-- there is a procedure, their names differ, and they begin one after the other
pub record AreProcedures (procedures : List ProcDef) : Type 0 where
  pub some : 1 ≤ length procedures
  pub named : All (λ p. IsFreeName p.name) procedures
  pub in_order : AllPairs (λ p q. (p.name ≢ q.name) × (p.entry < q.entry)) procedures

-- an item of an action, where there are so many procedures
pub record IsItem (procedures : ℕ) (item : ItemDef) : Type 0 where
  pub there : item.procedure < procedures
  pub flag : item.flag ≤ 2

pub record IsAction (procedures : ℕ) (action : ActionDef) : Type 0 where
  pub named : IsFreeName action.name
  pub some : 1 ≤ length action.items
  pub each : All (IsItem procedures) action.items

-- there is an action, and their names differ
pub record AreActions (procedures : ℕ) (actions : List ActionDef) : Type 0 where
  pub some : 1 ≤ length actions
  pub each : All (IsAction procedures) actions
  pub names_apart : AllPairs (λ a b. a.name ≢ b.name) actions

-- a part of a Print, where there are so many texts
abbrev pub IsPart : ℕ → PrintPart → Type 0
IsPart texts (parts.Text n) = n < texts
IsPart texts _ = Unit {0}

-- a source and a destination, where there are so many variables and literals
abbrev pub IsSource : ℕ → ℕ → Source → Type 0
IsSource variables literals (sources.Literal n) = n < literals
IsSource variables literals (sources.Whole n) = n < variables
IsSource variables literals (sources.Range n) = n < variables
IsSource variables literals sources.FromInt = Unit {0}

-- what is exported, with so many variables and literals
abbrev pub IsExport : ℕ → ℕ → ExportPart → Type 0
IsExport variables literals (exports.Array source) = IsSource variables literals source
IsExport variables literals _ = Unit {0}

abbrev pub IsDest : ℕ → Dest → Type 0
IsDest variables (dests.Whole n) = n < variables
IsDest variables (dests.Range n) = n < variables

-- what may be left out
abbrev pub IsGiven : {A : Type 0} → (A → Type 0) → Option A → Type 0
IsGiven P None = Unit {0}
IsGiven P (Some x) = P x

-- what a scan compares with, and a scan, with so many variables and literals
abbrev pub IsCell : ℕ → Cell → Type 0
IsCell variables (cells.Scalar n) = n < variables
IsCell variables (cells.Element n) = n < variables

pub record IsCompare (variables literals : ℕ) (c : Compare) : Type 0 where
  pub expected : IsSource variables literals c.expected
  pub mask : IsSource variables literals c.mask
  pub cell : IsCell variables c.cell

pub record IsScan (variables literals : ℕ) (scan : Scan) : Type 0 where
  pub source : IsSource variables literals scan.source
  pub target : IsGiven (IsDest variables) scan.target
  pub compare : IsGiven (IsCompare variables literals) scan.compare

-- how many elements a variable has, if there is one
abbrev pub size_of : Option VarDef → ℕ
size_of None = 0
size_of (Some v) = v.size

-- an instruction, where these are the variables, and there are so many literals, texts and procedures
abbrev pub IsInstr : List VarDef → ℕ → ℕ → ℕ → Instr → Type 0
IsInstr variables literals texts procedures (Turn piece) = (1 ≤ piece) × (piece ≤ 100000)
IsInstr variables literals texts procedures (PushBit b) = b ≤ 1
IsInstr variables literals texts procedures (Load n) = n < length variables
IsInstr variables literals texts procedures (LoadAt n) = n < length variables
IsInstr variables literals texts procedures (CheckIndex n) = n < length variables
IsInstr variables literals texts procedures (CheckRange n) = n < length variables
IsInstr variables literals texts procedures (Store n) = n < length variables
IsInstr variables literals texts procedures (StoreAt n) = n < length variables
IsInstr variables literals texts procedures (Unary op) = op < length unary_kinds
IsInstr variables literals texts procedures (Binary op) = op < length operator_table
IsInstr variables literals texts procedures (ToInt source) = IsSource (length variables) literals source
IsInstr variables literals texts procedures (CopyBits dest source) =
    IsDest (length variables) dest × IsSource (length variables) literals source
IsInstr variables literals texts procedures (SetBits n literal) = (n < length variables) × (literal < literals)
IsInstr variables literals texts procedures (SetInts n values) =
    (n < length variables) × (1 ≤ length values) × (length values ≤ size_of (slice_get variables n))
IsInstr variables literals texts procedures (For n body) = n < length variables
IsInstr variables literals texts procedures (Next n) = n < length variables
IsInstr variables literals texts procedures (Call p) = p < procedures
IsInstr variables literals texts procedures (Print list) = (1 ≤ length list) × All (IsPart texts) list
IsInstr variables literals texts procedures (Scans scan) = IsScan (length variables) literals scan
IsInstr variables literals texts procedures (Pad which source) = IsGiven (IsSource (length variables) literals) source
IsInstr variables literals texts procedures (GoThrough states) = 1 ≤ length states
IsInstr variables literals texts procedures (Export key part) = (key < texts) × IsExport (length variables) literals part
IsInstr variables literals texts procedures _ = Unit {0}

-- a literal
pub record IsLiteral (bits : List Bool) : Type 0 where
  pub some : 1 ≤ length bits
  pub few : length bits ≤ 16777216

-- a code whose fields are in their ranges
pub record IsInRange (code : CodeLists) : Type 0 where
  pub variables : AreVariables code.variables
  pub literals : All IsLiteral code.literals
  pub texts : All (λ text. length text ≤ 4194304) code.texts
  pub procedures : AreProcedures code.procedures
  pub actions : AreActions (length code.procedures) code.actions
  pub instrs : All (IsInstr code.variables (length code.literals) (length code.texts) (length code.procedures)) code.instrs
  pub countable : length code.instrs < 2 ^ 32
