-- A scan of the machine, by where its parts lie.
use Rattle.std.specs.Prelude.{◌≡◌, ◌≤◌, ◌<◌, ℕ, Bool, true, ◌&&◌, List, length, Option, Some, None, slice_get, is_some}
use Rattle.std.specs.Option.{option_map}
use Rattle.dev_card.specs.Scans.{BoardScan}
use Rattle.stapl_meaning.specs.declared.values.Held.{Held}
use Rattle.stapl_meaning.specs.Values.{Got, Known, then_get, asked}
use Rattle.stapl_meaning.specs.Values as values
use Rattle.stapl_meaning.specs.States.{State}
use Rattle.stapl_meaning.specs.Scans.{CompareParts, ScanParts, Place, Cell, InScalar, InElement, Comparison, Found, settings_of, scan_of, landed}
use Rattle.stapl_code.specs.declared.instr.Source.{Source}
use Rattle.stapl_code.specs.declared.instr.Source.TheVariants as sources
use Rattle.stapl_code.specs.declared.instr.Compare.{Compare}
use Rattle.stapl_code.specs.declared.instr.Scan.{Scan}
use Rattle.stapl_code.specs.Machine.{Constants, target_of, cell_part}
use Rattle.machine_memory.specs.declared.parts.Part.{Part}
use Rattle.machine_memory.specs.declared.effects.BitsAt.{BitsAt}
use Rattle.machine_memory.specs.declared.effects.BitsAt.TheVariants as bits
use Rattle.machine_memory.specs.declared.effects.CellAt.{CellAt}
use Rattle.machine_memory.specs.declared.effects.CellAt.TheVariants as cells
use Rattle.machine_memory.specs.declared.effects.ScanJob.{ScanJob}
use Rattle.machine_memory.specs.declared.memory.Memory.{Memory}
use Rattle.machine_memory.specs.declared.memory.Shifted.{Shifted}
use Rattle.machine_memory.specs.declared.effects.ComparedAt.{ComparedAt}
use Rattle.machine_memory.specs.declared.effects.PartsAt.{PartsAt}
use Rattle.machine_memory.specs.Arrays.{span_in, IsArrayPart}
use Rattle.machine_memory.specs.Exports.{literal_in, bits_at}

-- ---- the parts of a scan, whose literals are there

abbrev pub is_known : List (List Bool) → Source → Bool
is_known literals (sources.Literal n) = is_some (slice_get literals n)
is_known literals _ = true

abbrev pub is_given_known : List (List Bool) → Option Source → Bool
is_given_known literals None = true
is_given_known literals (Some source) = is_known literals source

abbrev pub is_compare_known : List (List Bool) → Option Compare → Bool
is_compare_known literals None = true
is_compare_known literals (Some c) = is_known literals c.expected && is_known literals c.mask

abbrev pub is_scan_known : List (List Bool) → Scan → Bool
is_scan_known literals scan = is_known literals scan.source && is_compare_known literals scan.compare

-- the sources of the meaning that they stand for
abbrev pub resolved : Constants → Source → values.Source
resolved constants (sources.Literal n) = values.These (literal_in (slice_get constants.literals n))
resolved constants (sources.Whole n) = values.Whole n
resolved constants (sources.Range n) = values.Range constants.profile n
resolved constants sources.FromInt = values.OfInt

abbrev pub compare_resolved : Constants → Compare → CompareParts
compare_resolved constants c =
    record { expected = resolved constants c.expected; mask = resolved constants c.mask; cell = cell_part c.cell }

abbrev pub scan_resolved : Constants → Scan → ScanParts
scan_resolved constants scan = record {
  register = scan.register;
  source = resolved constants scan.source;
  target = option_map (target_of constants.profile) scan.target;
  compare = option_map (compare_resolved constants) scan.compare;
}

-- ---- where they lie

-- so many of the bits that lie somewhere: missing bits of a literal are 0, and nothing else may miss one
abbrev pub asked_at : BitsAt → ℕ → List Bool → Got (List Bool)
asked_at (bits.Literal k) n list = asked (values.These list) n list
asked_at (bits.Part part) n list = asked (values.Whole part.array) n list
asked_at (bits.Integer z) n list = asked values.OfInt n list

-- a literal or a part of an array is there
abbrev pub IsThere : List (List Bool) → List Held → BitsAt → Type 0
IsThere literals variables (bits.Literal k) = k < length literals
IsThere literals variables (bits.Part part) = IsArrayPart variables part
IsThere literals variables (bits.Integer z) = length literals ≡ length literals

-- bits of a source of this form lie there
abbrev pub IsOf : Source → BitsAt → Type 0
IsOf (sources.Literal n) (bits.Literal k) = n ≡ k
IsOf (sources.Whole n) (bits.Part part) = part.array ≡ n
IsOf (sources.Range n) (bits.Part part) = part.array ≡ n
IsOf sources.FromInt (bits.Integer z) = z ≡ z
IsOf _ _ = ⊥

abbrev pub IsPartIf : List Held → Option Part → Type 0
IsPartIf variables None = length variables ≡ length variables
IsPartIf variables (Some part) = IsArrayPart variables part

abbrev pub place_of : Part → Place
place_of part = record { array = part.array; span = span_in part.span }

abbrev pub places_of : Option Part → Option Place
places_of target = option_map place_of target

abbrev pub cell_of : CellAt → Cell
cell_of (cells.Scalar n) = InScalar n
cell_of (cells.Element n i) = InElement n i

-- ---- what was found, and what is to be done

abbrev pub compared_at : List (List Bool) → List Held → ComparedAt → Comparison
compared_at literals variables c = record {
  expected = bits_at literals variables c.expected;
  mask = bits_at literals variables c.mask;
  cell = cell_of c.cell;
}

abbrev pub compare_at : List (List Bool) → List Held → Option ComparedAt → Option Comparison
compare_at literals variables compare = option_map (compared_at literals variables) compare

-- what a comparison lies in is there, and tells as its sources do what bits are asked of it
abbrev pub AreCompared : List (List Bool) → List Held → ComparedAt → Type 0
AreCompared literals variables at = IsThere literals variables at.expected × IsThere literals variables at.mask

pub record AskAlike (constants : Constants) (c : Compare) (at : ComparedAt) : Type 0 where
  pub expected : (n : ℕ) (list : List Bool) → asked (resolved constants c.expected) n list ≡ asked_at at.expected n list
  pub mask : (n : ℕ) (list : List Bool) → asked (resolved constants c.mask) n list ≡ asked_at at.mask n list

abbrev pub IsCompareFound : Constants → List Held → Option Compare → Option ComparedAt → Type 0
IsCompareFound constants variables None None = constants ≡ constants
IsCompareFound constants variables (Some c) (Some at) =
    AreCompared constants.literals variables at × AskAlike constants c at
IsCompareFound constants variables _ _ = ⊥

-- the same of a scan
pub record AreFound (constants : Constants) (variables : List Held) (scan : Scan) (at : PartsAt) : Type 0 where
  pub source : IsThere constants.literals variables at.source
  pub asks : (n : ℕ) (list : List Bool) → asked (resolved constants scan.source) n list ≡ asked_at at.source n list
  pub target : IsPartIf variables at.target
  pub compare : IsCompareFound constants variables scan.compare at.compare

abbrev pub found_at : List (List Bool) → List Held → PartsAt → Found
found_at literals variables at = record {
  data_bits = bits_at literals variables at.source;
  target = places_of at.target;
  compare = compare_at literals variables at.compare;
}

abbrev pub cell_at : Option ComparedAt → Option CellAt
cell_at compare = option_map (λ (c : ComparedAt). c.cell) compare

-- the comparison of a job, with the bits that were taken
abbrev pub compared_by : List Bool → List Bool → CellAt → Comparison
compared_by expected mask cell = record { expected = expected; mask = mask; cell = cell_of cell }

abbrev pub job_compare : List Bool → List Bool → Option CellAt → Option Comparison
job_compare expected mask cell = option_map (compared_by expected mask) cell

-- so many bits to compare with, of those that lie there
abbrev pub both_asked : ℕ → ComparedAt → Comparison → Got Comparison
both_asked n at c =
    then_get (asked_at at.expected n c.expected) (λ expected.
    then_get (asked_at at.mask n c.mask) (λ mask. Known (record c { expected = expected; mask = mask })))

-- the scan of a job in a state, and what its captured bits do
abbrev pub job_scan : Shifted → ScanJob → State → BoardScan
job_scan shifted job s = scan_of job.register (settings_of job.register s) shifted.data

abbrev pub job_lands : Shifted → ScanJob → State → List Bool → State
job_lands shifted job s bits = landed (places_of job.target) (job_compare shifted.expected shifted.mask job.cell) bits s

-- a list to compare with has as many bits as the data, if there is a comparison
abbrev pub IsAsLong : Option CellAt → ℕ → List Bool → Type 0
IsAsLong None n list = n ≡ n
IsAsLong (Some cell) n list = length list ≡ n

-- a place has room for so many bits
abbrev pub HasRoom : Option Part → ℕ → Type 0
HasRoom None n = n ≡ n
HasRoom (Some part) n = n ≤ part.span.count

-- The job can be done: there is data, there is room for as many captured bits, and the parts are there.
pub record CanBeDone (variables : List Held) (shifted : Shifted) (job : ScanJob) : Type 0 where
  pub some : 1 ≤ length shifted.data
  pub captured : length shifted.captured ≡ length shifted.data
  pub target : IsPartIf variables job.target
  pub room : HasRoom job.target (length shifted.data)
  pub expected : IsAsLong job.cell (length shifted.data) shifted.expected
  pub mask : IsAsLong job.cell (length shifted.data) shifted.mask

-- the memory with other captured bits
abbrev pub with_captured : Memory → List Bool → Memory
with_captured memory captured = record memory { shifted = record memory.shifted { captured = captured } }
