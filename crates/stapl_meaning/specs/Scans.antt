-- What scans, paddings and stop states do. Source: JESD71, IRSCAN, DRSCAN, PREIR, POSTIR, PREDR, POSTDR, IRSTOP and
-- DRSTOP. The limits of lengths, and the order of the tests, are this profile's.
use Rattle.std.specs.Prelude.{ℕ, ℤ, pos, nat_le, nat_abs, int_le, if◌then◌else◌, Bool, true, false, not, ◌&&◌, ◌||◌, List, [], ◌∷◌, length, take, drop, replicate, Option, Some, None, slice_get, slice_set}
use Rattle.std.specs.Bool.{beq}
use Rattle.stapl_lexer.specs.declared.terminal.Padding.{Padding}
use Rattle.stapl_lexer.specs.declared.terminal.Padding.TheVariants as paddings
use Rattle.stapl_lexer.specs.declared.terminal.Register.{Register}
use Rattle.stapl_lexer.specs.declared.terminal.Register.TheVariants as registers
use Rattle.tap_states.specs.declared.Tap.{Tap}
use Rattle.tap_states.specs.Tap.{is_stable_state}
use Rattle.dev_card.specs.Scans.{BoardScan}
use Rattle.stapl_meaning.specs.declared.events.RunFault.TheVariants.{LengthMismatch, BadLength}
use Rattle.stapl_meaning.specs.declared.values.Value.{Value}
use Rattle.stapl_meaning.specs.declared.values.Value.TheVariants.{Int, Bit}
use Rattle.stapl_meaning.specs.declared.values.Held.{Held}
use Rattle.stapl_meaning.specs.declared.values.Held.TheVariants as held
use Rattle.stapl_meaning.specs.Values.{Got, Known, Stuck, then_get, passed, index_held, bits_held, bits_in, Span, span_of, span_put, whole_span, Source, These, Whole, Range, OfInt, source_bits, asked}
use Rattle.stapl_meaning.specs.States.{ScanSettings, State, Did, Falls, Captures}
use Rattle.stapl_meaning.specs.Effects.{Target, IntoWhole, IntoRange, with_variables, scalar_written, element_written}

-- ---- how scans go

abbrev pub settings_of : Register → State → ScanSettings
settings_of registers.Data s = s.dr
settings_of registers.Instruction s = s.ir

abbrev pub is_instruction : Register → Bool
is_instruction registers.Data = false
is_instruction registers.Instruction = true

-- the state with another padding, and with another state in which scans end
abbrev pub with_padding : Padding → List Bool → State → State
with_padding paddings.PreData bits s = record s { dr = record s.dr { pre = bits } }
with_padding paddings.PostData bits s = record s { dr = record s.dr { post = bits } }
with_padding paddings.PreInstruction bits s = record s { ir = record s.ir { pre = bits } }
with_padding paddings.PostInstruction bits s = record s { ir = record s.ir { post = bits } }

abbrev pub with_stop : Register → Tap → State → State
with_stop registers.Data tap s = record s { dr = record s.dr { stop = tap } }
with_stop registers.Instruction tap s = record s { ir = record s.ir { stop = tap } }

-- the most bits of a scan without its paddings, and of a padding
abbrev pub scan_limit : ℕ
scan_limit = 4194304

abbrev pub padding_limit : ℕ
padding_limit = 65536

-- a length from one limit to another, or the fault of one that is outside
abbrev pub length_between : ℕ → ℕ → ℤ → Got ℕ
length_between least most z = passed (int_le (pos least) z && int_le z (pos most)) BadLength (nat_abs z)

-- a scan of these bits, without base padding
abbrev pub scan_of : Register → ScanSettings → List Bool → BoardScan
scan_of register settings bits = record {
  ir = is_instruction register;
  paddings = record { base_pre = 0; pre = settings.pre; post = settings.post; base_post = 0 };
  bits = bits;
  stop = settings.stop;
}

-- ---- the parts of a scan

-- where the result of a comparison goes: into the scalar of a number, or into an element of the array of a number
pub data CellPart : Type 0 where
  ScalarCell : ℕ → CellPart
  ElementCell : ℕ → CellPart

-- what a scan compares with
pub record CompareParts : Type 0 where
  pub expected : Source
  pub mask : Source
  pub cell : CellPart

-- a scan as it is written: its data, where the captured bits go, and what it compares with
pub record ScanParts : Type 0 where
  pub register : Register
  pub source : Source
  pub target : Option Target
  pub compare : Option CompareParts

-- how many values the parts of a scan have after its length: the indexes of ranges and of elements, or an integer
abbrev pub source_width : Source → ℕ
source_width (These bits) = 0
source_width (Whole n) = 0
source_width (Range profile n) = 2
source_width OfInt = 1

abbrev pub target_width : Option Target → ℕ
target_width None = 0
target_width (Some (IntoWhole n)) = 0
target_width (Some (IntoRange profile n)) = 2

-- ---- what the parts stand for: all are found and tested, in the written order, before the scan is

-- a part of the BOOLEAN array of a number
pub record Place : Type 0 where
  pub array : ℕ
  pub span : Span

-- the scalar of a number, or its element at an index
pub data Cell : Type 0 where
  InScalar : (n : ℕ) → Cell
  InElement : (n : ℕ) (index : ℤ) → Cell

-- bits to compare with, and the cell of the result
pub record Comparison : Type 0 where
  pub expected : List Bool
  pub mask : List Bool
  pub cell : Cell

module _ (variables : List Held) where
  abbrev pub target_found : Option Target → List Value → Got (Option Place)
  target_found None [] = Known None
  target_found (Some (IntoWhole n)) [] =
      then_get (bits_held (slice_get variables n)) (λ old.
      Known (Some (record { array = n; span = whole_span (length old) })))
  target_found (Some (IntoRange profile n)) (first ∷ second ∷ []) =
      then_get (bits_held (slice_get variables n)) (λ old.
      then_get (span_of profile (length old) first second) (λ span. Known (Some (record { array = n; span = span }))))
  target_found _ _ = Stuck

  abbrev pub cell_found : CellPart → List Value → Got Cell
  cell_found (ScalarCell n) [] = Known (InScalar n)
  cell_found (ElementCell n) (Int i ∷ []) = then_get (index_held (slice_get variables n) (Int i)) (λ index. Known (InElement n i))
  cell_found _ _ = Stuck

  -- whole lists of bits, of which the scan asks for some
  abbrev pub comparison_found : CompareParts → List Value → Got Comparison
  comparison_found parts values =
      then_get (source_bits variables parts.expected (take (source_width parts.expected) values)) (λ expected.
      then_get (source_bits variables parts.mask (take (source_width parts.mask) (drop (source_width parts.expected) values))) (λ mask.
      then_get (cell_found parts.cell (drop (source_width parts.mask) (drop (source_width parts.expected) values))) (λ cell.
      Known (record { expected = expected; mask = mask; cell = cell }))))

  abbrev pub compare_found : Option CompareParts → List Value → Got (Option Comparison)
  compare_found None [] = Known None
  compare_found None _ = Stuck
  compare_found (Some parts) values = then_get (comparison_found parts values) (λ comparison. Known (Some comparison))

-- what a scan found
pub record Found : Type 0 where
  pub data_bits : List Bool
  pub target : Option Place
  pub compare : Option Comparison

abbrev pub scan_found : List Held → ScanParts → List Value → Got Found
scan_found variables parts values =
    let after = drop (source_width parts.source) values in
    then_get (source_bits variables parts.source (take (source_width parts.source) values)) (λ data_bits.
    then_get (target_found variables parts.target (take (target_width parts.target) after)) (λ target.
    then_get (compare_found variables parts.compare (drop (target_width parts.target) after)) (λ compare.
    Known (record { data_bits = data_bits; target = target; compare = compare }))))

-- ---- what the captured bits do

-- they go to the first places of a part
abbrev pub caught : Option Place → List Bool → List Held → List Held
caught None bits variables = variables
caught (Some place) bits variables =
    slice_set variables place.array (held.Bits (span_put place.span bits (bits_in (slice_get variables place.array))))

-- each bit under a mask bit 1 is the expected one
abbrev pub agree : (mask expected bits : List Bool) → Bool
agree (m ∷ mask) (e ∷ expected) (b ∷ bits) = (not m || beq b e) && agree mask expected bits
agree _ _ _ = true

-- a result goes into a cell; each cell that was found is a BOOLEAN one
abbrev pub known_or : {A : Type 0} → A → Got A → A
known_or x (Known y) = y
known_or x _ = x

abbrev pub cell_written : Cell → Bool → List Held → Got (List Held)
cell_written (InScalar n) b variables = scalar_written variables n (slice_get variables n) (Bit b)
cell_written (InElement n i) b variables = element_written variables n (slice_get variables n) i (Bit b)

abbrev pub judged : Option Comparison → List Bool → List Held → List Held
judged None bits variables = variables
judged (Some c) bits variables = known_or variables (cell_written c.cell (agree c.mask c.expected bits) variables)

-- They land in the target, and then the result in its cell.
abbrev pub landed : Option Place → Option Comparison → List Bool → State → State
landed target compare bits s = with_variables s (judged compare bits (caught target bits s.store.variables))

-- ---- the effects

-- a target that has so many bits
abbrev pub target_asked : ℕ → Option Place → Got (Option Place)
target_asked n None = Known None
target_asked n (Some place) = passed (nat_le n place.span.count) LengthMismatch (Some place)

-- the lowest so many bits to compare with
abbrev pub compare_asked : ℕ → Option CompareParts → Option Comparison → Got (Option Comparison)
compare_asked n (Some parts) (Some c) =
    then_get (asked parts.expected n c.expected) (λ expected.
    then_get (asked parts.mask n c.mask) (λ mask. Known (Some (record c { expected = expected; mask = mask }))))
compare_asked n _ _ = Known None

-- a scan of so many bits of what was found
abbrev pub scan_asked : ScanParts → Found → State → ℕ → Got Did
scan_asked parts found s n =
    then_get (asked parts.source n found.data_bits) (λ bits.
    then_get (target_asked n found.target) (λ target.
    then_get (compare_asked n parts.compare found.compare) (λ compare.
    Known (Captures (scan_of parts.register (settings_of parts.register s) bits) (λ captured. landed target compare captured s)))))

-- The length is tested when all parts are found, and then whether each part has so many bits.
abbrev pub scanned : ScanParts → List Value → State → Got Did
scanned parts (Int z ∷ values) s =
    then_get (scan_found s.store.variables parts values) (λ found. then_get (length_between 1 scan_limit z) (scan_asked parts found s))
scanned parts _ s = Stuck

-- the bits of a padding of so many, which are ones if none are written
abbrev pub padding_bits : List Held → Option Source → List Value → ℤ → Got (List Bool)
padding_bits variables None [] z = then_get (length_between 0 padding_limit z) (λ n. Known (replicate n true))
padding_bits variables None _ z = Stuck
padding_bits variables (Some source) values z =
    then_get (source_bits variables source values) (λ bits. then_get (length_between 0 padding_limit z) (λ n. asked source n bits))

-- a padding is set
abbrev pub surrounded : Padding → Option Source → List Value → State → Got Did
surrounded which source (Int z ∷ values) s =
    then_get (padding_bits s.store.variables source values z) (λ bits. Known (Falls [] (with_padding which bits s)))
surrounded which source _ s = Stuck

-- The state in which scans end is set. One that is not stable is met by no accepted program.
abbrev pub stopped : Register → Tap → List Value → State → Got Did
stopped register tap [] s = if is_stable_state tap then Known (Falls [] (with_stop register tap s)) else Stuck
stopped register tap _ s = Stuck
