-- Why a deed of a play on a run that stands alone is not quiet. Which deeds are quiet is this profile's.
use Rattle.std.specs.Prelude.{◌≡◌, ◌≢◌, ◌≤◌, ℕ, true, false, Bool, length, replicate}
use Rattle.tap_states.specs.declared.Tap.{Tap}
use Rattle.tap_states.specs.Path.{path_of}
use Rattle.dev_card.specs.Line.{pause_state}
use Rattle.dev_card.specs.Padding.{program_bits}
use Rattle.dev_card.specs.Clocks.{at_shift, rest_tms}
use Rattle.dev_card.specs.Scans.{BoardScan}
use Rattle.dev_card.specs.Sound.{register_lengths}
use Rattle.stapl_meaning.specs.Deeds.{Deed, Goes, Stays, Scans, Chain}
use Rattle.padded_plays.specs.QuietClocks.{IsQuietWalk}
use Rattle.padded_plays.specs.QuietPlays.{told_cards}
use Rattle.padded_plays.specs.declared.unquiet.Unquiet.{Unquiet}
use Rattle.padded_plays.specs.declared.unquiet.Unquiet.TheVariants.{Instruction, Data, NotLoaded, ScanState}

-- how many bits a program shifts in a scan, its paddings among them
abbrev pub shifted_count : BoardScan → ℕ
shifted_count s = length (program_bits s.paddings s.bits)

-- how many bits the registers have that a scan of a chain shifts, as they are at its first shift clock
abbrev pub register_count : Chain → BoardScan → ℕ
register_count k s = register_lengths s.ir (at_shift k.tap s.ir (told_cards k.far))

-- A reason why a deed is not quiet on a chain: a scan does not have as many bits as the registers, or shifts data while
-- no instruction is loaded, or a walk leads into a state into which only scans lead.
pub data IsUnquiet (loaded : Bool) (k : Chain) : Deed → Unquiet → Type 0 where
  wrong_instruction : (s : BoardScan) → s.ir ≡ true → shifted_count s ≢ register_count k s →
      IsUnquiet loaded k (Scans s) (Instruction (shifted_count s) (register_count k s))
  wrong_data : (s : BoardScan) → s.ir ≡ false → shifted_count s ≢ register_count k s →
      IsUnquiet loaded k (Scans s) (Data (shifted_count s) (register_count k s))
  not_loaded : (s : BoardScan) → s.ir ≡ false → loaded ≡ false → IsUnquiet loaded k (Scans s) NotLoaded
  way_to_stop : (s : BoardScan) → ¬ IsQuietWalk (pause_state s.ir) (path_of (pause_state s.ir) s.stop) →
      IsUnquiet loaded k (Scans s) ScanState
  move : (to : Tap) → ¬ IsQuietWalk k.tap (path_of k.tap to) → IsUnquiet loaded k (Goes to) ScanState
  stay : (n : ℕ) → ¬ IsQuietWalk k.tap (replicate n (rest_tms k.tap)) → IsUnquiet loaded k (Stays n) ScanState

-- the reason for a scan that has not as many bits as the registers, true for the instruction registers
abbrev pub length_reason : Bool → ℕ → ℕ → Unquiet
length_reason true shifted registers = Instruction shifted registers
length_reason false shifted registers = Data shifted registers

-- the order of reasons
abbrev pub number_of_reason : Unquiet → ℕ
number_of_reason (Instruction shifted registers) = 0
number_of_reason (Data shifted registers) = 1
number_of_reason NotLoaded = 2
number_of_reason ScanState = 3

-- the reason that is told of a deed: the first one in that order
pub record IsReason (loaded : Bool) (k : Chain) (d : Deed) (why : Unquiet) : Type 0 where
  pub holds : IsUnquiet loaded k d why
  pub first : (other : Unquiet) → IsUnquiet loaded k d other → number_of_reason why ≤ number_of_reason other

-- there is one
pub record HasReason (loaded : Bool) (k : Chain) (d : Deed) : Type 0 where
  pub why : Unquiet
  pub is : IsReason loaded k d why
