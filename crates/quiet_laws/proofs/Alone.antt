-- For which reason alone a deed is not quiet.
use Rattle.std.proofs.Common.{◌≡◌, ◌∙◌, Bool, true, false, refl, sym}
use Rattle.std.proofs.lemmas.Bool.{false≢true}
use Rattle.tap_states.specs.declared.Tap.{Tap}
use Rattle.tap_states.specs.Path.{path_of}
use Rattle.dev_card.specs.Line.{pause_state}
use Rattle.dev_card.specs.Scans.{BoardScan}
use Rattle.stapl_meaning.specs.Deeds.{Goes, Scans, Chain}
use Rattle.padded_plays.specs.declared.unquiet.Unquiet.{Unquiet}
use Rattle.padded_plays.specs.declared.unquiet.Unquiet.TheVariants.{Instruction, Data, NotLoaded, ScanState}
use Rattle.padded_plays.specs.QuietClocks.{IsQuietWalk}
use Rattle.padded_plays.specs.Reasons.{IsUnquiet, wrong_instruction, wrong_data, not_loaded, way_to_stop, move, shifted_count, register_count}

-- a scan of instructions, by its length
pub instruction_alone : (loaded : Bool) (k : Chain) (s : BoardScan) → s.ir ≡ true → IsQuietWalk (pause_state s.ir) (path_of (pause_state s.ir) s.stop) →
    (other : Unquiet) → IsUnquiet loaded k (Scans s) other → other ≡ Instruction (shifted_count s) (register_count k s)
instruction_alone loaded k s ir quiet other (wrong_instruction _ e differs) = refl
instruction_alone loaded k s ir quiet other (wrong_data _ e differs) = absurd (false≢true (sym e ∙ ir))
instruction_alone loaded k s ir quiet other (not_loaded _ e l) = absurd (false≢true (sym e ∙ ir))
instruction_alone loaded k s ir quiet other (way_to_stop _ walks) = absurd (walks quiet)

-- a scan of data, by its length
pub data_alone : (loaded : Bool) (k : Chain) (s : BoardScan) → s.ir ≡ false → loaded ≡ true →
    IsQuietWalk (pause_state s.ir) (path_of (pause_state s.ir) s.stop) →
    (other : Unquiet) → IsUnquiet loaded k (Scans s) other → other ≡ Data (shifted_count s) (register_count k s)
data_alone loaded k s ir l quiet other (wrong_instruction _ e differs) = absurd (false≢true (sym ir ∙ e))
data_alone loaded k s ir l quiet other (wrong_data _ e differs) = refl
data_alone loaded k s ir l quiet other (not_loaded _ e m) = absurd (false≢true (sym m ∙ l))
data_alone loaded k s ir l quiet other (way_to_stop _ walks) = absurd (walks quiet)

-- a scan of data, as no instruction was loaded
pub loading_alone : (loaded : Bool) (k : Chain) (s : BoardScan) → s.ir ≡ false → shifted_count s ≡ register_count k s →
    IsQuietWalk (pause_state s.ir) (path_of (pause_state s.ir) s.stop) →
    (other : Unquiet) → IsUnquiet loaded k (Scans s) other → other ≡ NotLoaded
loading_alone loaded k s ir as_long quiet other (wrong_instruction _ e differs) = absurd (differs as_long)
loading_alone loaded k s ir as_long quiet other (wrong_data _ e differs) = absurd (differs as_long)
loading_alone loaded k s ir as_long quiet other (not_loaded _ e m) = refl
loading_alone loaded k s ir as_long quiet other (way_to_stop _ walks) = absurd (walks quiet)

-- a scan, by the way to its stop state
pub way_alone : (loaded : Bool) (k : Chain) (s : BoardScan) → shifted_count s ≡ register_count k s → (s.ir ≡ false → loaded ≡ true) →
    (other : Unquiet) → IsUnquiet loaded k (Scans s) other → other ≡ ScanState
way_alone loaded k s as_long l other (wrong_instruction _ e differs) = absurd (differs as_long)
way_alone loaded k s as_long l other (wrong_data _ e differs) = absurd (differs as_long)
way_alone loaded k s as_long l other (not_loaded _ e m) = absurd (false≢true (sym m ∙ l e))
way_alone loaded k s as_long l other (way_to_stop _ walks) = refl

-- a move
pub move_alone : (loaded : Bool) (k : Chain) (to : Tap) (other : Unquiet) → IsUnquiet loaded k (Goes to) other → other ≡ ScanState
move_alone loaded k to other (move _ walks) = refl
