-- Whether a play on devices alone is quiet, and else where it first is not.
use Rattle.std.specs.Prelude.{◌≡◌, ◌≤◌, ◌⊎◌, ◌-◌, ◌+◌, ℕ, List, map, Some, None}
use Rattle.dev_card.specs.Card.{fresh}
use Rattle.dev_card.specs.FarEnds.{Told}
use Rattle.dev_card.specs.declared.desc.Desc.{Desc}
use Rattle.stapl_meaning.specs.Scopes.{Played}
use Rattle.stapl_meaning.specs.declared.events.Ending.{Ending}
use Rattle.stapl_meaning.specs.Plays.{Going, ending_of, chain_reset}
use Rattle.stapl_code.specs.declared.raw.CodeLists.{CodeLists}
use Rattle.stapl_codegen.specs.Generated.{IsCodeOf}
use Rattle.padded_plays.specs.QuietPlays.{no_base, IsQuietPlay, play_alone}
use Rattle.stapl_machine.specs.Machines.{play_of}
use Rattle.padded_plays.specs.declared.unquiet.Unquiet.{Unquiet}
use Rattle.padded_plays.specs.FirstDeeds.{HasUnquietDeed, IsFirstUnquiet}
use Rattle.quiet_runs.specs.declared.judging.Judged.{Judged}
use Rattle.quiet_runs.specs.declared.first_turns.Verdict.{Verdict}
use Rattle.quiet_runs.specs.declared.first_turns.Verdict.TheVariants.{Quiet, NotQuiet}

-- The play for at most n turns ended so. It is quiet if no reason was seen, and else this is the reason of its first
-- deed that is not.
pub record IsJudgedPlay (program : Played) (chosen : List ℕ) (n : ℕ) (run : List Desc) (judged : Judged) : Type 0 where
  pub ended : ending_of (play_alone program chosen n run).outcome ≡ Some judged.ending
  pub quiet : judged.unquiet ≡ None → IsQuietPlay program chosen n run
  pub unquiet : (why : Unquiet) → judged.unquiet ≡ Some why → HasUnquietDeed program chosen n run why

-- the same of each program that the code stands for
abbrev pub JudgesCode : CodeLists → List ℕ → ℕ → List Desc → Judged → Type 0
JudgesCode code chosen n run judged = (program : Played) → IsCodeOf program code → IsJudgedPlay program chosen n run judged

-- The play is quiet for n turns, and ended so.
pub record IsQuietFor (program : Played) (chosen : List ℕ) (n : ℕ) (run : List Desc) (ending : Ending) : Type 0 where
  pub quiet : IsQuietPlay program chosen n run
  pub ended : ending_of (play_alone program chosen n run).outcome ≡ Some ending

-- The first deed that is not quiet is in this turn, that of this piece, and is not for this reason.
pub record IsUnquietIn (program : Played) (chosen : List ℕ) (n : ℕ) (run : List Desc) (turn piece : ℕ)
    (why : Unquiet) : Type 0 where
  pub first : IsFirstUnquiet program chosen run turn piece why
  pub within : turn ≤ n

abbrev pub IsQuietVerdict : Played → List ℕ → ℕ → List Desc → Verdict → Type 0
IsQuietVerdict program chosen n run (Quiet ending) = IsQuietFor program chosen n run ending
IsQuietVerdict program chosen n run (NotQuiet turn piece why) = IsUnquietIn program chosen n run turn piece why

abbrev pub JudgesPlay : CodeLists → List ℕ → ℕ → List Desc → Verdict → Type 0
JudgesPlay code chosen n run verdict =
    (program : Played) → IsCodeOf program code → IsQuietVerdict program chosen n run verdict

-- the play of a code on new devices of these descriptions goes on at this place
abbrev pub GoesOnAlone : CodeLists → List ℕ → ℕ → List Desc → ℕ → Type 0
GoesOnAlone code chosen n run place =
    (play_of code chosen n (chain_reset no_base (Told (map fresh run)))).outcome ≡ Going place

-- the play of a program on these devices alone goes on at this piece after so many turns
pub record GoesOnAtPiece (program : Played) (chosen : List ℕ) (n : ℕ) (run : List Desc) (piece : ℕ) : Type 0 where
  pub place : ℕ
  pub goes : (play_alone program chosen n run).outcome ≡ Going place
  pub piece_is : piece ≡ place + 1

abbrev pub TellsPiece : CodeLists → List ℕ → ℕ → List Desc → ℕ → Type 0
TellsPiece code chosen n run piece =
    (program : Played) → IsCodeOf program code → GoesOnAtPiece program chosen n run piece

-- The first deed that is not quiet is in this turn, that of some piece, and is not for this reason.
pub record IsUnquietAt (program : Played) (chosen : List ℕ) (n : ℕ) (run : List Desc) (turn : ℕ)
    (why : Unquiet) : Type 0 where
  pub piece : ℕ
  pub first : IsFirstUnquiet program chosen run turn piece why
  pub within : turn ≤ n

abbrev pub JudgesTurn : CodeLists → List ℕ → ℕ → List Desc → ℕ → Unquiet → Type 0
JudgesTurn code chosen n run turn why =
    (program : Played) → IsCodeOf program code → IsUnquietAt program chosen n run turn why

-- The play is not quiet for so many turns, for this reason, and is quiet for all fewer turns than another number.
pub record IsBetween (program : Played) (chosen : List ℕ) (run : List Desc) (low high : ℕ)
    (why : Unquiet) : Type 0 where
  pub unquiet : HasUnquietDeed program chosen high run why
  pub quiet : (low ≡ 0) ⊎ IsQuietPlay program chosen (low - 1) run

abbrev pub IsCodeBetween : CodeLists → List ℕ → List Desc → ℕ → ℕ → Unquiet → Type 0
IsCodeBetween code chosen run low high why =
    (program : Played) → IsCodeOf program code → IsBetween program chosen run low high why
