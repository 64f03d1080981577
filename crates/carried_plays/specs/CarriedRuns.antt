-- What a run with base padding is for a program that carries it: the program's paddings are those of the base, and the
-- chain has none.
use Rattle.std.specs.Prelude.{◌≡◌, ◌≢◌, ◌≤◌, ◌+◌, ℕ, Bool, true, List, ◌∷◌, replicate}
use Rattle.dev_card.specs.Padding.{BaseLengths}
use Rattle.dev_card.specs.FarEnds.{FarEnd}
use Rattle.stapl_syntax.specs.Trees.{StmtTree}
use Rattle.stapl_meaning.specs.Deeds.{Chain}
use Rattle.stapl_meaning.specs.States.{ScanSettings, State}
use Rattle.stapl_meaning.specs.Scans.{padding_limit}
use Rattle.stapl_meaning.specs.Scopes.{as_played}
use Rattle.stapl_meaning.specs.Choices.{chosen, choice_of}
use Rattle.stapl_meaning.specs.Plays.{Run, Stopped, play}
use Rattle.padded_plays.specs.QuietPlays.{no_base}
use Rattle.carried_plays.specs.CarriedPrograms.{carried_with, padding_number, choice_with}

-- so many ones
abbrev pub ones : ℕ → List Bool
ones n = replicate n true

-- settings with these paddings
abbrev pub settings_with : ℕ → ℕ → ScanSettings → ScanSettings
settings_with pre post settings = record settings { pre = ones pre; post = ones post }

-- the state whose paddings are those of the base
abbrev pub padded_state : BaseLengths → State → State
padded_state base s =
    record s { ir = settings_with base.ir_pre base.ir_post s.ir; dr = settings_with base.dr_pre base.dr_post s.dr }

-- the chain without base padding
abbrev pub unbased : Chain → Chain
unbased k = record k { base = no_base }

-- the run with both
abbrev pub carried_run : BaseLengths → Run → Run
carried_run base r = record r { state = padded_state base r.state; chain = unbased r.chain }

-- lengths that a program may set
pub record AreShort (base : BaseLengths) : Type 0 where
  pub ir_pre : base.ir_pre ≤ padding_limit
  pub ir_post : base.ir_post ≤ padding_limit
  pub dr_pre : base.dr_pre ≤ padding_limit
  pub dr_post : base.dr_post ≤ padding_limit

-- The program with the procedure of this name plays as the program does with base padding, whatever answers the clocks.
-- Each choice comes to the same, and the new procedure. The play has five turns more, the same events, clocks among
-- them, the same outcome, procedures still to run, records, variables, stop states and TAP state, and leaves the same
-- far end.
pub record CarriesPadding (name : List ℕ) (base : BaseLengths) (end program : List StmtTree) : Type 0 where
  pub choices : (action : List ℕ) (asked skipped : List (List ℕ)) →
      choice_of (as_played (carried_with name base end program)) action asked skipped
      ≡ choice_with (padding_number program) (choice_of (as_played program) action asked skipped)
  pub plays : (action : List ℕ) (asked skipped : List (List ℕ)) (procedures : List ℕ) →
      choice_of (as_played program) action asked skipped ≡ chosen procedures → (n : ℕ) (far : FarEnd) →
      (play (as_played program) procedures n base far).outcome ≢ Stopped →
      play (as_played (carried_with name base end program)) (padding_number program ∷ procedures) (n + 5) no_base far
      ≡ carried_run base (play (as_played program) procedures n base far)
