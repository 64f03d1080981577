-- What paddings and stop states leave for later scans. Source: JESD71, PREIR, POSTIR, PREDR, POSTDR, IRSTOP and DRSTOP.
use Rattle.std.specs.Prelude.{◌≡◌, ◌<◌, ◌+◌, ℕ, Bool, true, false, List, [], length, Some, slice_get}
use Rattle.stapl_lexer.specs.declared.terminal.Padding.{Padding}
use Rattle.stapl_lexer.specs.declared.terminal.Padding.TheVariants.{PreData, PostData, PreInstruction, PostInstruction}
use Rattle.stapl_lexer.specs.declared.terminal.Register.{Register}
use Rattle.stapl_lexer.specs.declared.terminal.Register.TheVariants.{Data, Instruction}
use Rattle.tap_states.specs.declared.Tap.{Tap}
use Rattle.dev_card.specs.Scans.{BoardScan}
use Rattle.stapl_meaning.specs.States.{State, ScanSettings, Leads}
use Rattle.stapl_meaning.specs.Scopes.{Played}
use Rattle.stapl_meaning.specs.Turns.{turn}

-- so many ones
pub record AreOnes (n : ℕ) (bits : List Bool) : Type 0 where
  pub count : length bits ≡ n
  pub each : (k : ℕ) → k < n → slice_get bits k ≡ Some true

-- the first so many of these bits
pub record AreFirst (n : ℕ) (whole bits : List Bool) : Type 0 where
  pub count : length bits ≡ n
  pub each : (k : ℕ) → k < n → slice_get bits k ≡ slice_get whole k

-- how scans go has other bits before their data, or after them
pub record HasPre (old new : ScanSettings) (bits : List Bool) : Type 0 where
  pub pre : new.pre ≡ bits
  pub post : new.post ≡ old.post
  pub stop : new.stop ≡ old.stop

pub record HasPost (old new : ScanSettings) (bits : List Bool) : Type 0 where
  pub pre : new.pre ≡ old.pre
  pub post : new.post ≡ bits
  pub stop : new.stop ≡ old.stop

-- how scans go has another state in which they end
pub record HasStop (old new : ScanSettings) (tap : Tap) : Type 0 where
  pub pre : new.pre ≡ old.pre
  pub post : new.post ≡ old.post
  pub stop : new.stop ≡ tap

-- a padding is these bits from now on, and all else of how scans go is as it was
pub data IsPadded (s t : State) (bits : List Bool) : Padding → Type 0 where
  pre_data : HasPre s.dr t.dr bits → t.ir ≡ s.ir → IsPadded s t bits PreData
  post_data : HasPost s.dr t.dr bits → t.ir ≡ s.ir → IsPadded s t bits PostData
  pre_instruction : HasPre s.ir t.ir bits → t.dr ≡ s.dr → IsPadded s t bits PreInstruction
  post_instruction : HasPost s.ir t.ir bits → t.dr ≡ s.dr → IsPadded s t bits PostInstruction

-- scans of a register end in this state from now on
pub data IsStopped (s t : State) (tap : Tap) : Register → Type 0 where
  data_scans : HasStop s.dr t.dr tap → t.ir ≡ s.ir → IsStopped s t tap Data
  instruction_scans : HasStop s.ir t.ir tap → t.dr ≡ s.dr → IsStopped s t tap Instruction

-- the turn at a place sets a padding, of bits of which something holds
pub record SetsPadding (program : Played) (i : ℕ) (s : State) (which : Padding) (Are : List Bool → Type 0) : Type 0 where
  pub bits : List Bool
  pub are : Are bits
  pub after : State
  pub leads : turn program i s ≡ Leads [] (i + 1) after
  pub is : IsPadded s after bits which

-- it sets the state in which scans of a register end
pub record SetsStop (program : Played) (i : ℕ) (s : State) (register : Register) (tap : Tap) : Type 0 where
  pub after : State
  pub leads : turn program i s ≡ Leads [] (i + 1) after
  pub is : IsStopped s after tap register

-- a scan goes by these settings, and has no base padding of its own
pub record GoesBy (settings : ScanSettings) (scan : BoardScan) : Type 0 where
  pub pre : scan.paddings.pre ≡ settings.pre
  pub post : scan.paddings.post ≡ settings.post
  pub stop : scan.stop ≡ settings.stop
  pub no_pre : scan.paddings.base_pre ≡ 0
  pub no_post : scan.paddings.base_post ≡ 0

-- a scan of a register goes as the state says
pub data ScansAs (s : State) (scan : BoardScan) : Register → Type 0 where
  of_data : scan.ir ≡ false → GoesBy s.dr scan → ScansAs s scan Data
  of_instruction : scan.ir ≡ true → GoesBy s.ir scan → ScansAs s scan Instruction
