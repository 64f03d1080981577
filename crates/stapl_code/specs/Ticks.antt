-- How many instructions a run of the machine takes. A Turn counts in the turn that it begins.
use Rattle.std.specs.Prelude.{ℕ, zero, suc, ◌+◌, ◌-◌, Bool, if◌then◌else◌, List, [], ◌∷◌, length, drop}
use Rattle.stapl_meaning.specs.declared.values.Value.{Value}
use Rattle.stapl_meaning.specs.declared.values.Held.{Held}
use Rattle.dev_card.specs.Scans.{BoardScan}
use Rattle.tap_states.specs.Tap.{is_stable_state}
use Rattle.stapl_meaning.specs.Deeds.{Scans, Chain, deed_chain, deeds_chain, captured_on}
use Rattle.stapl_meaning.specs.States.{State, Happened, Led, Finished, Broke, Lacks}
use Rattle.stapl_meaning.specs.Plays.{start}
use Rattle.stapl_code.specs.declared.instr.Instr.{Instr}
use Rattle.stapl_code.specs.declared.instr.Instr.TheVariants.{Turn}
use Rattle.stapl_code.specs.Machine.{Constants, Step, Falls, Acts, Scanned, Stops, Faulted, Wrong, step, code_turn, code_beginning}

-- a count after a scan on a chain
abbrev pub counted_scan : Chain → BoardScan → (List Bool → Chain → ℕ) → ℕ
counted_scan k scan go = if is_stable_state k.tap then go (captured_on k scan) (deed_chain k (Scans scan)) else 0

-- a count after a step on a chain; the end of a turn has none
abbrev pub counted_after : Chain → Step → (List Value → State → Chain → ℕ) → ℕ
counted_after k (Falls ops s) go = go ops s k
counted_after k (Acts deeds ops s) go = go ops s (deeds_chain k deeds)
counted_after k (Scanned scan ops lands) go = counted_scan k scan (λ bits l. go ops (lands bits) l)
counted_after k (Stops ops t) go = 0
counted_after k (Faulted f s) go = 0
counted_after k Wrong go = 0

abbrev pub tick_of : Instr → ℕ
tick_of (Turn piece) = 0
tick_of _ = 1

-- a count after a turn, where it leads on
abbrev pub counted_then : Happened → (ℕ → State → Chain → ℕ) → ℕ
counted_then (Led events place s k) go = go place s k
counted_then (Finished events ending s k) go = 0
counted_then (Broke events f s k) go = 0
counted_then (Lacks events) go = 0

module _ (entries : List ℕ) (constants : Constants) where
  -- the instructions of the rest of a turn
  abbrev pub ticks : ℕ → List Instr → List Value → State → Chain → ℕ
  ticks total [] ops s k = 0
  ticks total (i ∷ rest) ops s k =
      tick_of i + counted_after k (step entries constants (total - suc (length rest)) i ops s) (ticks total rest)

  abbrev pub begin_ticks : ℕ → List Instr → State → Chain → ℕ
  begin_ticks total (Turn piece ∷ rest) s k = 1 + ticks total rest [] s k
  begin_ticks total _ s k = 0

  -- the instructions of a turn
  abbrev pub turn_ticks : List Instr → ℕ → State → Chain → ℕ
  turn_ticks code place s k = begin_ticks (length code) (drop place code) s k

  -- the instructions of at most n turns
  abbrev pub run_ticks : List Instr → ℕ → ℕ → State → Chain → ℕ
  run_ticks code zero place s k = 0
  run_ticks code (suc n) place s k =
      turn_ticks code place s k + counted_then (code_turn entries constants code place s k) (run_ticks code n)

  -- the instructions of the prologue and of at most n turns of the chosen procedures
  abbrev pub play_ticks : List Instr → List ℕ → List Held → ℕ → Chain → ℕ
  play_ticks code chosen variables n k =
      ticks (length code) code [] (start chosen variables) k
      + counted_then (code_beginning entries constants code chosen variables k) (run_ticks code n)
