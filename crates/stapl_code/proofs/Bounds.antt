-- How many instructions are left, and how many a run takes.
use Rattle.std.proofs.Common.{ℕ, zero, suc, ◌+◌, ◌-◌, ◌*◌, ◌≤◌, Bool, true, false, List, [], ◌∷◌, length, drop, arith, length-drop}
use Rattle.std.specs.Prelude.{if◌then◌else◌}
use Rattle.stapl_meaning.specs.declared.values.Value.{Value}
use Rattle.stapl_meaning.specs.declared.values.Held.{Held}
use Rattle.tap_states.specs.Tap.{is_stable_state}
use Rattle.dev_card.specs.Scans.{BoardScan}
use Rattle.stapl_meaning.specs.Deeds.{Scans, Chain, deed_chain, deeds_chain, captured_on}
use Rattle.stapl_meaning.specs.States.{State, Happened, Led, Finished, Broke, Lacks}
use Rattle.stapl_meaning.specs.Plays.{start}
use Rattle.stapl_code.specs.declared.instr.Instr.{Instr}
use Rattle.stapl_code.specs.declared.instr.Instr.TheVariants.{Turn}
use Rattle.stapl_code.specs.Machine.{Constants, Step, Falls, Acts, Scanned, Stops, Faulted, Wrong, step, code_turn, code_beginning}
use Rattle.stapl_code.specs.Ticks.{counted_scan, counted_after, tick_of, counted_then, ticks, begin_ticks, turn_ticks, run_ticks, play_ticks}

one_at_most : (x : Instr) → tick_of x ≤ 1
one_at_most (Turn piece) = omega arith
one_at_most _ = omega arith

scan_at_most : (n : ℕ) (k : Chain) (scan : BoardScan) (go : List Bool → Chain → ℕ) → ((bits : List Bool) (l : Chain) → go bits l ≤ n) →
    counted_scan k scan go ≤ n
scan_at_most n k scan go h = by (is_stable_state k.tap)
  where
    by : (b : Bool) → (if b then go (captured_on k scan) (deed_chain k (Scans scan)) else 0) ≤ n
    by true = h (captured_on k scan) (deed_chain k (Scans scan))
    by false = omega arith

after_at_most : (n : ℕ) (k : Chain) (st : Step) (go : List Value → State → Chain → ℕ) →
    ((ops : List Value) (s : State) (l : Chain) → go ops s l ≤ n) → counted_after k st go ≤ n
after_at_most n k (Falls ops s) go h = h ops s k
after_at_most n k (Acts deeds ops s) go h = h ops s (deeds_chain k deeds)
after_at_most n k (Scanned scan ops lands) go h = scan_at_most n k scan (λ bits l. go ops (lands bits) l) (λ bits l. h ops (lands bits) l)
after_at_most n k (Stops ops t) go h = omega arith
after_at_most n k (Faulted f s) go h = omega arith
after_at_most n k Wrong go h = omega arith

then_at_most : (n : ℕ) (h : Happened) (go : ℕ → State → Chain → ℕ) → ((place : ℕ) (s : State) (k : Chain) → go place s k ≤ n) →
    counted_then h go ≤ n
then_at_most n (Led events place s k) go h = h place s k
then_at_most n (Finished events ending s k) go h = omega arith
then_at_most n (Broke events f s k) go h = omega arith
then_at_most n (Lacks events) go h = omega arith

module _ (entries : List ℕ) (constants : Constants) where
  ticks_at_most : (total : ℕ) (rest : List Instr) (ops : List Value) (s : State) (k : Chain) →
      ticks entries constants total rest ops s k ≤ length rest
  ticks_at_most total [] ops s k = omega arith
  ticks_at_most total (x ∷ rest) ops s k =
      let one = one_at_most x in
      let after =
      after_at_most (length rest) k (step entries constants (total - suc (length rest)) x ops s) (ticks entries constants total rest)
      (λ o t l. ticks_at_most total rest o t l)
      in
      omega (arith, one, after)

  begin_at_most : (total : ℕ) (rest : List Instr) (s : State) (k : Chain) → begin_ticks entries constants total rest s k ≤ length rest
  begin_at_most total (Turn piece ∷ rest) s k = let most = ticks_at_most total rest [] s k in omega (arith, most)
  begin_at_most total _ s k = omega arith

  pub turn_at_most : (code : List Instr) (place : ℕ) (s : State) (k : Chain) → turn_ticks entries constants code place s k ≤ length code
  turn_at_most code place s k =
      let most = begin_at_most (length code) (drop place code) s k in
      omega (arith, most, length-drop place code)

  run_at_most : (code : List Instr) (n place : ℕ) (s : State) (k : Chain) → run_ticks entries constants code n place s k ≤ n * length code
  run_at_most code zero place s k = omega arith
  run_at_most code (suc n) place s k =
      let one = turn_at_most code place s k in
      let more =
      then_at_most (n * length code) (code_turn entries constants code place s k) (run_ticks entries constants code n)
      (λ p t l. run_at_most code n p t l)
      in
      omega (arith, one, more)

  pub play_at_most : (code : List Instr) (chosen : List ℕ) (variables : List Held) (n : ℕ) (k : Chain) →
      play_ticks entries constants code chosen variables n k ≤ (n + 1) * length code
  play_at_most code chosen variables n k =
      let front = ticks_at_most (length code) code [] (start chosen variables) k in
      let more =
      then_at_most (n * length code) (code_beginning entries constants code chosen variables k) (run_ticks entries constants code n)
      (λ p t l. run_at_most code n p t l)
      in
      omega (arith, front, more)
