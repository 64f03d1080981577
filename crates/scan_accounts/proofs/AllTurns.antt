-- What holds of each turn of a play, by what holds before each turn and after it.
use Rattle.std.proofs.Common.{ℕ, zero, suc, List, All}
use Rattle.std.proofs.lemmas.List.Elements.{All-cons, All-nil}
use Rattle.dev_card.specs.Padding.{BaseLengths}
use Rattle.dev_card.specs.FarEnds.{FarEnd}
use Rattle.stapl_meaning.specs.Deeds.{Chain}
use Rattle.stapl_meaning.specs.States.{State, Happened, Led, Finished, Broke, Lacks, happens}
use Rattle.stapl_meaning.specs.Scopes.{Played}
use Rattle.stapl_meaning.specs.Turns.{turn}
use Rattle.stapl_meaning.specs.Plays.{chain_reset}
use Rattle.scan_accounts.specs.MadeTurns.{MadeTurn, turns_after, made_turn, made_turns, begins, made_play}
use Rattle.scan_accounts.proofs.StableTurns.{LeadsTo}

all_after : (I : State → Chain → Type 0) (P : MadeTurn → Type 0) (h : Happened)
    (next : ℕ → State → Chain → List MadeTurn) →
    LeadsTo I h → ((place : ℕ) (s : State) (l : Chain) → I s l → All P (next place s l)) → All P (turns_after h next)
all_after I P (Led es place s l) next led more = more place s l led
all_after I P (Finished es ending s l) next led more = All-nil P
all_after I P (Broke es f s l) next led more = All-nil P
all_after I P (Lacks es) next led more = All-nil P

-- something that holds before each turn is kept by it, and is enough for what holds of the turn
module _ (program : Played) (I : State → Chain → Type 0) (P : MadeTurn → Type 0)
    (own : (i : ℕ) (s : State) (k : Chain) → I s k → P (made_turn program i s k))
    (kept : (i : ℕ) (s : State) (k : Chain) → I s k → LeadsTo I (happens k (turn program i s))) where
  all_turns : (n i : ℕ) (s : State) (k : Chain) → I s k → All P (made_turns program n i s k)
  all_turns zero i s k h = All-nil P
  all_turns (suc n) i s k h =
      let then : Happened = happens k (turn program i s) in
      All-cons P (made_turn program i s k) (turns_after then (made_turns program n)) (own i s k h)
      (all_after I P then (made_turns program n) (kept i s k h) (λ place t l led. all_turns n place t l led))

  pub all_of_play : (chosen : List ℕ) (n : ℕ) (base : BaseLengths) (far : FarEnd) →
      LeadsTo I (begins program chosen (chain_reset base far)) → All P (made_play program chosen n base far).turns
  all_of_play chosen n base far led =
      all_after I P (begins program chosen (chain_reset base far)) (made_turns program n) led
      (λ place s l h. all_turns n place s l h)
