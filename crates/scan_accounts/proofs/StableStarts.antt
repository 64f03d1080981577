-- Before each turn of a program the controllers stand in a stable state.
use Rattle.std.proofs.Common.{◌≡◌, ℕ, true, List, All, refl}
use Rattle.tap_states.specs.Tap.{is_stable_state}
use Rattle.dev_card.specs.Padding.{BaseLengths}
use Rattle.dev_card.specs.FarEnds.{FarEnd}
use Rattle.stapl_meaning.specs.Scopes.{Played, zeros_of}
use Rattle.stapl_meaning.specs.Plays.{start, chain_reset}
use Rattle.stapl_meaning.specs.Typed.{IsTyped}
use Rattle.scan_accounts.specs.MadeTurns.{MadeTurn, begins, made_play}
use Rattle.scan_accounts.proofs.StableTurns.{Stands, StandsStable, turn_stands, beginning_stands}
use Rattle.scan_accounts.proofs.AllTurns.{all_of_play}

module _ (program : Played) (typed : IsTyped program) where
  pub play_begins : (chosen : List ℕ) (base : BaseLengths) (far : FarEnd) →
      StandsStable (begins program chosen (chain_reset base far))
  play_begins chosen base far =
      beginning_stands program typed (start chosen (zeros_of program)) (chain_reset base far) (refl, refl, tt) refl

  pub play_starts : (chosen : List ℕ) (n : ℕ) (base : BaseLengths) (far : FarEnd) →
      All (λ (t : MadeTurn). is_stable_state t.from ≡ true) (made_play program chosen n base far).turns
  play_starts chosen n base far =
      all_of_play program Stands (λ (t : MadeTurn). is_stable_state t.from ≡ true) (λ i s k h. h.0)
      (λ i s k h. turn_stands program typed i s k h.1 h.0) chosen n base far (play_begins chosen base far)
