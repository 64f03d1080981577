-- Five clocks with TMS 1 bring every board to reset, whatever states its controllers are in.
use Rattle.std.proofs.Common.{◌≡◌, Bool, false, List, [], ◌∷◌, refl, sym, subst}
use Rattle.tap_states.specs.declared.Tap.{Tap}
use Rattle.tap_states.specs.declared.Tap.TheVariants.{Reset, Idle, DrSelect, DrCapture, DrShift, DrExit1, DrPause, DrExit2, DrUpdate, IrSelect, IrCapture, IrShift, IrExit1, IrPause, IrExit2, IrUpdate}
use Rattle.tap_states.specs.Tap.{next_of}
use Rattle.tap_states.specs.Path.{walk, five_ones}
use Rattle.dev_card.specs.Card.{Card}
use Rattle.dev_card.specs.Board.{board_tdo, board_step, board_after, EachCard, AllIn}
use Rattle.dev_card.specs.Clocks.{with_zero}
use Rattle.dev_card.proofs.Reaching.{step_in}

module _ (Q : Tap → Type 0) where
  each_step : (m b : Bool) (ms : List Bool) (cs : List Card) → EachCard (λ c. Q (walk (next_of c.tap m) ms)) cs → EachCard (λ c. Q (walk c.tap ms)) (board_step cs m b)
  each_step m b ms [] h = tt
  each_step m b ms (c ∷ cs) h = (subst (λ t. Q (walk t ms)) (sym (step_in c.tap c m (board_tdo cs b) refl)) h.0, each_step m b ms cs h.1)

  each_walk : (ms : List Bool) (cs : List Card) → EachCard (λ c. Q (walk c.tap ms)) cs → EachCard (λ c. Q c.tap) (board_after cs (with_zero ms))
  each_walk [] cs h = h
  each_walk (m ∷ ms) cs h = each_walk ms (board_step cs m false) (each_step m false ms cs h)

five : (s : Tap) → walk s five_ones ≡ Reset
five Reset = refl
five Idle = refl
five DrSelect = refl
five DrCapture = refl
five DrShift = refl
five DrExit1 = refl
five DrPause = refl
five DrExit2 = refl
five DrUpdate = refl
five IrSelect = refl
five IrCapture = refl
five IrShift = refl
five IrExit1 = refl
five IrPause = refl
five IrExit2 = refl
five IrUpdate = refl

each_five : (cs : List Card) → EachCard (λ c. walk c.tap five_ones ≡ Reset) cs
each_five [] = tt
each_five (c ∷ cs) = (five c.tap, each_five cs)

pub five_ones_reset : (cs : List Card) → AllIn Reset (board_after cs (with_zero five_ones))
five_ones_reset cs = each_walk (λ t. t ≡ Reset) five_ones cs (each_five cs)
