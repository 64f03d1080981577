-- On where the machine goes after an instruction.
use Rattle.std.proofs.Common.{◌≡◌, ℕ, List, [], ◌∷◌, length, reverse, refl, arith, Some, None}
use Rattle.stapl_meaning.specs.declared.values.Value.{Value}
use Rattle.stapl_meaning.specs.Deeds.{Chain}
use Rattle.stapl_meaning.specs.States.{State, happens, happened_in_piece}
use Rattle.stapl_code.specs.Machine.{at_end}
use Rattle.stapl_instructions.specs.declared.control.Went.{Went}
use Rattle.stapl_instructions.specs.declared.control.Went.TheVariants as went
use Rattle.stapl_instructions.specs.Moves.{led_to, led_on}

-- no fault is left where a turn led
led_keeps : (piece : ℕ) (w : Went) (s : State) (k : Chain) → happened_in_piece piece (happens k (led_to w s)) ≡ led_on w s k
led_keeps piece (went.On place) s k = refl
led_keeps piece (went.Over (Some ending)) s k = refl
led_keeps piece (went.Over None) s k = refl

-- a turn ends with no operand left
pub end_clean : (piece : ℕ) (ops : List Value) (w : Went) (s : State) (k : Chain) → length ops ≡ 0 →
    happened_in_piece piece (at_end (reverse ops) (happens k (led_to w s))) ≡ led_on w s k
end_clean piece [] w s k none = led_keeps piece w s k
end_clean piece (v ∷ ops) w s k none = absurd (omega (arith, none))
