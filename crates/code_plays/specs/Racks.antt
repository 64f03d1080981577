-- What the rack holds after a play. The rules are this tool's own.
use Rattle.std.specs.Prelude.{◌≡◌, ℕ, List, [], map, Option, Some, Result, IfOk}
use Rattle.stapl_meaning.specs.Choices.{chosen}
use Rattle.dev_card.specs.declared.desc.Desc.{Desc}
use Rattle.dev_card.specs.Card.{Card}
use Rattle.dev_card.specs.FarEnds.{FarEnd, Told, far_end}
use Rattle.dev_card.specs.PaddedScan.{descriptions_of}
use Rattle.dev_card.specs.Sound.{SoundCard}
use Rattle.stapl_code.specs.declared.raw.CodeLists.{CodeLists}
use Rattle.stapl_player.specs.Choices.{code_choice}
use Rattle.chain_sim.specs.Places.{cards_at}
use Rattle.chain_sim.specs.Rack.{places_of}
use Rattle.tool_frame.specs.declared.no_answer.NoAnswer.{NoAnswer}
use Rattle.play_words.specs.declared.requests.PlayRequest.{PlayRequest}
use Rattle.play_words.specs.declared.status.Status.{Status}
use Rattle.play_words.specs.Statuses.{IsOfPlay, ComesBeforeFitting}
use Rattle.code_plays.specs.Plays.{code_play_on}

-- what stands at the far end of a cable to these places of a rack
abbrev pub far_at : List (Option SoundCard) → List ℕ → FarEnd
far_at rack places = far_end (cards_at rack places) []

-- The devices at these places are the board that is told at a far end, and they have these descriptions.
pub record AreLeft (rack : List (Option SoundCard)) (places : List ℕ) (devices : List Desc) (far : FarEnd) : Type 0 where
  pub cards : List Card
  pub there : cards_at rack places ≡ Some cards
  pub told : far ≡ Told cards
  pub described : descriptions_of cards ≡ devices

-- The devices of a board, at their places in the rack, are as the play of a code leaves them that a request asks for.
pub record CodeHoldsFinal (code : CodeLists) (request : PlayRequest) (devices : List Desc) (rack : List (Option SoundCard)) : Type 0 where
  pub procedures : List ℕ
  pub choice : code_choice code request.action request.todo request.skip ≡ chosen procedures
  pub left : AreLeft rack (places_of devices) devices (code_play_on code request devices procedures).chain.far

-- What a call that answers leaves of the rack. The devices keep their kinds. They stay as they were if no play is asked
-- for, and if the cause of the status comes before the board is fitted; after a play they are as it leaves them.
pub record KeepsRack {D Kind : Type 0} (kind_of : D → Kind) (fitted : D → Option SoundCard) (playing : Type 0) (final : List (Option SoundCard) → Type 0)
    (before after : List D) (result : Result Status NoAnswer) : Type 0 where
  pub kinds : map kind_of after ≡ map kind_of before
  pub early : IfOk result (λ status. ComesBeforeFitting status → after ≡ before)
  pub leaves : playing → IfOk result (λ status. IsOfPlay status → final (map fitted after))
  pub other : (playing → ⊥) → after ≡ before
