-- What the rack holds after a session. The rules are this tool's own.
use Rattle.std.specs.Prelude.{◌≡◌, ℕ, List, map, Option, Some, Result, IfOk, IsSomeAnd}
use Rattle.dev_card.specs.declared.desc.Desc.{Desc}
use Rattle.dev_card.specs.Sound.{SoundCard}
use Rattle.chain_sim.specs.Places.{cards_at}
use Rattle.chain_sim.specs.Rack.{places_of}
use Rattle.named_files.specs.Boards.{HasBoard}
use Rattle.tool_frame.specs.declared.no_answer.NoAnswer.{NoAnswer}
use Rattle.named_files.specs.Words.{FileNames, IsRequest}
use Rattle.named_files.specs.Contents.{Contents}
use Rattle.link_tool.specs.declared.status.LinkStatus.{LinkStatus}
use Rattle.link_tool.specs.Statuses.{IsOfSession, ComesBeforeFitting}
use Rattle.link_tool.specs.Sessions.{board_left}
use Rattle.link_tool.specs.Answers.{link_key, new_board}

-- The devices of a board, at their places in the rack, are as the session of these bytes leaves them from power-up on.
abbrev pub HoldsLeft : List Desc → List ℕ → List (Option SoundCard) → Type 0
HoldsLeft devices bytes rack = cards_at rack (places_of devices) ≡ Some (board_left (new_board devices) bytes)

-- the same of a file, where it is held
abbrev pub HeldLeft : List Desc → Option (List ℕ) → List (Option SoundCard) → Type 0
HeldLeft devices held rack = IsSomeAnd held (λ bytes. HoldsLeft devices bytes rack)

-- the same of a request, with its board
pub record RequestHoldsLeft (contents : Contents) (rack : List (Option SoundCard)) : Type 0 where
  pub devices : List Desc
  pub board : HasBoard contents.board devices
  pub final : HeldLeft devices contents.file rack

-- the same of words
pub record WordsHoldLeft (words : List (List ℕ)) (contents : Contents) (rack : List (Option SoundCard)) : Type 0 where
  pub named : FileNames
  pub asked : IsRequest link_key words named
  pub final : RequestHoldsLeft contents rack

-- What a call that answers leaves of the rack. The devices keep their kinds. They stay as they were if the cause of the
-- status comes before the board is fitted, and after a session they are as it leaves them.
pub record KeepsRack {D Kind : Type 0} (kind_of : D → Kind) (fitted : D → Option SoundCard)
    (final : List (Option SoundCard) → Type 0) (before after : List D) (result : Result LinkStatus NoAnswer)
    : Type 0 where
  pub kinds : map kind_of after ≡ map kind_of before
  pub early : IfOk result (λ status. ComesBeforeFitting status → after ≡ before)
  pub leaves : IfOk result (λ status. IsOfSession status → final (map fitted after))
