-- What the rack holds after a trace was compared with a board. The rules are this tool's own.
use Rattle.std.specs.Prelude.{◌≡◌, ◌-◌, ℕ, List, [], map, take, Option, None, Some, Result, Ok, Err, IfOk, IsErrOf}
use Rattle.dev_card.specs.declared.desc.Desc.{Desc}
use Rattle.dev_card.specs.Sound.{SoundCard}
use Rattle.chain_sim.specs.Places.{cards_at}
use Rattle.chain_sim.specs.Rack.{places_of}
use Rattle.named_files.specs.Boards.{HasBoard}
use Rattle.pin_lines.specs.PinLines.{pins_in}
use Rattle.pin_lines.specs.Traces.{board_led_to}
use Rattle.tool_frame.specs.declared.no_answer.NoAnswer.{NoAnswer}
use Rattle.tool_frame.specs.declared.no_answer.NoAnswer.TheVariants.{Read, Write}
use Rattle.named_files.specs.Words.{FileNames, IsRequest}
use Rattle.named_files.specs.Contents.{Contents}
use Rattle.trace_tool.specs.declared.status.TraceStatus.{TraceStatus}
use Rattle.trace_tool.specs.declared.status.TraceStatus.TheVariants.{Good, Differs, BadLine, TooLong, BoardRefused, Usage}
use Rattle.trace_tool.specs.Statuses.{IsCompared, ComesBeforeFitting}
use Rattle.trace_tool.specs.Answers.{trace_key, new_board}

-- The clocks of a trace that were made, by how the comparison ended: all; those before the one that differs; and none
-- if a line is bad.
abbrev pub clocks_made : List ℕ → TraceStatus → List ℕ
clocks_made text (Good n) = pins_in text
clocks_made text (Differs i) = take (i - 1) (pins_in text)
clocks_made text (BadLine n) = []
clocks_made text TooLong = []
clocks_made text (BoardRefused line reason) = []
clocks_made text (Usage n) = []

-- The devices of a board, at their places in the rack, are as these clocks leave them from power-up on.
abbrev pub HoldsLed : List Desc → List ℕ → TraceStatus → List (Option SoundCard) → Type 0
HoldsLed devices text status rack =
    cards_at rack (places_of devices) ≡ Some (board_led_to (new_board devices) (clocks_made text status))

-- the same of a file, where it is held
abbrev pub HeldLed : List Desc → Option (List ℕ) → TraceStatus → List (Option SoundCard) → Type 0
HeldLed devices None status rack = ⊥
HeldLed devices (Some text) status rack = HoldsLed devices text status rack

-- the same of a request, with its board
pub record RequestHoldsLed (contents : Contents) (status : TraceStatus) (rack : List (Option SoundCard))
    : Type 0 where
  pub devices : List Desc
  pub board : HasBoard contents.board devices
  pub final : HeldLed devices contents.file status rack

-- the same of words
pub record WordsHoldLed (words : List (List ℕ)) (contents : Contents) (status : TraceStatus)
    (rack : List (Option SoundCard)) : Type 0 where
  pub named : FileNames
  pub asked : IsRequest trace_key words named
  pub final : RequestHoldsLed contents status rack

-- What a call that answers leaves of the rack. The devices keep their kinds. They stay as they were if the cause of the
-- status comes before the board is fitted, and after a comparison they are as it leaves them.
pub record KeepsRack {D Kind : Type 0} (kind_of : D → Kind) (fitted : D → Option SoundCard)
    (final : TraceStatus → List (Option SoundCard) → Type 0) (before after : List D)
    (result : Result TraceStatus NoAnswer) : Type 0 where
  pub kinds : map kind_of after ≡ map kind_of before
  pub early : IfOk result (λ status. ComesBeforeFitting status → after ≡ before)
  pub leaves : IfOk result (λ status. IsCompared status → final status (map fitted after))

-- The same, and after a read fault they are as they were. Of want of memory and of a write fault the cause does not say
-- when it came.
pub record LeavesRack {D Kind : Type 0} (kind_of : D → Kind) (fitted : D → Option SoundCard)
    (final : TraceStatus → List (Option SoundCard) → Type 0) (before after : List D)
    (result : Result TraceStatus NoAnswer) : Type 0 where
  pub rack : KeepsRack kind_of fitted final before after result
  pub unread : IsErrOf result Read → after ≡ before

-- a write fault after an answer
pub left_at_write_fault : {D Kind : Type 0} {kind_of : D → Kind} {fitted : D → Option SoundCard}
    {final : TraceStatus → List (Option SoundCard) → Type 0} {before after : List D} {status : TraceStatus} →
    LeavesRack kind_of fitted final before after (Ok status) → LeavesRack kind_of fitted final before after (Err Write)
left_at_write_fault left = record {
  rack = record { kinds = left.rack.kinds; early = tt; leaves = tt };
  unread = λ e. absurd cc;
}
