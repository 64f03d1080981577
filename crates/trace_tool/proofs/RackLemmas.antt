-- What a call leaves of the rack.
use Rattle.std.proofs.Common.{◌≡◌, ◌∙◌, ℕ, List, map, Option, Some, Result, Ok, Err, refl, sym, subst}
use Rattle.std.specs.Prelude.{IsErrAnd, IsSomeAnd}
use Rattle.tool_io.specs.declared.lines.Lines.{Lines}
use Rattle.tool_io.specs.declared.outside.Sink.{Ghosts as SinkOf}
use Rattle.dev_card.specs.declared.desc.Desc.{Desc}
use Rattle.dev_card.specs.Card.{Card}
use Rattle.dev_card.specs.PaddedScan.{descriptions_of}
use Rattle.dev_card.specs.Sound.{SoundCard}
use Rattle.dev_card.proofs.OneScan.{descriptions_after}
use Rattle.chain_sim.proofs.Fitting.{fresh_described}
use Rattle.pin_lines.specs.PinLines.{inputs_of_pins}
use Rattle.pin_lines.specs.Traces.{board_led_to}
use Rattle.tool_frame.specs.declared.no_answer.NoAnswer.{NoAnswer}
use Rattle.tool_frame.specs.declared.no_answer.NoAnswer.TheVariants.{Read, Write, Memory}
use Rattle.tool_frame.specs.Answers.{Says}
use Rattle.trace_tool.specs.declared.status.TraceStatus.{TraceStatus}
use Rattle.trace_tool.specs.Statuses.{IsCompared}
use Rattle.trace_tool.specs.Answers.{new_board}
use Rattle.trace_tool.specs.FinalRacks.{KeepsRack, LeavesRack}

-- no board was fitted, and there is no answer
pub rack_unread : {D Kind : Type 0} {kind_of : D → Kind} {fitted : D → Option SoundCard} {final : TraceStatus → List (Option SoundCard) → Type 0} {items : List D}
    (e : NoAnswer) → LeavesRack kind_of fitted final items items (Err e)
rack_unread e = record { rack = record { kinds = refl; early = tt; leaves = tt }; unread = λ p. refl }

-- at the exit of a `?`
pub rack_failed : {D Kind : Type 0} {kind_of : D → Kind} {fitted : D → Option SoundCard} {final : TraceStatus → List (Option SoundCard) → Type 0} {items : List D}
    (r : Result TraceStatus NoAnswer) → IsErrAnd r (λ e. e ≡ Write) → LeavesRack kind_of fitted final items items r
rack_failed (Ok status) is = absurd is
rack_failed (Err e) is = rack_unread e

-- no board was fitted, and this is the answer
pub rack_same : {D Kind : Type 0} {kind_of : D → Kind} {fitted : D → Option SoundCard} {final : TraceStatus → List (Option SoundCard) → Type 0} {items : List D}
    (status : TraceStatus) → (IsCompared status → ⊥) → LeavesRack kind_of fitted final items items (Ok status)
rack_same status never = record { rack = record { kinds = refl; early = λ p. refl; leaves = λ p. absurd (never p) }; unread = λ p. refl }

-- no file was read
pub rack_compared : {K D Kind : Type 0} {kind_of : D → Kind} {fitted : D → Option SoundCard} {final : TraceStatus → List (Option SoundCard) → Type 0} {before after : List D}
    (sink : SinkOf K) (A : List ℕ → TraceStatus → Type 0) (old new : Lines K) (r : Result TraceStatus NoAnswer) → Says sink A ⊥ old new r →
    KeepsRack kind_of fitted final before after r → LeavesRack kind_of fitted final before after r
rack_compared sink A old new (Ok status) says k = record { rack = k; unread = λ e. absurd cc }
rack_compared sink A old new (Err Read) says k = absurd says
rack_compared sink A old new (Err Write) says k = record { rack = k; unread = λ e. absurd cc }
rack_compared sink A old new (Err Memory) says k = record { rack = k; unread = λ e. absurd cc }

-- the same, by another name
pub rack_as : {D Kind : Type 0} {kind_of : D → Kind} {fitted : D → Option SoundCard} {A B : TraceStatus → List (Option SoundCard) → Type 0} {before after : List D}
    (r : Result TraceStatus NoAnswer) → ((status : TraceStatus) (rack : List (Option SoundCard)) → A status rack → B status rack) →
    LeavesRack kind_of fitted A before after r → LeavesRack kind_of fitted B before after r
rack_as {fitted = fitted} {after = after} (Ok status) f k = record {
  rack = record { kinds = k.rack.kinds; early = k.rack.early; leaves = λ p. f status (map fitted after) (k.rack.leaves p) };
  unread = k.unread;
}
rack_as (Err e) f k = record { rack = record { kinds = k.rack.kinds; early = tt; leaves = tt }; unread = k.unread }

-- what stands at the places is a board of these devices, and its report is that of the board that the clocks leave
pub led_described : (o : Option (List Card)) (devices : List Desc) (digits : List ℕ) → o ≡ Some (board_led_to (new_board devices) digits) →
    IsSomeAnd o (λ cs. descriptions_of cs ≡ devices)
led_described o devices digits e =
    subst (λ (o : Option (List Card)). IsSomeAnd o (λ cs. descriptions_of cs ≡ devices)) (sym e)
    (descriptions_after (inputs_of_pins digits) (new_board devices) ∙ fresh_described devices)
