-- What a play answers and puts on a board, whatever cable leads to it. The rules are this profile's.
use Rattle.std.specs.Prelude.{◌≡◌, ◌≤◌, ◌+◌, ◌*◌, ℕ, Bool, List, [], length, Option, Some, Result, IsOk, IfOk}
use Rattle.tool_io.specs.declared.lines.Lines.{Lines}
use Rattle.tool_io.specs.declared.outside.Sink.{Ghosts as SinkOf}
use Rattle.tool_io.specs.Lines.{SinkHasRisen}
use Rattle.dev_card.specs.Card.{Card}
use Rattle.dev_card.specs.FarEnds.{Told}
use Rattle.dev_card.specs.Padding.{BaseLengths}
use Rattle.scan_paths.specs.declared.cable.Cable.{Ghosts as CableOf}
use Rattle.stapl_meaning.specs.declared.events.Ending.{Ending}
use Rattle.stapl_meaning.specs.Plays.{Run, ending_of}
use Rattle.stapl_meaning.specs.Texts.{events_text}
use Rattle.stapl_code.specs.declared.raw.CodeLists.{CodeLists}
use Rattle.stapl_machine.specs.declared.running.Machine.{Machine}
use Rattle.stapl_player.specs.Plays.{whole_play, PlaysOver, CableHasRisen}
use Rattle.written_cable.specs.declared.trouble.Trouble.{Trouble}
use Rattle.written_cable.specs.OnPaper.{lines_paper}
use Rattle.written_cable.specs.Papers.{Shown, Puts, shown_of}
use Rattle.written_cable.specs.Ports.{KeepsParts}
use Rattle.link_cable.specs.declared.link_cable.LinkCable.{LinkCable}
use Rattle.link_cable.specs.declared.wire.Wire.{Ghosts as WireOf}
use Rattle.link_cable.specs.Wires.{WireState}
use Rattle.link_cable.specs.LinkCables.{IsGoodCable, IsCountLast}

-- this is the ending of a run, and the whole text of its events was put
pub record HasRunOf {O : Type 0} (shown : O → Shown) (pins : Bool) (run : Run) (out : O) (ending : Ending) (new_out : O) : Type 0 where
  pub ended : ending_of run.outcome ≡ Some ending
  pub put : Puts shown out (events_text pins [] run.events) new_out

-- If neither count rises, a play is Ok; and if the cable tells its board, ending and text are those of the run on that.
pub record GoesAsTold {C K : Type 0} (cable : CableOf C) (sink : SinkOf K) (pins : Bool) (code : CodeLists) (chosen : List ℕ) (n : ℕ) (base : BaseLengths)
    (old : C) (out : Lines K) (result : Result Ending Trouble) (new : C) (new_out : Lines K) : Type 0 where
  pub sure : (CableHasRisen cable old new → ⊥) → (SinkHasRisen sink out new_out → ⊥) → IsOk result
  pub told : (cs : List Card) → cable.board old ≡ Some cs →
      IfOk result (λ ending. HasRunOf (shown_of sink.written) pins (whole_play code chosen n base (Told cs)) out ending new_out)

-- All that `play` says of its result: what the play did, the most instructions that it takes, and what it keeps.
pub record IsWholePlay {C K : Type 0} (cable : CableOf C) (sink : SinkOf K) (pins : Bool) (code : CodeLists) (chosen : List ℕ) (n : ℕ) (base : BaseLengths)
    (old : C) (out : Lines K) (steps : ℕ) (result : Result Ending Trouble) (new : C) (new_out : Lines K) (now : ℕ) (machine : Machine) : Type 0 where
  pub played : PlaysOver cable sink pins code chosen n base old out steps result new new_out now machine
  pub bounded : now ≤ steps + (n + 1) * length code.instrs
  pub kept : KeepsParts cable (lines_paper sink) old out new new_out result

-- a cable over a good wire to a link with this board, whose count does not stand at its last value
pub record IsGoodOver {W : Type 0} (wire : WireOf W) (board : List Card) (cable : LinkCable W) : Type 0 where
  pub good : IsGoodCable wire.told wire.is_steady cable
  pub board_is : good.state.at.board ≡ board
  pub counts : IsCountLast wire.is_last cable → ⊥
