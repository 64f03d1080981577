-- Plays on a told board.
use Rattle.std.proofs.Common.{◌≡◌, ◌++◌, cond, Bool, true, false, ℕ, List, [], Option, Some, None, refl, sym, ap, subst, ◌∙◌, ◌+◌, ◌⊎◌, inl, inr, arith}
use Rattle.dev_card.specs.Card.{Card}
use Rattle.dev_card.specs.Board.{tdos}
use Rattle.dev_card.specs.FarEnds.{FarEnd, Told, far_end}
use Rattle.stapl_meaning.specs.declared.events.Ending.{Ending}
use Rattle.stapl_meaning.specs.Plays.{Run, ending_of}
use Rattle.stapl_meaning.specs.Texts.{events_text}
use Rattle.stapl_machine.specs.declared.running.Machine.{Machine}
use Rattle.tool_io.specs.Causes.{HasRisen}
use Rattle.scan_paths.specs.Cables.{Signal, whole, cable_faults, IsCableLast}
use Rattle.stapl_player.specs.Plays.{HasPlayed}
use Rattle.written_cable.specs.declared.trouble.Trouble.{Trouble}
use Rattle.written_cable.specs.declared.trouble.Trouble.TheVariants.{CableFault, WriteFault}
use Rattle.written_cable.specs.Papers.{Shown, Puts}
use Rattle.written_cable.specs.Ports.{IfFault}
use Rattle.link_cable.specs.declared.link_cable.LinkCable.{LinkCable}
use Rattle.link_cable.specs.declared.wire.Wire.{Ghosts as WireOf}
use Rattle.link_cable.specs.Wires.{WireState, is_in_step, board_in, told_board}
use Rattle.link_cable.specs.LinkCables.{wire_of, board_through, cable_board, cable_breakage, cable_count, IsCountLast, no_faults, IsNever, StaysGoodOver, LeadsOver}
use Rattle.link_cable.proofs.CableLemmas.{unbroken}
use Rattle.link_play.specs.LinkedPlays.{HasRunOf, IsGoodOver}

on_board : (o : Option (List Card)) (cs : List Card) (heard : List Bool) → o ≡ Some cs → far_end o heard ≡ Told cs
on_board o cs heard e = ap (λ o. far_end o heard) e

pub run_of : {C O : Type 0} (board : C → Option (List Card)) (makes : C → List Signal → C → Type 0) (shown : O → Shown) (pins : Bool) (run : FarEnd → Run) (count : FarEnd → ℕ)
    (old new : C) (out new_out : O) (steps now : ℕ) (ending : Ending) (machine : Machine) (cs : List Card)
    → HasPlayed board makes shown pins run count old out steps ending new new_out now machine → board old ≡ Some cs → HasRunOf shown pins (run (Told cs)) out ending new_out
run_of board makes shown pins run count old new out new_out steps now ending machine cs p told =
    let far : far_end (board old) (tdos p.clocks ++ []) ≡ Told cs = on_board (board old) cs (tdos p.clocks ++ []) told in
    record {
      ended = ap (λ far. ending_of (run far).outcome) (sym far) ∙ p.ended [];
      put = subst (λ far. Puts shown out (events_text pins [] (run far).events) new_out) far (p.put []);
    }

-- a trouble has its cause in one of the counts
pub has_cause : (cable lines : Type 0) (trouble : Trouble) → IfFault trouble cable lines → (cable → ⊥) → (lines → ⊥) → ⊥
has_cause cable lines CableFault cause still quiet = still cause
has_cause cable lines WriteFault cause still quiet = quiet cause

in_step_board : (s : WireState) → is_in_step s ≡ true → board_in s ≡ Some s.at.board
in_step_board s e = ap (λ t. cond t (Some s.at.board) None) e

pub good_board : {W : Type 0} (wire : WireOf W) (cs : List Card) (cable : LinkCable W)
    → cable_breakage wire.is_ready cable ≡ whole → IsGoodOver wire cs cable → cable_board wire.told cable ≡ Some cs
good_board wire cs cable w h =
    ap (λ t. board_through t (wire.told (wire_of cable))) (unbroken cable.is_broken (wire.is_ready (wire_of cable)) w)
    ∙ ap told_board h.good.told_is ∙ in_step_board h.good.state h.good.in_step ∙ ap (λ cs. Some cs) h.board_is

-- over a good wire the count of a cable does not rise
pub never_rises : {W : Type 0} (wire : WireOf W) (cs : List Card) (old new : LinkCable W) (signals : List Signal)
    → cable_breakage wire.is_ready old ≡ whole → IsGoodOver wire cs old → LeadsOver wire old signals new
    → HasRisen (cable_faults (cable_count wire.faults) no_faults) (IsCableLast (IsCountLast wire.is_last) IsNever) old new → ⊥
never_rises wire cs old new signals w h leads rose =
    let s : StaysGoodOver wire old new = leads.stays (unbroken old.is_broken (wire.is_ready (wire_of old)) w) h.good in
    elim rose.risen [ inl more ↦ absurd (omega (arith, more, s.calm.same)) | inr last ↦ elim last [ inl l ↦ h.counts (s.calm.last l) | inr never ↦ never ] ]
