-- What a cable over a wire stands over, and which board it tells. The rules are this profile's.
use Rattle.std.proofs.Common.{◌≡◌, ◌⊎◌, ◌+◌, ◌&&◌, not, ℕ, Result, Bool, true, false, cond, List, Option, Some, None, refl, subst}
use Rattle.std.specs.Prelude.{IsOk, OnOk}
use Rattle.std.specs.Borrow.{MutBor}
use Rattle.std.proofs.lemmas.Option.{none-some, same_Some}
use Rattle.dev_card.specs.Card.{Card}
use Rattle.dev_card.specs.Sound.{AllSound}
use Rattle.tool_io.specs.Causes.{IsSaturated}
use Rattle.scan_paths.specs.Cables.{Breakage, Signal, whole_if, IsCableKept}
use Rattle.link_server.specs.Counts.{CountStill}
use Rattle.link_server.specs.Drives.{Carrying, ClientEnd, Drives}
use Rattle.link_cable.specs.declared.link_cable.LinkCable.{LinkCable}
use Rattle.link_cable.specs.declared.wire.Wire.{Ghosts as WireOf}
use Rattle.link_cable.specs.Wires.{WireState, is_in_step, told_board, IsGoodWire}

-- it stands over the wire that this reference points to
abbrev pub IsOver : {W R : Type 0} → LinkCable W → MutBor R → Type 0
IsOver cable wire = cable.wire.ghost_name ≡ wire.ghost_name

-- it stands over the same wire
abbrev pub IsOverSame : {W : Type 0} → LinkCable W → LinkCable W → Type 0
IsOverSame old new = new.wire.ghost_name ≡ old.wire.ghost_name

-- that wire, as it is now
abbrev pub wire_of : {W : Type 0} → LinkCable W → W
wire_of cable = cable.wire.now

-- the board that is told: after a call has failed, none
abbrev pub board_through : Bool → Option WireState → Option (List Card)
board_through true told = None
board_through false told = told_board told

-- it is sound
in_sound : (t : Bool) (s : WireState) (cs : List Card) → AllSound s.at.board → cond t (Some s.at.board) None ≡ Some cs → AllSound cs
in_sound true s cs h e = subst (λ cs. AllSound cs) (same_Some s.at.board cs e) h
in_sound false s cs h e = absurd (none-some cs e)

pub through_sound : (broken : Bool) (told : Option WireState) → ((s : WireState) → told ≡ Some s → AllSound s.at.board) → (cs : List Card) →
    board_through broken told ≡ Some cs → AllSound cs
through_sound true told f cs e = absurd (none-some cs e)
through_sound false None f cs e = absurd (none-some cs e)
through_sound false (Some s) f cs e = in_sound (is_in_step s) s cs (f s refl) e

-- a cable: the board that it tells, its count and when that stands at its last value, and what is broken of it
abbrev pub cable_board : {W : Type 0} → (W → Option WireState) → LinkCable W → Option (List Card)
cable_board told c = board_through c.is_broken (told (wire_of c))

abbrev pub cable_count : {W : Type 0} → (W → ℕ) → LinkCable W → ℕ
cable_count faults c = faults (wire_of c) + c.faults

abbrev pub IsCountLast : {W : Type 0} → (W → Type 0) → LinkCable W → Type 0
IsCountLast is_last c = is_last (wire_of c) ⊎ IsSaturated c.faults

abbrev pub cable_breakage : {W : Type 0} → (W → Bool) → LinkCable W → Breakage
cable_breakage is_ready c = whole_if (not c.is_broken && is_ready (wire_of c))

-- it stands over a wire that tells and is steady, the session is open, and no answer waits
abbrev pub IsGoodCable : {W : Type 0} → (W → Option WireState) → (W → Bool) → LinkCable W → Type 0
IsGoodCable told is_steady c = IsGoodWire (told (wire_of c)) (is_steady (wire_of c))

-- the count stands as it stood
abbrev pub IsCalm : {W : Type 0} → (W → ℕ) → (W → Type 0) → LinkCable W → LinkCable W → Type 0
IsCalm faults is_last old new =
    CountStill (cable_count faults old) (cable_count faults new) (IsCountLast is_last old) (IsCountLast is_last new)

-- What a call says beside the rules of cables, by its result: the count rises exactly with a failure, and over a good wire
-- the call is Ok, and the wire is good again.
pub record GoesWell {W T E : Type 0} (wire : WireOf W) (old new : LinkCable W) (result : Result T E) : Type 0 where
  pub calm : OnOk result (IsCalm wire.faults wire.is_last old new)
  pub well : IsGoodCable wire.told wire.is_steady old → IsOk result × IsGoodCable wire.told wire.is_steady new

-- no signal of the lines is written, so their count is always 0
abbrev pub no_faults : {W : Type 0} → LinkCable W → ℕ
no_faults c = 0

abbrev pub IsNever : {W : Type 0} → LinkCable W → Type 0
IsNever c = ⊥

-- what a call keeps, as of any cable
abbrev pub KeepsLinkCable : {W T E : Type 0} → WireOf W → LinkCable W → LinkCable W → Result T E → Type 0
KeepsLinkCable wire old new result =
    IsCableKept (cable_count wire.faults) (IsCountLast wire.is_last) no_faults IsNever (cable_breakage wire.is_ready)
    old new result

-- the cable's end of its wire
abbrev pub end_of : {W : Type 0} → LinkCable W → ClientEnd W
end_of c = record { is_broken = c.is_broken; wire = wire_of c }

-- Signals lead from a cable to one over the same wire: their bytes went over it, and their answers came. Over a good wire
-- no call fails, and the count stands as it stood.
module _ {W : Type 0} (told : W → Option WireState) (carried : Carrying W) (is_steady : W → Bool) (faults : W → ℕ)
    (is_last : W → Type 0) where
  pub record StaysGood (old new : LinkCable W) : Type 0 where
    pub good : IsGoodCable told is_steady new
    pub unbroken : new.is_broken ≡ false
    pub calm : IsCalm faults is_last old new

  pub record Leads (old : LinkCable W) (signals : List Signal) (new : LinkCable W) : Type 0 where
    pub same_wire : IsOverSame old new
    pub drives : Drives carried false (end_of old) signals (end_of new)
    pub stays : old.is_broken ≡ false → IsGoodCable told is_steady old → StaysGood old new

-- the same of all ghost members of the wire
abbrev pub LeadsOver : {W : Type 0} → WireOf W → LinkCable W → List Signal → LinkCable W → Type 0
LeadsOver wire = Leads wire.told wire.carried wire.is_steady wire.faults wire.is_last

abbrev pub StaysGoodOver : {W : Type 0} → WireOf W → LinkCable W → LinkCable W → Type 0
StaysGoodOver wire = StaysGood wire.told wire.carried wire.is_steady wire.faults wire.is_last
