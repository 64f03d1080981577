-- What a cable over a peer has driven. The rules are this profile's.
use Rattle.std.proofs.Common.{◌≡◌, ◌∙◌, ℕ, not, Bool, List, [], ◌++◌, Option, None, Some, refl, subst}
use Rattle.std.specs.Borrow.{MutBor}
use Rattle.std.proofs.lemmas.Option.{none-some}
use Rattle.dev_card.specs.Card.{Card}
use Rattle.dev_card.specs.Sound.{AllSound}
use Rattle.scan_paths.specs.Cables.{Breakage, Signal, whole_if}
use Rattle.link_server.specs.Drives.{ClientEnd, Drives}
use Rattle.link_server.specs.DriveLaws.{nothing_driven, driven_both}
use Rattle.drive_cable.specs.declared.drive_cable.DriveCable.{DriveCable}
use Rattle.drive_cable.specs.Peers.{PeerCarried}
use Rattle.drive_cable.specs.PeerLaws.{none_carried, both_carried}

-- it stands over the peer that this reference points to
abbrev pub IsOver : {P R : Type 0} → DriveCable P → MutBor R → Type 0
IsOver cable peer = cable.peer.ghost_name ≡ peer.ghost_name

-- it stands over the same peer
abbrev pub IsOverSame : {P : Type 0} → DriveCable P → DriveCable P → Type 0
IsOverSame old new = new.peer.ghost_name ≡ old.peer.ghost_name

-- that peer, as it is now
abbrev pub peer_of : {P : Type 0} → DriveCable P → P
peer_of cable = cable.peer.now

-- whether waits are sent
abbrev pub sends_waits : {P : Type 0} → DriveCable P → Bool
sends_waits cable = cable.sleeps

-- whether a call has failed, and the peer
abbrev pub end_of : {P : Type 0} → DriveCable P → ClientEnd P
end_of cable = record { is_broken = cable.is_broken; wire = peer_of cable }

-- signals lead from a cable to one over the same peer
pub record Leads {P : Type 0} (sent left : P → Option (List ℕ)) (old : DriveCable P) (signals : List Signal)
    (new : DriveCable P) : Type 0 where
  pub same_peer : IsOverSame old new
  pub same_sleeps : new.sleeps ≡ old.sleeps
  pub drives : Drives (PeerCarried sent left) old.sleeps (end_of old) signals (end_of new)

pub nothing_leads : {P : Type 0} (sent left : P → Option (List ℕ)) (c : DriveCable P) → Leads sent left c [] c
nothing_leads sent left c = record {
  same_peer = refl;
  same_sleeps = refl;
  drives = nothing_driven (PeerCarried sent left) c.sleeps (none_carried sent left) (end_of c);
}

pub leads_both : {P : Type 0} (sent left : P → Option (List ℕ)) (a b c : DriveCable P) (front back : List Signal) →
    Leads sent left a front b → Leads sent left b back c → Leads sent left a (front ++ back) c
leads_both sent left a b c front back p q = record {
  same_peer = q.same_peer ∙ p.same_peer;
  same_sleeps = q.same_sleeps ∙ p.same_sleeps;
  drives = driven_both (PeerCarried sent left) a.sleeps (both_carried sent left) (end_of a) (end_of b) (end_of c) front
      back p.drives
      (subst (λ s. Drives (PeerCarried sent left) s (end_of b) back (end_of c)) p.same_sleeps q.drives);
}

-- it tells no board
abbrev pub no_board : {P : Type 0} → DriveCable P → Option (List Card)
no_board c = None

pub never_told : {P : Type 0} (c : DriveCable P) (cs : List Card) → no_board c ≡ Some cs → AllSound cs
never_told c cs e = absurd (none-some cs e)

-- its count and when that stands at its last value, and what is broken of it
abbrev pub drive_count : {P : Type 0} → (P → ℕ) → DriveCable P → ℕ
drive_count faults c = faults (peer_of c)

abbrev pub IsCountLast : {P : Type 0} → (P → Type 0) → DriveCable P → Type 0
IsCountLast is_last c = is_last (peer_of c)

abbrev pub drive_breakage : {P : Type 0} → DriveCable P → Breakage
drive_breakage c = whole_if (not c.is_broken)

-- no signal of the lines is written, so their count is always 0
abbrev pub no_faults : {P : Type 0} → DriveCable P → ℕ
no_faults c = 0

abbrev pub IsNever : {P : Type 0} → DriveCable P → Type 0
IsNever c = ⊥
