-- What a wire in memory tells. The rules are this profile's.
use Rattle.std.proofs.Common.{◌≡◌, ◌<◌, ◌+◌, ℕ, List, [], ◌∷◌, length, Bool, true, Option, None, Some, subst, ap}
use Rattle.std.specs.Prelude.{◌-◌, ◌^◌, ◌⊎◌, ◌↔◌, min, map, Contains, Result, IsErr, IfOk, OnOk, OnErr}
use Rattle.std.specs.Borrow.{MutBor}
use Rattle.tool_io.specs.Causes.{IsSaturated, raised_count}
use Rattle.std.proofs.lemmas.Bool.{false≢true, and_parts}
use Rattle.std.proofs.Math.Nat.{zero-lt-suc}
use Rattle.std.proofs.lemmas.Option.{none-some, same_Some}
use Rattle.dev_card.specs.Card.{Card}
use Rattle.dev_card.specs.Sound.{AllSound, SoundCard}
use Rattle.chain_sim.specs.Places.{cards_at, card_at, joined, is_chain, is_some_place}
use Rattle.chain_sim.specs.RunLaws.{told_sound}
use Rattle.link_server.specs.declared.link.Link.{Link}
use Rattle.link_server.specs.Runs.{new_link}
use Rattle.link_cable.specs.declared.mem_wire.MemWireOf.{MemWireOf}
use Rattle.link_cable.specs.Wires.{WireState, CarriesTold, is_none, most_waiting}

-- the link with the cards at some places of a rack as its board, if all are there, and these answers
abbrev pub told_with : Option (List Card) → Link → List ℕ → Option WireState
told_with None link waiting = None
told_with (Some cs) link waiting = Some (record { at = record { link = link; board = cs }; waiting = waiting })

abbrev pub told_over : List (Option SoundCard) → List ℕ → Link → List ℕ → Option WireState
told_over rack places link waiting = told_with (cards_at rack places) link waiting

-- the board of what is told
board_of : (o : Option (List Card)) (link : Link) (waiting : List ℕ) (s : WireState) → told_with o link waiting ≡ Some s → o ≡ Some s.at.board
board_of None link waiting s e = absurd (none-some s e)
board_of (Some cs) link waiting s e = ap (λ (s : WireState). Some s.at.board) (same_Some _ s e)

pub over_sound : (rack : List (Option SoundCard)) (places : List ℕ) (link : Link) (waiting : List ℕ) (s : WireState) →
    told_over rack places link waiting ≡ Some s → AllSound s.at.board
over_sound rack places link waiting s e = told_sound rack places s.at.board (board_of (cards_at rack places) link waiting s e)

some_joined : (c : Option Card) (o : Option (List Card)) (cs : List Card) → joined c o ≡ Some cs → 0 < length cs
some_joined None o cs e = absurd (none-some cs e)
some_joined (Some c) None cs e = absurd (none-some cs e)
some_joined (Some c) (Some ds) cs e = subst (λ (cs : List Card). 0 < length cs) (same_Some (c ∷ ds) cs e) (zero-lt-suc (length ds))

some_cards : (rack : List (Option SoundCard)) (places : List ℕ) (cs : List Card) → is_some_place places ≡ true → cards_at rack places ≡ Some cs →
    0 < length cs
some_cards rack [] cs some e = absurd (false≢true some)
some_cards rack (p ∷ ps) cs some e = some_joined (card_at rack p) (cards_at rack ps) cs e

pub over_some : (rack : List (Option SoundCard)) (places : List ℕ) (link : Link) (waiting : List ℕ) (s : WireState) →
    is_chain rack places ≡ true → told_over rack places link waiting ≡ Some s → 0 < length s.at.board
over_some rack places link waiting s ready e =
    some_cards rack places s.at.board (and_parts (is_some_place places) _ ready).0
    (board_of (cards_at rack places) link waiting s e)

-- it stands over the rack that this reference points to
abbrev pub IsOverRack : {D R : Type 0} → MemWireOf D → MutBor R → Type 0
IsOverRack wire rack = wire.rack.ghost_name ≡ rack.ghost_name

-- a wire in memory: what it tells and carries, whether it is steady and ready, its count and when that stands at its last value
abbrev pub mem_told : {D : Type 0} → (D → Option SoundCard) → MemWireOf D → Option WireState
mem_told fitted w = told_over (map fitted w.rack.now.items) w.places.now w.link w.waiting

abbrev pub MemCarries : {D : Type 0} → (D → Option SoundCard) → MemWireOf D → List ℕ → List ℕ → MemWireOf D → Type 0
MemCarries fitted old bytes answers new = CarriesTold (mem_told fitted old) bytes answers (mem_told fitted new)

abbrev pub mem_steady : {D : Type 0} → MemWireOf D → Bool
mem_steady w = is_none w.failing.items

abbrev pub mem_ready : {D : Type 0} → (D → Option SoundCard) → MemWireOf D → Bool
mem_ready fitted w = is_chain (map fitted w.rack.now.items) w.places.now

abbrev pub mem_faults : {D : Type 0} → MemWireOf D → ℕ
mem_faults w = w.faults

abbrev pub IsMemLast : {D : Type 0} → MemWireOf D → Type 0
IsMemLast w = IsSaturated w.faults

-- a new wire: its list, no call and no fault, a new link over these devices, and no waiting answer
pub record IsNewWire {D : Type 0} (w : MemWireOf D) (devices : List D) (places failing : List ℕ) : Type 0 where
  pub devices_are : w.rack.now.items ≡ devices
  pub places_are : w.places.now ≡ places
  pub link : w.link ≡ new_link
  pub none : w.waiting ≡ []
  pub list : w.failing.items ≡ failing
  pub number : w.number ≡ 0
  pub faults : w.faults ≡ 0

-- a refused call raises the count and does nothing else
pub record IsRefusedCall {D : Type 0} (old new : MemWireOf D) : Type 0 where
  pub devices : new.rack.now.items ≡ old.rack.now.items
  pub link : new.link ≡ old.link
  pub waiting : new.waiting ≡ old.waiting
  pub faults : new.faults ≡ raised_count old.faults

-- One send: it fails exactly if its number is listed, or waiting answers and bytes are together more than 64, and else
-- takes all bytes.
pub record SendsExactly {D E : Type 0} (old : MemWireOf D) (bytes : List ℕ) (result : Result ℕ E) (new : MemWireOf D) : Type 0 where
  pub number : new.number ≡ min (old.number + 1) (2 ^ 32 - 1)
  pub list : new.failing.items ≡ old.failing.items
  pub fails : IsErr result ↔ (Contains old.failing.items new.number ⊎ (most_waiting < length old.waiting + length bytes))
  pub fault : OnErr result (IsRefusedCall old new)
  pub takes : IfOk result (λ n. n ≡ length bytes)
  pub unfaulted : OnOk result (new.faults ≡ old.faults)

-- One receive: it fails exactly if its number is listed, and else gives the answers that fit.
pub record GivesExactly {D E : Type 0} (old : MemWireOf D) (room : ℕ) (result : Result ℕ E) (new : MemWireOf D) : Type 0 where
  pub number : new.number ≡ min (old.number + 1) (2 ^ 32 - 1)
  pub list : new.failing.items ≡ old.failing.items
  pub fails : IsErr result ↔ Contains old.failing.items new.number
  pub fault : OnErr result (IsRefusedCall old new)
  pub gives : IfOk result (λ n. n ≡ min (length old.waiting) room)
  pub unfaulted : OnOk result (new.faults ≡ old.faults)
