-- A peer in memory: what it has taken and what it has left, and its calls. The rules are this profile's.
use Rattle.std.specs.Prelude.{◌≡◌, ◌↔◌, ◌⊎◌, ◌+◌, ◌-◌, ◌^◌, min, ℕ, List, drop, Contains, Option, Some, Result, IsErr, IfOk, OnOk, OnErr}
use Rattle.tool_io.specs.Causes.{IsSaturated, raised_count}
use Rattle.tool_io.specs.Sinks.{MemState, Writes}
use Rattle.drive_cable.specs.declared.mem_peer.MemPeer.{MemPeer}
use Rattle.drive_cable.specs.Digits.{digits_first}

-- all bytes that were sent, and the answers that it has left
abbrev pub mem_sent : MemPeer → Option (List ℕ)
mem_sent peer = Some peer.bytes.written

abbrev pub answers_left : MemPeer → List ℕ
answers_left peer = drop peer.given peer.answers.items

abbrev pub mem_left : MemPeer → Option (List ℕ)
mem_left peer = Some (answers_left peer)

-- how often a call has failed, and when that count stands at its last value
abbrev pub mem_faults : MemPeer → ℕ
mem_faults peer = peer.faults

abbrev pub IsMemLast : MemPeer → Type 0
IsMemLast peer = IsSaturated peer.faults

-- a new peer over this sink, with these answers and this list, and no call and no fault
pub record IsNewPeer (peer : MemPeer) (bytes : MemState) (answers : List ℕ) (bite : ℕ) (failing : List ℕ) : Type 0 where
  pub sent : peer.bytes ≡ bytes
  pub left : drop peer.given peer.answers.items ≡ answers
  pub most : peer.bite ≡ bite
  pub list : peer.failing.items ≡ failing
  pub number : peer.number ≡ 0
  pub faults : peer.faults ≡ 0

-- A call has the next number, raises the count exactly if it fails, and keeps the list and the most that a receive
-- gives.
pub record IsCounted {T E : Type 0} (old : MemPeer) (result : Result T E) (new : MemPeer) : Type 0 where
  pub number : new.number ≡ min (old.number + 1) (2 ^ 32 - 1)
  pub list : new.failing.items ≡ old.failing.items
  pub most : new.bite ≡ old.bite
  pub fault : OnErr result (new.faults ≡ raised_count old.faults)
  pub unfaulted : OnOk result (new.faults ≡ old.faults)

-- A call that carries nothing: it fails exactly if its number is listed.
pub record CallsExactly {T E : Type 0} (old : MemPeer) (result : Result T E) (new : MemPeer) : Type 0 where
  pub counted : IsCounted old result new
  pub fails : IsErr result ↔ Contains old.failing.items new.number

-- A send whose number is listed fails, and each other one is a write to the sink.
pub record SendsExactly {E : Type 0} (old : MemPeer) (bytes : List ℕ) (result : Result ℕ E) (new : MemPeer) : Type 0 where
  pub counted : IsCounted old result new
  pub sends : (Contains old.failing.items new.number × IsErr result) ⊎ Writes old.bytes bytes result new.bytes

-- A receive gives the digits that stand first, as many as fit, and fails exactly if its number is listed or there is
-- none.
pub record GivesExactly {E : Type 0} (old : MemPeer) (room : ℕ) (result : Result ℕ E) (new : MemPeer) : Type 0 where
  pub counted : IsCounted old result new
  pub fails : IsErr result ↔ (Contains old.failing.items new.number ⊎ (digits_first (answers_left old) ≡ 0))
  pub gives : IfOk result (λ n. n ≡ min (digits_first (answers_left old)) (min room old.bite))
