-- A pair of files as a peer. The rules are this profile's.
use Rattle.std.specs.Prelude.{ℕ}
use Rattle.tool_io.specs.Causes.{IsSaturated}
use Rattle.drive_cable.specs.declared.file_peer.FilePeer.{FilePeer}

-- how often a call has failed
abbrev pub peer_faults : {R F D : Type 0} → FilePeer R F D → ℕ
peer_faults peer = peer.faults

-- that count stands at its last value
abbrev pub IsPeerSaturated : {R F D : Type 0} → FilePeer R F D → Type 0
IsPeerSaturated peer = IsSaturated (peer_faults peer)
