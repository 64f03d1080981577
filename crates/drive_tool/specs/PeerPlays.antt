-- What a play of what is ready does over a peer, before its ending is told and the session ends. The rules are this
-- tool's own.
use Rattle.std.specs.Prelude.{◌≡◌, ◌≤◌, ℕ, Bool, List, [], ◌++◌, codes, length, Option, None, Some, Result, Ok, Err}
use Rattle.tool_io.specs.declared.lines.Lines.{Lines}
use Rattle.tool_io.specs.declared.outside.Sink.{Ghosts as SinkOf}
use Rattle.tool_io.specs.Bytes.{then_bytes}
use Rattle.tool_io.specs.Causes.{HasRisen}
use Rattle.tool_io.specs.Lines.{gathered, taken, IsOverSame, Puts, SinkNeverFalls, SinkHasRisen}
use Rattle.dev_card.specs.FarEnds.{FarEnd}
use Rattle.scan_paths.specs.declared.cable.Cable.{Ghosts as CableOf}
use Rattle.scan_paths.specs.Cables.{Signal}
use Rattle.scan_paths.specs.Scans.{lengths_of}
use Rattle.stapl_machine.specs.declared.running.Machine.{Machine}
use Rattle.stapl_player.specs.Plays.{PlaysOver}
use Rattle.stapl_meaning.specs.declared.events.Event.{Event}
use Rattle.stapl_meaning.specs.declared.events.Ending.{Ending}
use Rattle.stapl_meaning.specs.Plays.{Run, ending_of}
use Rattle.stapl_meaning.specs.Texts.{events_text}
use Rattle.written_cable.specs.declared.trouble.Trouble.{Trouble}
use Rattle.written_cable.specs.Papers.{PutsFront, shown_of}
use Rattle.written_cable.specs.Ports.{IfFault, KeepsParts}
use Rattle.written_cable.specs.OnPaper.{lines_paper}
use Rattle.written_cable.specs.Signals.{signals_of}
use Rattle.link_server.specs.Clients.{bytes_of_signals, answers_of}
use Rattle.drive_cable.specs.declared.peer.Peer.{Ghosts as PeerOf}
use Rattle.drive_cable.specs.Peers.{PeerCarried}
use Rattle.drive_tool.specs.declared.preparing.Ready.{Ready}
use Rattle.drive_tool.specs.Driven.{Session, heard_at, IsDriven, IsDrivenInPart, IsUnwritten}

-- A front of what was gathered and of the bytes went to the sink.
pub record IsPutInPart {K : Type 0} (sink : SinkOf K) (old : Lines K) (bytes : List ℕ) (new : Lines K) : Type 0 where
  pub front : List ℕ
  pub rest : List ℕ
  pub parts : gathered old ++ bytes ≡ front ++ rest
  pub went : taken sink new ≡ then_bytes (taken sink old) front

-- A session of which this stands was had at the peer, and its text has reached the sink.
pub record HasReached {P K : Type 0} (peer : PeerOf P) (sink : SinkOf K) (old : P) (out : Lines K)
    (stands : Session → Type 0) (new : P) (new_out : Lines K) : Type 0 where
  pub session : Session
  pub is : stands session
  pub carried : PeerCarried peer.sent peer.left old session.sent session.received new
  pub wrote : taken sink new_out ≡ then_bytes (taken sink out) session.text
  pub same_sink : IsOverSame out new_out
  pub kept : SinkNeverFalls sink out new_out

-- What a play of what is ready does over a cable, by its result, and what it keeps.
pub record PlaysAtCable {C K : Type 0} (cable : CableOf C) (sink : SinkOf K) (ready : Ready) (old : C) (out : Lines K)
    (result : Result Ending Trouble) (new : C) (new_out : Lines K) : Type 0 where
  pub steps : ℕ
  pub now : ℕ
  pub machine : Machine
  pub played : PlaysOver cable sink ready.pins ready.code ready.chosen.items ready.turns (lengths_of ready.base) old out
      steps result new new_out now machine
  pub kept : KeepsParts cable (lines_paper sink) old out new new_out result

-- the same session with a Q sent after it
abbrev pub with_quit : Session → Session
with_quit session = record { sent = session.sent ++ codes "Q"; received = session.received; text = session.text }

-- a play was driven to its ending, and the Q is still to be sent
abbrev pub IsDrivenToQuit : Bool → Bool → (FarEnd → Run) → Ending → Session → Type 0
IsDrivenToQuit sleeps pins plays ending session = IsDriven sleeps pins plays (with_quit session) ending

module _ {P K : Type 0} (peer : PeerOf P) (sink : SinkOf K) (sleeps pins : Bool) (plays : FarEnd → Run) (old : P)
    (out : Lines K) where
  -- The bytes of exactly the play's signals were sent, the digits of its clocks were received, and its text was put.
  pub record IsPlayed (ending : Ending) (new : P) (new_out : Lines K) : Type 0 where
    pub events : List Event
    pub runs : (more : List Bool) → (plays (heard_at events more)).events ≡ events
    pub ended : (more : List Bool) → ending_of (plays (heard_at events more)).outcome ≡ Some ending
    pub carried : PeerCarried peer.sent peer.left old (bytes_of_signals sleeps (signals_of events))
        (answers_of (signals_of events)) new
    pub put : Puts sink out (events_text pins [] events) new_out

  -- The same of its first events, with a front of the bytes of at most 64 more signals, and a front of the text.
  pub record IsPlayedInPart (trouble : Trouble) (new : P) (new_out : Lines K) : Type 0 where
    pub events : List Event
    pub rest : List Bool → List Event
    pub runs : (more : List Bool) → (plays (heard_at events more)).events ≡ events ++ rest more
    pub pending : List Signal
    pub few : length pending ≤ 64
    pub more_bytes : List ℕ
    pub unsent : List ℕ
    pub parts : bytes_of_signals sleeps pending ≡ more_bytes ++ unsent
    pub uncounted : List ℕ
    pub carried : PeerCarried peer.sent peer.left old (bytes_of_signals sleeps (signals_of events) ++ more_bytes)
        (answers_of (signals_of events) ++ uncounted) new
    pub front : PutsFront (shown_of sink.written) out (events_text pins [] events) new_out
    pub same_sink : IsOverSame out new_out
    pub kept : SinkNeverFalls sink out new_out
    pub cause : IfFault trouble (HasRisen peer.faults peer.is_last old new) (SinkHasRisen sink out new_out)

  -- What a play does, by its result.
  abbrev pub PlaysAtPeer : Result Ending Trouble → P → Lines K → Type 0
  PlaysAtPeer (Ok ending) new new_out = IsPlayed ending new new_out
  PlaysAtPeer (Err trouble) new new_out = IsPlayedInPart trouble new new_out

  -- What a play does whose text is written, by its result: there is no ending if the wire failed.
  abbrev pub WritesAtPeer : {E : Type 0} → Result (Option Ending) E → P → Lines K → Type 0
  WritesAtPeer (Ok (Some ending)) new new_out = HasReached peer sink old out (IsDrivenToQuit sleeps pins plays ending) new new_out
  WritesAtPeer (Ok None) new new_out =
      HasReached peer sink old out (IsDrivenInPart sleeps pins plays) new new_out × HasRisen peer.faults peer.is_last old new
  WritesAtPeer (Err e) new new_out =
      HasReached peer sink old out (IsUnwritten sleeps pins plays) new new_out × SinkHasRisen sink out new_out
