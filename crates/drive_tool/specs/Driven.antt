-- What a play over a peer sends, receives and writes. The play is that of the meaning of the statements, at a far end
-- that gives exactly the TDO bits that were received. The rules are this tool's own.
use Rattle.std.specs.Prelude.{◌≡◌, ◌≤◌, ℕ, Bool, List, [], ◌++◌, codes, length, Some}
use Rattle.dev_card.specs.Board.{tdos}
use Rattle.dev_card.specs.FarEnds.{FarEnd, Heard}
use Rattle.scan_paths.specs.Cables.{Signal, clocks_in}
use Rattle.stapl_meaning.specs.declared.events.Event.{Event}
use Rattle.stapl_meaning.specs.declared.events.Ending.{Ending}
use Rattle.stapl_meaning.specs.Plays.{Run, ending_of}
use Rattle.stapl_meaning.specs.Texts.{events_text, ending_line}
use Rattle.written_cable.specs.Signals.{signals_of}
use Rattle.link_server.specs.Clients.{bytes_of_signals, answers_of}

-- what a call sends, receives and writes, in bytes
pub record Session : Type 0 where
  pub sent : List ℕ
  pub received : List ℕ
  pub text : List ℕ

-- the far end that gives the TDO bits of the clocks among these events, and then any that may follow
abbrev pub heard_at : List Event → List Bool → FarEnd
heard_at events more = Heard (tdos (clocks_in (signals_of events)) ++ more)

-- A play was driven to its ending: its events are those that the statements mean on what was received, whatever would
-- be received after it; the bytes of exactly its clocks and waits were sent, in order, and then a Q; the digits of
-- exactly its clocks were received; and its text is written.
pub record IsDriven (sleeps pins : Bool) (plays : FarEnd → Run) (session : Session) (ending : Ending) : Type 0 where
  pub events : List Event
  pub runs : (more : List Bool) → (plays (heard_at events more)).events ≡ events
  pub ended : (more : List Bool) → ending_of (plays (heard_at events more)).outcome ≡ Some ending
  pub went : session.sent ≡ bytes_of_signals sleeps (signals_of events) ++ codes "Q"
  pub came : session.received ≡ answers_of (signals_of events)
  pub wrote : session.text ≡ events_text pins [] events ++ ending_line ending

-- A play was driven in part: the same of its first events; a front of the bytes of at most 64 more signals may have
-- been sent, and answers received of which no clock counts; and of the text of these events a front is written.
pub record IsDrivenInPart (sleeps pins : Bool) (plays : FarEnd → Run) (session : Session) : Type 0 where
  pub events : List Event
  pub rest : List Bool → List Event
  pub runs : (more : List Bool) → (plays (heard_at events more)).events ≡ events ++ rest more
  pub pending : List Signal
  pub few : length pending ≤ 64
  pub more_bytes : List ℕ
  pub unsent : List ℕ
  pub parts : bytes_of_signals sleeps pending ≡ more_bytes ++ unsent
  pub uncounted : List ℕ
  pub went : session.sent ≡ bytes_of_signals sleeps (signals_of events) ++ more_bytes
  pub came : session.received ≡ answers_of (signals_of events) ++ uncounted
  pub unwritten : List ℕ
  pub wrote : events_text pins [] events ≡ session.text ++ unwritten

-- A play was driven to its ending, but these last bytes were not sent, and this end of its text is not written.
-- Perhaps answers were received of which no clock counts.
pub record IsDrivenBut (sleeps pins : Bool) (plays : FarEnd → Run) (unsent unwritten : List ℕ) (session : Session)
    (ending : Ending) : Type 0 where
  pub whole : Session
  pub driven : IsDriven sleeps pins plays whole ending
  pub uncounted : List ℕ
  pub went : whole.sent ≡ session.sent ++ unsent
  pub came : session.received ≡ whole.received ++ uncounted
  pub wrote : whole.text ≡ session.text ++ unwritten

-- What was done before the wire failed: it could not be opened, and nothing was done; or a play was driven in part; or
-- it was driven to its ending and its text is written, and only the Q may be missing.
pub data IsCutOff (sleeps pins : Bool) (plays : FarEnd → Run) : Session → Type 0 where
  not_opened : IsCutOff sleeps pins plays (record { sent = []; received = []; text = [] })
  cut_in_part : (session : Session) → IsDrivenInPart sleeps pins plays session → IsCutOff sleeps pins plays session
  cut_before_quit : (session : Session) (ending : Ending) (unsent : List ℕ) → length unsent ≤ 1 →
      IsDrivenBut sleeps pins plays unsent [] session ending → IsCutOff sleeps pins plays session

-- What was done before the text could not be written: a play was driven in part; or it was driven to its ending, but
-- for the Q, and the end of its text may be missing.
pub data IsUnwritten (sleeps pins : Bool) (plays : FarEnd → Run) : Session → Type 0 where
  unwritten_in_part : (session : Session) → IsDrivenInPart sleeps pins plays session →
      IsUnwritten sleeps pins plays session
  unwritten_end : (session : Session) (ending : Ending) (unwritten : List ℕ) →
      IsDrivenBut sleeps pins plays (codes "Q") unwritten session ending → IsUnwritten sleeps pins plays session
