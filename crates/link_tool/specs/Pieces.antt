-- The pieces of a session, as they are read: what is taken of each, and what a whole session comes to. The rules are
-- this tool's own.
use Rattle.std.specs.Prelude.{◌≡◌, ◌+◌, Bool, ℕ, List, [], Option, None, Some, Result, Ok, Err, IfSome, if◌then◌else◌}
use Rattle.tool_io.specs.declared.lines.Lines.{Lines}
use Rattle.tool_io.specs.declared.outside.Sink.{Ghosts as SinkOf}
use Rattle.tool_io.specs.Lines.{gathered, Puts, HasPut}
use Rattle.dev_card.specs.Card.{Card}
use Rattle.link_server.specs.declared.link.LinkState.{LinkState}
use Rattle.link_server.specs.declared.link.LinkState.TheVariants as states
use Rattle.link_server.specs.Runs.{LinkAt, link_run}
use Rattle.tool_frame.specs.declared.no_answer.NoAnswer.{NoAnswer}
use Rattle.tool_frame.specs.declared.no_answer.NoAnswer.TheVariants.{Read, Write, Memory}
use Rattle.link_tool.specs.declared.status.LinkStatus.{LinkStatus}
use Rattle.link_tool.specs.declared.status.LinkStatus.TheVariants.{Done, BadByte, TooLong}
use Rattle.link_tool.specs.declared.session.Session.{Session}
use Rattle.link_tool.specs.Sessions.{first_answers, session_answers, board_left, EndsWith, IsReadUpTo}

-- the link of a session, and a board
abbrev pub session_at : Session → List Card → LinkAt
session_at session board = record { link = session.link; board = board }

-- These bytes were fed to a session: link, board and count are those of the run, and its answers were put, or a front
-- of them if that failed.
pub record HasTaken {K T E : Type 0} (sink : SinkOf K) (old : Session) (board : List Card)
    (bytes : List ℕ) (new : Session) (told : Option (List Card)) (before after : Lines K) (result : Result T E)
    : Type 0 where
  pub link : new.link ≡ (link_run (session_at old board) bytes).end.link
  pub leaves : told ≡ Some (link_run (session_at old board) bytes).end.board
  pub count : new.taken ≡ old.taken + (link_run (session_at old board) bytes).taken
  pub put : HasPut sink before (link_run (session_at old board) bytes).answers after result

-- how a session stands after so many bytes, if more or none were read after them
abbrev pub status_after : LinkState → ℕ → Bool → Option LinkStatus
status_after states.Quit n more = Some Done
status_after states.Bad n more = Some (BadByte n)
status_after states.Open n more = if more then Some TooLong else None

-- These bytes were put, and none of them is still to be written.
pub record PutsOut {K : Type 0} (sink : SinkOf K) (old : Lines K) (bytes : List ℕ) (new : Lines K) : Type 0 where
  pub puts : Puts sink old bytes new
  pub empty : gathered new ≡ []

-- The session of a file has ended so: its answers are written, and the board is as it leaves it.
pub record IsServed (board : List Card) (bytes : List ℕ) (written : List ℕ → Type 0) (now : Option (List Card))
    (status : LinkStatus) : Type 0 where
  pub wrote : written (session_answers board bytes)
  pub leaves : now ≡ Some (board_left board bytes)
  pub ends : EndsWith bytes status

-- The answers to the bytes of a session that were read are written.
pub record IsServedUpTo {F : Type 0} (told : Option F) (left : List ℕ) (board : List Card) (bytes : List ℕ)
    (written : List ℕ → Type 0) : Type 0 where
  pub front : List ℕ
  pub read : IsReadUpTo told left bytes front
  pub wrote : written (first_answers board front)

-- What a session comes to, by the result: its answers are written; those to the bytes that were read at a read fault;
-- and a front of its answers at a write fault. The two words say of a text that it is written, and that a front of it
-- is.
abbrev pub IsSession : {F : Type 0} → Option F → List ℕ → List Card → List ℕ → (List ℕ → Type 0) → (List ℕ → Type 0) →
    Option (List Card) → Result LinkStatus NoAnswer → Type 0
IsSession told left board bytes written front now (Ok status) = IsServed board bytes written now status
IsSession told left board bytes written front now (Err Read) = IsServedUpTo told left board bytes written
IsSession told left board bytes written front now (Err Write) = front (session_answers board bytes)
IsSession told left board bytes written front now (Err Memory) = ⊥

-- The bytes of a session are those that were left of the file before it, where the store tells its files.
pub record HasServed {F : Type 0} (told : Option F) (before after : List ℕ) (board : List Card)
    (written front : List ℕ → Type 0) (now : Option (List Card)) (result : Result LinkStatus NoAnswer) : Type 0 where
  pub bytes : List ℕ
  pub read : IfSome told (λ files. before ≡ bytes)
  pub does : IsSession told after board bytes written front now result
