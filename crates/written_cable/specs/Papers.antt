-- What text is put on, told by values alone, so that gathered lines meet it by what they hold. The rules are the tool's
-- own.
use Rattle.std.specs.Prelude.{◌≡◌, ℕ, Bool, false, List, ◌++◌, Option, Result, Ok, Err}
use Rattle.std.specs.Borrow.{GName}
use Rattle.tool_io.specs.declared.lines.Lines.{Lines}
use Rattle.tool_io.specs.Bytes.{then_bytes}
use Rattle.tool_io.specs.Causes.{HasRisen, NeverFalls}
use Rattle.tool_io.specs.Lines.{gathered, sink_of}

-- the bytes that are put and not yet written, those that are written, where that is told, whether a call has failed,
-- and the name of what they are written to
pub record Shown : Type 0 where
  pub waiting_bytes : List ℕ
  pub told_bytes : Option (List ℕ)
  pub is_broken : Bool
  pub over : GName

-- bytes begin with others
pub record Begins (bytes front : List ℕ) : Type 0 where
  pub more : List ℕ
  pub is : bytes ≡ front ++ more

-- The bytes are put.
pub record Puts {O : Type 0} (shown : O → Shown) (old : O) (bytes : List ℕ) (new : O) : Type 0 where
  pub front : List ℕ
  pub parts : (shown old).waiting_bytes ++ bytes ≡ front ++ (shown new).waiting_bytes
  pub went : (shown new).told_bytes ≡ then_bytes (shown old).told_bytes front

-- A front of what was gathered and of the bytes was written. Where no call failed, the rest begins with what waits now.
pub record PutsFront {O : Type 0} (shown : O → Shown) (old : O) (bytes : List ℕ) (new : O) : Type 0 where
  pub front : List ℕ
  pub rest : List ℕ
  pub parts : (shown old).waiting_bytes ++ bytes ≡ front ++ rest
  pub went : (shown new).told_bytes ≡ then_bytes (shown old).told_bytes front
  pub waits : (shown new).is_broken ≡ false → Begins rest (shown new).waiting_bytes

-- it stands over the same
abbrev pub IsOverSame : {O : Type 0} → (O → Shown) → O → O → Type 0
IsOverSame shown old new = (shown new).over ≡ (shown old).over

module _ {O : Type 0} (shown : O → Shown) (failed : O → Bool) (faults : O → ℕ) (is_last : O → Type 0) where
  -- The bytes were put. It stands over the same, no call has failed, and the count was kept.
  pub record PutsOnPaper (old : O) (bytes : List ℕ) (new : O) : Type 0 where
    pub put : Puts shown old bytes new
    pub same : IsOverSame shown old new
    pub whole : failed new ≡ false
    pub kept : NeverFalls faults is_last old new

  -- A front of them was put. It stands over the same, and the count rose, or stands at its last value.
  pub record PutsOnPaperFront (old : O) (bytes : List ℕ) (new : O) : Type 0 where
    pub front : PutsFront shown old bytes new
    pub same : IsOverSame shown old new
    pub kept : NeverFalls faults is_last old new
    pub rose : HasRisen faults is_last old new

  -- What a call does that puts bytes, by its result.
  abbrev pub HasPutLine : {T E : Type 0} → O → List ℕ → O → Result T E → Type 0
  HasPutLine old bytes new (Ok x) = PutsOnPaper old bytes new
  HasPutLine old bytes new (Err e) = PutsOnPaperFront old bytes new

-- gathered lines as such
abbrev pub shown_of : {K : Type 0} → (K → Option (List ℕ)) → Lines K → Shown
shown_of written lines =
    record {
      waiting_bytes = gathered lines;
      told_bytes = written (sink_of lines);
      is_broken = lines.failed;
      over = lines.sink.ghost_name;
    }

abbrev pub has_failed : {K : Type 0} → Lines K → Bool
has_failed lines = lines.failed

abbrev pub faults_of : {K : Type 0} → (K → ℕ) → Lines K → ℕ
faults_of faults lines = faults (sink_of lines)

abbrev pub IsLastOf : {K : Type 0} → (K → Type 0) → Lines K → Type 0
IsLastOf is_last lines = is_last (sink_of lines)
