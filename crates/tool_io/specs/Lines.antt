-- What a value of `Lines` holds, and what its calls do. The rules are the tool's own.
use Rattle.std.specs.Prelude.{◌≡◌, ℕ, List, ◌++◌, true, false, Option, Result, Ok, Err}
use Rattle.std.specs.Borrow.{MutBor}
use Rattle.tool_io.specs.declared.lines.Lines.{Lines}
use Rattle.tool_io.specs.Bytes.{then_bytes}
use Rattle.tool_io.specs.Causes.{HasRisen, NeverFalls}
use Rattle.tool_io.specs.declared.outside.Sink.{Ghosts as SinkOf}

-- the bytes that are put and not yet written
abbrev pub gathered : {K : Type 0} → Lines K → List ℕ
gathered lines = lines.block

-- no call has failed
abbrev pub IsWhole : {K : Type 0} → Lines K → Type 0
IsWhole lines = lines.failed ≡ false

-- a call has failed
abbrev pub IsBroken : {K : Type 0} → Lines K → Type 0
IsBroken lines = lines.failed ≡ true

-- the sink under it, as it is now
abbrev pub sink_of : {K : Type 0} → Lines K → K
sink_of lines = lines.sink.now

-- what that sink has taken
abbrev pub taken : {K : Type 0} → SinkOf K → Lines K → Option (List ℕ)
taken sink lines = sink.written (sink_of lines)

-- it stands over the sink that this reference points to
abbrev pub IsOver : {K : Type 0} → Lines K → MutBor K → Type 0
IsOver lines sink = lines.sink.ghost_name ≡ sink.ghost_name

-- it stands over the same sink
abbrev pub IsOverSame : {K : Type 0} → Lines K → Lines K → Type 0
IsOverSame old new = new.sink.ghost_name ≡ old.sink.ghost_name

-- nothing happened to that sink
abbrev pub IsSinkUntouched : {K : Type 0} → Lines K → Lines K → Type 0
IsSinkUntouched old new = sink_of new ≡ sink_of old

-- nothing has reached the sink, and it is the same
abbrev pub IsSilent : {K : Type 0} → Lines K → Lines K → Type 0
IsSilent old new = IsOverSame old new × IsSinkUntouched old new

-- the count of that sink did not fall, and stays at its last value
abbrev pub SinkNeverFalls : {K : Type 0} → SinkOf K → Lines K → Lines K → Type 0
SinkNeverFalls sink old new = NeverFalls sink.faults sink.is_last (sink_of old) (sink_of new)

-- that count rose, or stands at its last value
abbrev pub SinkHasRisen : {K : Type 0} → SinkOf K → Lines K → Lines K → Type 0
SinkHasRisen sink old new = HasRisen sink.faults sink.is_last (sink_of old) (sink_of new)

-- The bytes are put: what was gathered and these are what went to the sink and what is gathered now. The sink is the
-- same, no call has failed, and the count of the sink was kept.
pub record Puts {K : Type 0} (sink : SinkOf K) (old : Lines K) (bytes : List ℕ) (new : Lines K) : Type 0 where
  pub front : List ℕ
  pub parts : gathered old ++ bytes ≡ front ++ gathered new
  pub went : taken sink new ≡ then_bytes (taken sink old) front
  pub same_sink : IsOverSame old new
  pub whole : IsWhole new
  pub kept : SinkNeverFalls sink old new

-- A front of what was gathered and of the bytes went to the sink. The sink is the same, and its count rose, or stands at
-- its last value.
pub record PutsFront {K : Type 0} (sink : SinkOf K) (old : Lines K) (bytes : List ℕ) (new : Lines K) : Type 0 where
  pub front : List ℕ
  pub rest : List ℕ
  pub parts : gathered old ++ bytes ≡ front ++ rest
  pub went : taken sink new ≡ then_bytes (taken sink old) front
  pub same_sink : IsOverSame old new
  pub kept : SinkNeverFalls sink old new
  pub rose : SinkHasRisen sink old new

-- The same, and a call on the lines has failed.
pub record PutsBroken {K : Type 0} (sink : SinkOf K) (old : Lines K) (bytes : List ℕ) (new : Lines K) : Type 0 where
  pub put : PutsFront sink old bytes new
  pub broken : IsBroken new

-- What a call does that puts bytes, by its result.
abbrev pub HasPut : {K T E : Type 0} → SinkOf K → Lines K → List ℕ → Lines K → Result T E → Type 0
HasPut sink old bytes new (Ok x) = Puts sink old bytes new
HasPut sink old bytes new (Err e) = PutsBroken sink old bytes new
