-- A sink in memory, whose writes with listed numbers fail. The rules are the tool's own.
use Rattle.std.specs.Prelude.{◌≡◌, ℕ, ◌+◌, ◌-◌, ◌^◌, ◌<◌, ◌⊎◌, ◌↔◌, min, List, ◌++◌, take, length, Contains, Result, IsErr, IfOk, OnErr}
use Rattle.tool_io.specs.Causes.{IsSaturated, raised_count}

-- what was written, the room in all, the most that one write takes, the numbers of the writes that fail, the number of
-- the last write, from 1, or 0, and how often a write has failed
pub record MemState : Type 0 where
  pub written : List ℕ
  pub room : ℕ
  pub bite : ℕ
  pub failing : List ℕ
  pub number : ℕ
  pub faults : ℕ

-- how often a write has failed
abbrev pub fault_count : MemState → ℕ
fault_count sink = sink.faults

-- that count stands at its last value
abbrev pub IsCountLast : MemState → Type 0
IsCountLast sink = IsSaturated sink.faults

-- the write of this number fails: it is listed, or it has bytes and no room is left
abbrev pub Fails : MemState → ℕ → List ℕ → Type 0
Fails sink number bytes = Contains sink.failing number ⊎ ((0 < length bytes) × (sink.room ≡ length sink.written))

-- One write. The number stays at the last value of 32 bits, and the count at that of 64.
pub record Writes {E : Type 0} (old : MemState) (bytes : List ℕ) (result : Result ℕ E) (new : MemState) : Type 0 where
  pub number : new.number ≡ min (old.number + 1) (2 ^ 32 - 1)
  pub fails : IsErr result ↔ Fails old new.number bytes
  pub fault : OnErr result (new ≡ record old { number = new.number; faults = raised_count old.faults })
  pub takes : IfOk result (λ n. n ≡ min (length bytes) (min old.bite (old.room - length old.written)))
  pub ok : IfOk result (λ n. new ≡ record old { number = new.number; written = old.written ++ take n bytes })
