-- What a top call says of its faults, and what it keeps, whatever it answers. The rules are this tool's own.
use Rattle.std.specs.Prelude.{◌≡◌, ℕ, List, map, Option}
use Rattle.tool_io.specs.Causes.{HasRisen, NeverFalls, NoneFalls}
use Rattle.tool_io.specs.declared.outside.Shelf.{Ghosts as ShelfOf}
use Rattle.tool_io.specs.declared.outside.Sink.{Ghosts as SinkOf}
use Rattle.tool_frame.specs.Files.{PicksNamed, HasReadCause}
use Rattle.play_words.specs.declared.status.Status.{Status}
use Rattle.play_words.specs.Statuses.{ComesBeforeFitting}

-- After a read fault: the count of a file rose that is reached, or stands at its last value; and nothing is written.
pub record HasFailedRead {S K : Type 0} (shelf : ShelfOf S) (sink : SinkOf K) (reached : List ℕ → Type 0) (before after : S)
    (out_before out_after : K) : Type 0 where
  pub cause : HasReadCause shelf reached before after
  pub nothing : sink.written out_after ≡ sink.written out_before

-- After a write fault: the count of the sink rose, or stands at its last value; and this front is written.
pub record HasFailedWrite {K : Type 0} (sink : SinkOf K) (before after : K) (Front : Type 0) : Type 0 where
  pub cause : HasRisen sink.faults sink.is_last before after
  pub front : Front

-- Of the files that are named only some in front are opened, each once and in their order, and no other is. The files
-- stay, and no count falls.
pub record KeepsOutside {S K : Type 0} (shelf : ShelfOf S) (sink : SinkOf K) (names : List (Option (List ℕ)) → Type 0)
    (before after : S) (out_before out_after : K) : Type 0 where
  pub once : PicksNamed names (shelf.picks before) (shelf.picks after)
  pub files : shelf.told after ≡ shelf.told before
  pub of_files : NoneFalls shelf.faults shelf.is_last before after
  pub of_sink : NeverFalls sink.faults sink.is_last out_before out_after

-- The devices of the rack stay as they were if the cause of the status comes before the board is fitted, and if no play
-- is asked for. In any case each of them keeps its kind.
pub record KeepsDevices {D Kind : Type 0} (kind_of : D → Kind) (playing : Type 0) (status : Status) (before after : List D) : Type 0 where
  pub early : ComesBeforeFitting status → after ≡ before
  pub other : (playing → ⊥) → after ≡ before
  pub kinds : map kind_of after ≡ map kind_of before
