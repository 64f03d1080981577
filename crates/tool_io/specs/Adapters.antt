-- The adapters over the files and the output of a system. Through the traits they tell nothing but their faults; what
-- they stand on is told as far as std's reader or writer tells it. The rules are the tool's own.
use Rattle.std.specs.Prelude.{ℕ, List, Option, IsSome}
use Rattle.std.specs.Option.{option_and_then}
use Rattle.tool_io.specs.declared.std_edge.FileShelf.{FileShelf}
use Rattle.tool_io.specs.Causes.{IsSaturated}
use Rattle.tool_io.specs.declared.std_edge.StdSink.{StdSink}

-- how often a pick or a read has failed, of whatever file
abbrev pub file_faults : {R F D : Type 0} → FileShelf R F D → ℕ
file_faults shelf = shelf.faults

-- that count stands at its last value
abbrev pub IsFileSaturated : {R F D : Type 0} → FileShelf R F D → Type 0
IsFileSaturated shelf = IsSaturated (file_faults shelf)

-- what the opened file has left, if there is one and it tells
abbrev pub file_left : {R F D : Type 0} → (F → Option (List ℕ)) → FileShelf R F D → Option (List ℕ)
file_left remaining shelf = option_and_then remaining shelf.file

-- the last pick has opened a file
abbrev pub HasFile : {R F D : Type 0} → FileShelf R F D → Type 0
HasFile shelf = IsSome shelf.file

-- how often a write or a flush has failed
abbrev pub output_faults : {W : Type 0} → StdSink W → ℕ
output_faults sink = sink.faults

-- that count stands at its last value
abbrev pub IsOutputSaturated : {W : Type 0} → StdSink W → Type 0
IsOutputSaturated sink = IsSaturated (output_faults sink)

-- the writer of std under a sink
abbrev pub writer_of : {W : Type 0} → StdSink W → W
writer_of sink = sink.to
