-- What calls put on a paper, told by all its ghost members as one record.
use Rattle.std.specs.Prelude.{ℕ, List, Result}
use Rattle.tool_io.specs.declared.lines.Lines.{Lines}
use Rattle.tool_io.specs.declared.outside.Sink.{Ghosts as SinkOf}
use Rattle.written_cable.specs.declared.paper.Paper.{Ghosts as PaperOf}
use Rattle.written_cable.specs.Papers.{HasPutLine, shown_of, has_failed, faults_of, IsLastOf}

-- What a call does that puts bytes on a paper, by its result.
abbrev pub HasPutOn : {O T E : Type 0} → PaperOf O → O → List ℕ → O → Result T E → Type 0
HasPutOn paper old bytes new result = HasPutLine paper.shown paper.failed paper.faults paper.is_last old bytes new result

-- gathered lines as a paper
abbrev pub lines_paper : {K : Type 0} → SinkOf K → PaperOf (Lines K)
lines_paper sink = record { shown = shown_of sink.written; failed = has_failed; faults = faults_of sink.faults; is_last = IsLastOf sink.is_last }
