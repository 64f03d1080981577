-- How long a trace may be. The rule is these tools' own.
use Rattle.std.specs.Prelude.{ℕ}

-- the most bytes of the text of a trace
abbrev pub trace_limit : ℕ
trace_limit = 67108864
