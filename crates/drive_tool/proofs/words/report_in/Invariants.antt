use Rattle.std.proofs.Common.{map, string_bytes, Global}
use Rattle.drive_tool.specs.Words.{HasNoReport}
use Rattle.drive_tool.proofs.words.report_in.Given as goal

abbrev pub invariant-loop-place : goal.invariant-loop-place
invariant-loop-place l = HasNoReport (map (string_bytes {Z = Global}) l.words) l.place
