use Rattle.std.proofs.Common.{take}
use Rattle.std.specs.Prelude.{flat_map}
use Rattle.scan_paths.specs.Scans.{lengths_of}
use Rattle.tool_io.specs.Lines.{Puts}
use Rattle.account_plays.specs.RunTexts.{place_text}
use Rattle.account_plays.proofs.run_lines.put_runs.Given as goal

abbrev pub invariant-loop-at : goal.invariant-loop-at
invariant-loop-at g l =
    Puts g.K.Sink l.fn.out
    (flat_map (place_text l.turn (lengths_of l.base) l.runs.bits_in.now l.runs.bits_out.now) (take l.at-index l.runs.places.now)) l.out
