use Rattle.std.proofs.Common.{sym, ◌∙◌}
use Rattle.tool_io.proofs.PutLemmas.{puts_same, puts_nothing}
use Rattle.wave_tool.proofs.WaveLemmas.{has_put_same, no_moment, some_moment}
use Rattle.wave_tool.proofs.wave.put_moment.Goals as goal

pub returns-then-are_same : goal.returns-then-are_same
returns-then-are_same g c =
    puts_same (no_moment c.args.time c.args.old c.args.new (sym c.are_same.ensures ∙ c.if-are_same.true)) (puts_nothing g.K.Sink c.args.lines.now c.requires.whole)

pub returns : goal.returns
returns g c =
    has_put_same _ _ _ c.put_times.result (some_moment c.args.time c.args.old c.args.new (sym c.are_same.ensures ∙ c.if-are_same.false)) c.put_times.ensures
