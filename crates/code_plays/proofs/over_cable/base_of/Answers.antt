use Rattle.std.proofs.Common.{Option, sym, ap, ◌∙◌}
use Rattle.command_words.specs.declared.place_run.PlaceRun.{PlaceRun}
use Rattle.code_plays.specs.Plays.{base_at}
use Rattle.code_plays.proofs.over_cable.base_of.Goals as goal

pub returns-in-None : goal.returns-in-None
returns-in-None c = c.none.ensures c.args.task.now.devices.now ∙ ap (λ (p : Option PlaceRun). base_at c.args.task.now.devices.now p) (sym c.in-None.is)
