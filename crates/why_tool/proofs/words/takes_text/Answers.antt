use Rattle.std.proofs.Common.{sym, ap}
use Rattle.why_tool.specs.Texts.{takes_text}
use Rattle.why_tool.proofs.words.takes_text.Goals as goal

pub returns-in-Play : goal.returns-in-Play
returns-in-Play g = sym (ap takes_text g.in-Play.is)

pub returns-in-Run : goal.returns-in-Run
returns-in-Run g = sym (ap takes_text g.in-Run.is)
