use Rattle.why_tool.specs.Texts.{after_mode, no_mode}
use Rattle.why_tool.proofs.words.rest_text.Goals as goal

pub returns-in-Some : goal.returns-in-Some
returns-in-Some g = rw g.takes_text.ensures (after_mode g.in-Some.mode g.in-Some.ensures.mode)

pub returns-in-None : goal.returns-in-None
returns-in-None g = no_mode g.in-None.ensures.none
