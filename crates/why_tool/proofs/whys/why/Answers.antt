use Rattle.std.proofs.Common.{◌∙◌, sym, map, string_bytes, Global}
use Rattle.tool_frame.proofs.AnswerLemmas.{says_within}
use Rattle.tool_frame.proofs.FileLemmas.{of_files_as}
use Rattle.play_tool.proofs.RequestLemmas.{of_any_words}
use Rattle.why_tool.specs.Whys.{no_command, of_command}
use Rattle.why_tool.proofs.FileLemmas.{no_files}
use Rattle.why_tool.proofs.whys.why.Goals as goal

pub returns-then-asks_otherwise-clause-says : goal.returns-then-asks_otherwise-clause-says
returns-then-asks_otherwise-clause-says g c =
    of_any_words (g.S.Shelf.told c.args.shelf.now) (map (string_bytes {Z = Global}) c.args.words.now) (λ contents.
    says_within _ _ _ _ _ c.refuse.result (record { to = λ said ending a. no_command (sym c.asks_otherwise.ensures ∙ c.if-asks_otherwise.true) a }) (λ none. none) c.refuse.ensures)

pub returns-clause-says : goal.returns-clause-says
returns-clause-says g c =
    of_files_as (λ contents says.
    says_within _ _ _ _ _ c.tell_command.result (record { to = λ said ending a. of_command (sym c.asks_otherwise.ensures ∙ c.if-asks_otherwise.false) a }) (λ none. none) says)
    c.tell_command.ensures.says

pub returns-then-asks_otherwise-clause-files : goal.returns-then-asks_otherwise-clause-files
returns-then-asks_otherwise-clause-files g c = no_files g.S.Shelf _ c.args.shelf.now
