use Rattle.std.proofs.Common.{◌∙◌, sym}
use Rattle.program_reports.specs.Checks.{holds_none, holds_one}
use Rattle.program_reports.proofs.CheckLemmas.{program_begins}
use Rattle.program_reports.proofs.checking.check_words.Goals as goal

pub returns-in_default : goal.returns-in_default
returns-in_default c = holds_none (sym c.stored_word.ensures ∙ c.in_default.is)

pub last_word-requires-clause-some : goal.last_word-requires-clause-some
last_word-requires-clause-some c = program_begins c.in-Some.stored c.requires (sym c.stored_word.ensures ∙ c.in-Some.is)

pub returns : goal.returns
returns c =
    rw c.crc_of.ensures (holds_one c.in-Some.stored c.in_ok-word.word (sym c.stored_word.ensures ∙ c.in-Some.is) c.in_ok-word.ensures.word)
