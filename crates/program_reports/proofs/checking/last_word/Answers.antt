use Rattle.std.proofs.Common.{◌∙◌, sym, ap, Err}
use Rattle.std.specs.Option.{option_copied}
use Rattle.program_reports.proofs.CheckLemmas.{has_last, has_token, has_no_reason, begins_last}
use Rattle.program_reports.proofs.checking.last_word.Goals as goal

pub unreachable-requires : goal.unreachable-requires
unreachable-requires c =
    has_last c.deref.result.now (rw c.deref.ensures.value c.in_ok-pieces.ensures.cut) c.requires.some.1
    (sym c.last.ensures.value ∙ ap option_copied c.in_default.is)

pub unreachable-requires-in-None : goal.unreachable-requires-in-None
unreachable-requires-in-None c =
    has_token c.deref.result.now c.in-Some.piece.now c.deref-in-Ok.result.now (rw c.deref.ensures.value c.in_ok-pieces.ensures.cut) c.requires.some.1
    (sym c.last.ensures.value ∙ ap option_copied c.in-Some.is)
    (rw c.deref-in-Ok.ensures.value c.in-Ok.ensures.ok)
    (sym c.first.ensures.value ∙ ap option_copied c.in-None.is)

pub unreachable-requires-in-Err-Because : goal.unreachable-requires-in-Err-Because
unreachable-requires-in-Err-Because c =
    has_no_reason c.deref.result.now c.in-Some.piece.now c.in-Err-Because.field-0-0 (rw c.deref.ensures.value c.in_ok-pieces.ensures.cut) c.requires.some.1
    (sym c.last.ensures.value ∙ ap option_copied c.in-Some.is)
    (c.tokens.ensures.because c.in-Err-Because.field-0-0 (c.in-Err-Because.is ∙ ap Err c.in-Err-Because.field-0-is))

pub returns-in-Some-first-clause-word : goal.returns-in-Some-first-clause-word
returns-in-Some-first-clause-word c =
    begins_last c.deref.result.now c.in-Some.piece.now c.deref-in-Ok.result.now c.in-Some-first.word.now
    (rw c.deref.ensures.value c.in_ok-pieces.ensures.cut)
    (sym c.last.ensures.value ∙ ap option_copied c.in-Some.is)
    (rw c.deref-in-Ok.ensures.value c.in-Ok.ensures.ok)
    (sym c.first.ensures.value ∙ ap option_copied c.in-Some-first.is)
