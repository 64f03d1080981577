use Rattle.std.proofs.Common.{◌∙◌, ap, sym, subst, Err}
use Rattle.stapl_lexer.specs.declared.reason.Reason.{Reason}
use Rattle.stapl_syntax.specs.Reasons.{SmallestReason}
use Rattle.stapl_checker.proofs.reading.read_piece.Goals as goal

pub returns-in-Err-Because : goal.returns-in-Err-Because
returns-in-Err-Because c =
    subst (λ (reason : Reason). SmallestReason c.args.text.now c.args.piece.now reason) (sym c.in-Err-Because.reason-is)
    (c.parse.ensures.because c.in-Err-Because.reason (c.in-Err-Because.is ∙ ap Err c.in-Err-Because.field-0-is))
