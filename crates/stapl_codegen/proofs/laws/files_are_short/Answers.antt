use Rattle.stapl_codegen.proofs.FileSizes.{file_is_short}
use Rattle.stapl_codegen.proofs.laws.files_are_short.Goals as goal

pub returns : goal.returns
returns c = λ text program is.
    file_is_short text program (c.programs_are_accepted.ensures text program is)
    (c.statements_are_no_longer_than_their_text.ensures text program is)
    (c.statements_fit_into_their_text.ensures text program is)
