-- What has an explanation. The names are those in the tool's lines, and the table is the one that `--explain` reads.
use Rattle.std.specs.Prelude.{◌≢◌, [], ◌++◌, codes}
use Rattle.stapl_lexer.specs.declared.reason.Reason.{Reason}
use Rattle.stapl_meaning.specs.declared.events.RunFault.{RunFault}
use Rattle.stapl_meaning.specs.Texts.{fault_name}
use Rattle.stapl_code.specs.declared.reason.CodeReason.{CodeReason}
use Rattle.stapl_code.specs.Reasons as code_reasons
use Rattle.board_text.specs.declared.reason.BoardReason.{BoardReason}
use Rattle.tool_questions.specs.Explanations.{paragraphs, reason_paragraphs, board_reason_paragraphs}

abbrev pub IsReasonExplained : Reason → Type 0
IsReasonExplained reason = reason_paragraphs reason ≢ []

abbrev pub IsBoardReasonExplained : BoardReason → Type 0
IsBoardReasonExplained reason = board_reason_paragraphs reason ≢ []

abbrev pub IsCodeReasonExplained : CodeReason → Type 0
IsCodeReasonExplained reason = paragraphs (code_reasons.reason_name reason ++ codes ", of a code:") ≢ []

abbrev pub IsFaultExplained : RunFault → Type 0
IsFaultExplained fault = paragraphs (fault_name fault ++ codes ", in a play:") ≢ []
