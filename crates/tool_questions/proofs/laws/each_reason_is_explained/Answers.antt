use Rattle.tool_questions.proofs.TableLemmas.{reasons_explained, board_reasons_explained, code_reasons_explained, faults_explained}
use Rattle.tool_questions.proofs.laws.each_reason_is_explained.Goals as goal

pub returns-clause-programs : goal.returns-clause-programs
returns-clause-programs c = reasons_explained

pub returns-clause-boards : goal.returns-clause-boards
returns-clause-boards c = board_reasons_explained

pub returns-clause-codes : goal.returns-clause-codes
returns-clause-codes c = code_reasons_explained

pub returns-clause-faults : goal.returns-clause-faults
returns-clause-faults c = faults_explained
