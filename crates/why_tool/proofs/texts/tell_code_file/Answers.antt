use Rattle.std.proofs.Common.{sym, refl, subst, None}
use Rattle.code_files.specs.CodeFaults.{NamesFault}
use Rattle.tool_frame.proofs.AnswerLemmas.{says_within}
use Rattle.play_tool.specs.Answers.{code_accepted}
use Rattle.why_tool.specs.Told.{known_with}
use Rattle.why_tool.proofs.ExplainLemmas.{explains_within}
use Rattle.why_tool.proofs.CodeLemmas.{code_told}
use Rattle.why_tool.proofs.texts.tell_code_file.Goals as goal

pub returns-in-Ok-clause-says : goal.returns-in-Ok-clause-says
returns-in-Ok-clause-says g c = λ board is.
    says_within _ _ _ _ _ c.tell_code.result
    (explains_within (record { to = λ text status a. code_accepted c.in-Ok.code text status c.in-Ok.ensures.file a })) (λ none. none) (c.tell_code.ensures.says board is)

pub returns-in-Err-At-clause-says : goal.returns-in-Err-At-clause-says
returns-in-Err-At-clause-says g c = λ board is.
    says_within _ _ _ _ _ c.tell_code_fault.result
    (code_told (sym c.in-Err-At.offset-is) (sym c.in-Err-At.reason-is) (subst (NamesFault c.args.bytes.now) c.in-Err-At.field-0-is c.in-Err-At.ensures.refused)) (λ none. none)
    (c.tell_code_fault.ensures (known_with board None))
