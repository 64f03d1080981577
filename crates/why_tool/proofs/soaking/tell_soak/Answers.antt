use Rattle.std.proofs.Common.{◌≡◌, ◌∙◌, ◌++◌, ap, refl}
use Rattle.tool_frame.proofs.AnswerLemmas.{says_within}
use Rattle.soak_texts.specs.Boards.{soak_board}
use Rattle.soak_texts.specs.Soak.{soak_program}
use Rattle.play_tool.specs.Answers.{request_at, soak_request, soak_head}
use Rattle.why_tool.proofs.ExplainLemmas.{explains_as}
use Rattle.why_tool.proofs.soaking.tell_soak.Goals as goal

pub returns-clause-says : goal.returns-clause-says
returns-clause-says g c =
    let asked : c.request_at-request.result ≡ soak_request c.args.seed = c.request_at-request.ensures ∙ ap request_at c.in_ok-soak.ensures.place in
    let board : c.deref.result.now ≡ soak_board c.args.seed = c.deref.ensures.value ∙ c.in_ok-soak.ensures.board in
    let program : c.deref-2.result.now ≡ soak_program c.args.seed = c.deref-2.ensures.value ∙ c.in_ok-soak.ensures.program in
    says_within _ _ _ _ _ c.tell_texts.result
    (explains_as (λ text status a. record { text = soak_head c.args.seed ++ text; answer = record { rest = text; text_is = refl; play = a } })) (λ none. none)
    (rw (asked, board, program) at c.tell_texts.ensures.says)
