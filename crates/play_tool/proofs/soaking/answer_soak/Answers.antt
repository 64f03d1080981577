use Rattle.std.proofs.Common.{◌≡◌, ◌≤◌, ◌+◌, ℕ, List, length, refl, ap, subst, ◌∙◌, arith}
use Rattle.tool_io.specs.Lines.{Puts, gathered}
use Rattle.tool_frame.proofs.AnswerLemmas.{says_no_memory}
use Rattle.soak_texts.specs.Boards.{soak_board}
use Rattle.soak_texts.specs.Soak.{soak_program}
use Rattle.play_tool.specs.Answers.{request_at, soak_request}
use Rattle.play_tool.proofs.SoakLemmas.{line_is, soak_says}
use Rattle.play_tool.proofs.soaking.answer_soak.Goals as goal

pub returns-in_err-soak-clause-says : goal.returns-in_err-soak-clause-says
returns-in_err-soak-clause-says g c = says_no_memory _ _ _ _ _ c.from_residual.result c.from_residual.ensures.1 (refl, refl)

pub returns-in_err-line-clause-says : goal.returns-in_err-line-clause-says
returns-in_err-line-clause-says g c = says_no_memory _ _ _ _ _ c.from_residual-in_err-line.result c.from_residual-in_err-line.ensures.1 (refl, refl)

pub returns-clause-says : goal.returns-clause-says
returns-clause-says g c =
    let line = c.deref-2.ensures.value ∙ c.in_ok-line.ensures.line ∙ line_is c.args.seed c.in_ok-soak.soak.devices c.in_ok-soak.soak.place c.piece_count.result c.deref.result.now
    c.in_ok-soak.ensures.devices c.in_ok-soak.ensures.place c.piece_count.ensures.count (c.deref.ensures.value ∙ c.in_ok-soak.ensures.program) in
    let none : length (gathered c.args.lines.now) ≡ 0 = ap length c.requires.empty in
    let same : length c.deref-2.result.now ≡ length c.in_ok-line.line.items = ap length c.deref-2.ensures.value in
    let short : length c.in_ok-line.line.items ≤ 4096 = c.in_ok-line.ensures.short in
    let fits : length (gathered c.args.lines.now) + length c.deref-2.result.now ≤ 4096 = omega (arith, none, same, short) in
    let asked : c.request_at-request.result ≡ soak_request c.args.seed = c.request_at-request.ensures ∙ ap request_at c.in_ok-soak.ensures.place in
    let board : c.deref-3.result.now ≡ soak_board c.args.seed = c.deref-3.ensures.value ∙ c.in_ok-soak.ensures.board in
    let program : c.deref-4.result.now ≡ soak_program c.args.seed = c.deref-4.ensures.value ∙ c.in_ok-soak.ensures.program in
    soak_says g.K.Sink _ _ _ c.args.seed c.play_texts.result
    (subst (λ (bytes : List ℕ). Puts g.K.Sink c.args.lines.now bytes c.put.new.self) line c.in_ok-put.ensures.put)
    ((c.put.ensures.gathers fits).1) (rw (asked, board, program) at c.play_texts.ensures.says)

pub returns-clause-rack : goal.returns-clause-rack
returns-clause-rack g c =
    let asked : c.request_at-request.result ≡ soak_request c.args.seed = c.request_at-request.ensures ∙ ap request_at c.in_ok-soak.ensures.place in
    let board : c.deref-3.result.now ≡ soak_board c.args.seed = c.deref-3.ensures.value ∙ c.in_ok-soak.ensures.board in
    let program : c.deref-4.result.now ≡ soak_program c.args.seed = c.deref-4.ensures.value ∙ c.in_ok-soak.ensures.program in
    rw (asked, board, program) at c.play_texts.ensures.rack
