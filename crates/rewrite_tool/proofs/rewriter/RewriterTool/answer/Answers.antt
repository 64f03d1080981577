use Rattle.std.proofs.Common.{map, string_bytes, Global}
use Rattle.named_files.specs.Texts.{usage_line}
use Rattle.named_files.proofs.ContentLemmas.{of_both_files, shelf_asked}
use Rattle.tool_frame.proofs.AnswerLemmas.{says_failed, said_text, said_front}
use Rattle.rewrite_tool.specs.declared.status.RewriteStatus.TheVariants.{Usage}
use Rattle.rewrite_tool.specs.Words.{Asks}
use Rattle.rewrite_tool.specs.Named.{request_of}
use Rattle.rewrite_tool.proofs.WordLemmas.{no_usage}
use Rattle.rewrite_tool.proofs.PlayedAlike.{promised_usage}
use Rattle.rewrite_tool.proofs.RequestLemmas.{words_of_request, of_no_request}
use Rattle.rewrite_tool.proofs.rewriter.RewriterTool.answer.Goals as goal

pub returns-in-Ok-clause-answers : goal.returns-in-Ok-clause-answers
returns-in-Ok-clause-answers g c =
    of_both_files (Asks (map (string_bytes {Z = Global}) c.args.words.now)) (g.S.Shelf.told c.args.shelf.now) (λ contents says. record { says = says; left = tt })
    (words_of_request c.a_carried_text_plays_as_its_program_with_base_padding.ensures.accepted
    c.a_carried_text_plays_as_its_program_with_base_padding.ensures.plays c.each_board_can_be_fitted.ensures
    g.K.Sink _ _ (g.S.Shelf.told c.args.shelf.now) (request_of c.in-Ok.named) c.answer_request.result c.in-Ok.ensures.request c.answer_request.ensures.says)

pub returns-in_err-put_usage-in-Err-clause-answers : goal.returns-in_err-put_usage-in-Err-clause-answers
returns-in_err-put_usage-in-Err-clause-answers g c =
    of_both_files (Asks (map (string_bytes {Z = Global}) c.args.words.now)) (g.S.Shelf.told c.args.shelf.now) (λ contents says. record { says = says; left = tt })
    (of_no_request (g.S.Shelf.told c.args.shelf.now) (λ request asks. no_usage _ request c.in-Err.n asks c.in-Err.ensures.usage)
    (λ contents. says_failed _ _ _ _ _ c.from_residual.result c.from_residual.ensures.1
    (said_front (usage_line c.in-Err.n) (Usage c.in-Err.n) (promised_usage _ contents c.in-Err.n c.in-Err.ensures.usage) c.in_err-put_usage-in-Err.ensures)))

pub returns-in_ok-put_usage-in-Err-clause-answers : goal.returns-in_ok-put_usage-in-Err-clause-answers
returns-in_ok-put_usage-in-Err-clause-answers g c =
    of_both_files (Asks (map (string_bytes {Z = Global}) c.args.words.now)) (g.S.Shelf.told c.args.shelf.now) (λ contents says. record { says = says; left = tt })
    (of_no_request (g.S.Shelf.told c.args.shelf.now) (λ request asks. no_usage _ request c.in-Err.n asks c.in-Err.ensures.usage)
    (λ contents. said_text (usage_line c.in-Err.n) (promised_usage _ contents c.in-Err.n c.in-Err.ensures.usage) c.in_ok-put_usage-in-Err.ensures))

pub returns-in-Ok-clause-shelf : goal.returns-in-Ok-clause-shelf
returns-in-Ok-clause-shelf g c =
    shelf_asked (Asks (map (string_bytes {Z = Global}) c.args.words.now)) ((request_of c.in-Ok.named).run, c.in-Ok.ensures.request) c.answer_request.ensures.shelf
