use Rattle.std.proofs.Common.{ℕ, List, map, string_bytes, Global, refl, sym, subst}
use Rattle.tool_frame.specs.declared.no_answer.NoAnswer.TheVariants.{Memory}
use Rattle.tool_frame.proofs.AnswerLemmas.{says_failed, said_text, said_front}
use Rattle.play_words.specs.Words.{IsUsage, IsWordsRefused}
use Rattle.play_words.proofs.OneRequest.{one_request, no_usage}
use Rattle.play_words.specs.declared.status.Status.TheVariants.{Usage}
use Rattle.play_tool.specs.Answers.{usage}
use Rattle.play_tool.specs.FinalRacks.{IsPlaying, AskForPlay}
use Rattle.play_tool.proofs.AnswerLemmas.{request_in_words}
use Rattle.play_tool.proofs.FileLemmas.{left_failed, left_refused, left_unread, said_and_left_as}
use Rattle.play_tool.proofs.RequestLemmas.{of_request, of_no_request, of_any_words, words_final, usage_is, shelf_of_words}
use Rattle.play_tool.proofs.player.PlayerTool.answer.Goals as goal

pub returns-in-Ok-clause-answers : goal.returns-in-Ok-clause-answers
returns-in-Ok-clause-answers g c =
    let asks = c.in-Ok.ensures.request in
    of_request (g.S.Shelf.told c.args.shelf.now) asks c.answer_request.ensures.answers (λ contents a.
    let b = said_and_left_as g.K.Sink c.answer_request.result
    (request_in_words {words = map (string_bytes {Z = Global}) c.args.words.now} {contents_of = λ request. contents} asks)
    (λ (playing : IsPlaying c.in-Ok.request). record { request = c.in-Ok.request; asked = asks; playing = playing })
    (λ (q : AskForPlay (map (string_bytes {Z = Global}) c.args.words.now)). subst IsPlaying (one_request q.asked asks) q.playing)
    (words_final contents asks) a in
    record { says = b.says; left = b.left })

pub returns-in_err-put_usage-in-Err-Usage-clause-answers : goal.returns-in_err-put_usage-in-Err-Usage-clause-answers
returns-in_err-put_usage-in-Err-Usage-clause-answers g c =
    let words : List (List ℕ) = map (string_bytes {Z = Global}) c.args.words.now in
    let refused : IsUsage words c.in-Err-Usage.n = subst (IsWordsRefused words) c.in-Err-Usage.field-0-is c.in-Err-Usage.ensures.refused in
    of_no_request (g.S.Shelf.told c.args.shelf.now) (λ request asks. no_usage asks refused) (λ contents. record {
      says = says_failed _ _ _ _ _ c.from_residual.result c.from_residual.ensures.1
          (said_front _ (Usage _) (usage _ (usage_is (sym c.in-Err-Usage.n-is) refused)) c.in_err-put_usage-in-Err-Usage.ensures);
      left = left_failed c.from_residual.result c.from_residual.ensures.1;
    })

pub returns-in_ok-put_usage-in-Err-Usage-clause-answers : goal.returns-in_ok-put_usage-in-Err-Usage-clause-answers
returns-in_ok-put_usage-in-Err-Usage-clause-answers g c =
    let words : List (List ℕ) = map (string_bytes {Z = Global}) c.args.words.now in
    let refused : IsUsage words c.in-Err-Usage.n = subst (IsWordsRefused words) c.in-Err-Usage.field-0-is c.in-Err-Usage.ensures.refused in
    of_no_request (g.S.Shelf.told c.args.shelf.now) (λ request asks. no_usage asks refused) (λ contents. record {
      says = said_text _ (usage _ (usage_is (sym c.in-Err-Usage.n-is) refused)) c.in_ok-put_usage-in-Err-Usage.ensures;
      left = left_refused (Usage _) (λ p. p);
    })

pub returns-in-Err-Memory-clause-answers : goal.returns-in-Err-Memory-clause-answers
returns-in-Err-Memory-clause-answers g c =
    of_any_words (g.S.Shelf.told c.args.shelf.now) (map (string_bytes {Z = Global}) c.args.words.now) (λ contents. record { says = (refl, refl); left = left_unread Memory })

pub returns-in-Ok-clause-shelf : goal.returns-in-Ok-clause-shelf
returns-in-Ok-clause-shelf g c =
    shelf_of_words c.in-Ok.ensures.request c.answer_request.ensures.shelf
