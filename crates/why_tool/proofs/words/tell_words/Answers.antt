use Rattle.std.proofs.Common.{◌++◌, pos, map, string_bytes, Global, List, ℕ, refl}
use Rattle.tool_io.proofs.PutLemmas.{put_then, put_then_front, front_with}
use Rattle.named_files.specs.Texts.{usage_line}
use Rattle.play_words.specs.declared.status.Status.TheVariants.{Done}
use Rattle.tool_frame.proofs.AnswerLemmas.{says_failed, said_front, said_text}
use Rattle.why_tool.specs.Texts.{numbered_word, word_shown}
use Rattle.why_tool.proofs.words.tell_words.Goals as goal

pub returns-in_err-put_usage : goal.returns-in_err-put_usage
returns-in_err-put_usage g c =
    let words : List (List ℕ) = map (string_bytes {Z = Global}) c.args.words.now in
    says_failed _ _ _ _ _ c.from_residual.result c.from_residual.ensures.1
    (said_front _ (Done (pos 0)) (record { told = record { rest = _; told = c.rest_text-rest.ensures; said_is = refl }; done = refl })
    (front_with c.rest_text-rest.result.now (front_with (word_shown c.args.n (numbered_word c.args.n words)) c.in_err-put_usage.ensures)))

pub returns-in_err-put_word : goal.returns-in_err-put_word
returns-in_err-put_word g c =
    says_failed _ _ _ _ _ c.from_residual-in_err-put_word.result c.from_residual-in_err-put_word.ensures.1
    (said_front _ (Done (pos 0)) (record { told = record { rest = _; told = c.rest_text-rest.ensures; said_is = refl }; done = refl })
    (front_with c.rest_text-rest.result.now (put_then_front c.in_ok-put_usage.ensures (rw c.word_numbered.ensures at c.in_err-put_word.ensures))))

pub returns-in_err-put : goal.returns-in_err-put
returns-in_err-put g c =
    says_failed _ _ _ _ _ c.from_residual-in_err-put.result c.from_residual-in_err-put.ensures.1
    (said_front _ (Done (pos 0)) (record { told = record { rest = _; told = c.rest_text-rest.ensures; said_is = refl }; done = refl })
    (put_then_front (put_then c.in_ok-put_usage.ensures (rw c.word_numbered.ensures at c.in_ok-put_word.ensures)) c.in_err-put.ensures.put))

pub returns : goal.returns
returns g c =
    said_text _ (record { told = record { rest = _; told = c.rest_text-rest.ensures; said_is = refl }; done = refl })
    (put_then (put_then c.in_ok-put_usage.ensures (rw c.word_numbered.ensures at c.in_ok-put_word.ensures)) c.in_ok-put.ensures.put)
