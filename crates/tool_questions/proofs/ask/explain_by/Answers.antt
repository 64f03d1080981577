use Rattle.std.proofs.Common.{pos, refl}
use Rattle.std.specs.List.{flat_map}
use Rattle.tool_io.specs.Texts.{word_line}
use Rattle.tool_questions.specs.Explanations.{word_paragraphs}
use Rattle.play_words.specs.declared.status.Status.TheVariants.{Done}
use Rattle.tool_frame.proofs.AnswerLemmas.{says_failed, said_front, said_text, says_within}
use Rattle.tool_questions.specs.Questions.{explained, unknown}
use Rattle.tool_questions.proofs.WordLemmas.{none_said, some_said}
use Rattle.tool_questions.proofs.ask.explain_by.Goals as goal

pub returns-then-is_empty : goal.returns-then-is_empty
returns-then-is_empty g c =
    says_within _ _ _ _ _ c.refuse.result
    (record { to = λ text status a. unknown (none_said (λ line. line.now) c.args.paragraphs.now c.is_empty.result c.is_empty.ensures c.if-is_empty.true c.requires.paragraphs) a })
    (λ none. none) c.refuse.ensures

pub returns-in_err-put_paragraphs : goal.returns-in_err-put_paragraphs
returns-in_err-put_paragraphs g c =
    says_failed _ _ _ _ _ c.from_residual.result c.from_residual.ensures.1
    (said_front (flat_map word_line (word_paragraphs c.args.word.now)) (Done (pos 0))
    (explained (some_said (λ line. line.now) c.args.paragraphs.now c.is_empty.result c.is_empty.ensures c.if-is_empty.false c.requires.paragraphs) refl refl)
    (rw c.requires.paragraphs at c.in_err-put_paragraphs.ensures))

pub returns : goal.returns
returns g c =
    said_text (flat_map word_line (word_paragraphs c.args.word.now))
    (explained (some_said (λ line. line.now) c.args.paragraphs.now c.is_empty.result c.is_empty.ensures c.if-is_empty.false c.requires.paragraphs) refl refl)
    (rw c.requires.paragraphs at c.in_ok-put_paragraphs.ensures)
