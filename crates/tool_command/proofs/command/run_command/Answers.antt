use Rattle.std.proofs.Common.{◌≡◌, ◌∙◌, sym, ap, map, string_bytes, Global, List, ℕ, None, Some}
use Rattle.std.proofs.lemmas.Bool.{false≢true}
use Rattle.std.specs.Option.{option_map}
use Rattle.tool_frame.proofs.AnswerLemmas.{wrote_within, front_within_written}
use Rattle.tool_frame.proofs.FileLemmas.{of_files_as, picks_within}
use Rattle.tool_frame.specs.Files.{first_of}
use Rattle.tool_frame.specs.declared.no_answer.NoAnswer.TheVariants.{Read, Write, Memory}
use Rattle.play_words.specs.declared.mode.Mode.TheVariants as modes
use Rattle.play_words.specs.Words.{mode_of}
use Rattle.play_tool.specs.Answers.{WordsAnswer}
use Rattle.play_tool.specs.Traced.{played_from}
use Rattle.play_tool.proofs.RequestLemmas.{of_any_words}
use Rattle.tool_questions.specs.Statuses.{question_status}
use Rattle.tool_frame.specs.Commands.{text_asked, shown}
use Rattle.tool_frame.proofs.ShownLemmas.{tool_answers}
use Rattle.play_words.specs.declared.help.TheConstants.{HELP, VERSION}
use Rattle.tool_command.specs.Commands.{by_tool, by_question, files_of_request, file_of_question, files_of_why}
use Rattle.tool_command.proofs.CommandLemmas.{has_no_mode}
use Rattle.tool_command.proofs.QuestionLemmas.{run_wrote, run_failed, failed_wrote}
use Rattle.tool_command.proofs.WhyLemmas.{why_no_question, why_not_of_tool, question_not_of_tool, same_rest, none_after, why_status, why_rack, play_rack}
use Rattle.tool_command.proofs.command.run_command.Goals as goal

pub returns-in-Ok-clause-answer : goal.returns-in-Ok-clause-answer
returns-in-Ok-clause-answer g c = λ _ _.
    let words : List (List ℕ) = map (string_bytes {Z = Global}) c.args.words.now in
    let text : text_asked HELP.now VERSION.now words ≡ Some c.in-Some-text_asked.text.now = sym c.text_asked.ensures ∙ ap (option_map (λ text. text.now)) c.in-Some-text_asked.is in
    of_any_words (g.S.Shelf.told c.args.shelf.now) words (λ contents. record {
      wrote = record { text = c.in-Some-text_asked.text.now; answer = shown c.in-Some-text_asked.text.now text; written = c.in-Ok.ensures.ok };
      leaves = λ playing. absurd (has_no_mode words c.in-Some-text_asked.text.now (mode_of playing.request) text playing.asked.mode);
      alone = λ q. absurd (has_no_mode words c.in-Some-text_asked.text.now modes.Play text q.asked.mode);
      compiled = λ q. absurd (has_no_mode words c.in-Some-text_asked.text.now modes.Run text q.asked.mode);
      traced = λ q. absurd (has_no_mode words c.in-Some-text_asked.text.now (mode_of (played_from q.source q.play)) text q.asked.mode);
    })

pub returns-in-Err-clause-write : goal.returns-in-Err-clause-write
returns-in-Err-clause-write g c = λ _.
    let words : List (List ℕ) = map (string_bytes {Z = Global}) c.args.words.now in
    let text : text_asked HELP.now VERSION.now words ≡ Some c.in-Some-text_asked.text.now = sym c.text_asked.ensures ∙ ap (option_map (λ text. text.now)) c.in-Some-text_asked.is in
    record {
      cause = c.in-Err.ensures.cause.failed;
      front = record {
        of_answer = λ _. of_any_words (g.S.Shelf.told c.args.shelf.now) words (λ contents.
            record { text = c.in-Some-text_asked.text.now; status = _; answer = shown c.in-Some-text_asked.text.now text; front = c.in-Err.ensures.front });
        of_question = λ asks. absurd (false≢true (sym c.if-ask_question.false ∙ c.ask_question.ensures ∙ asks));
        of_why = λ rest e. absurd (none_after c.words_after.result c.in_default.is c.words_after.ensures.none rest e);
      };
    }

pub returns-in-None-clause-answer : goal.returns-in-None-clause-answer
returns-in-None-clause-answer g c = λ works _.
    let words : List (List ℕ) = map (string_bytes {Z = Global}) c.args.words.now in
    let none : text_asked HELP.now VERSION.now words ≡ None = sym c.text_asked.ensures ∙ ap (option_map (λ text. text.now)) c.in-None.is in
    of_files_as (λ contents a. record {
      wrote = wrote_within (tool_answers HELP.now VERSION.now _ (WordsAnswer words (λ request. contents)) words none) a.wrote;
      leaves = a.leaves;
      alone = a.alone;
      compiled = a.compiled;
      traced = a.traced;
    }) (c.run_tool.ensures.answer works)

pub returns-in-None-clause-write : goal.returns-in-None-clause-write
returns-in-None-clause-write g c = λ fault.
    let words : List (List ℕ) = map (string_bytes {Z = Global}) c.args.words.now in
    let none : text_asked HELP.now VERSION.now words ≡ None = sym c.text_asked.ensures ∙ ap (option_map (λ text. text.now)) c.in-None.is in
    let failed = c.run_tool.ensures.write fault in
    record {
      cause = failed.cause;
      front = record {
        of_answer = λ _. of_files_as (λ contents a.
            front_within_written (tool_answers HELP.now VERSION.now _ (WordsAnswer words (λ request. contents)) words none) a) failed.front;
        of_question = λ asks. absurd (false≢true (sym c.if-ask_question.false ∙ c.ask_question.ensures ∙ asks));
        of_why = λ rest e. absurd (none_after c.words_after.result c.in_default.is c.words_after.ensures.none rest e);
      };
    }

pub returns-in-None-clause-read : goal.returns-in-None-clause-read
returns-in-None-clause-read g c = λ fault.
    let failed = c.run_tool.ensures.read fault in
    record {
      cause = record { path = failed.cause.path; is_reached = by_tool failed.cause.is_reached; rose = failed.cause.rose };
      nothing = failed.nothing;
    }

pub returns-in-None-clause-kept : goal.returns-in-None-clause-kept
returns-in-None-clause-kept g c =
    let kept = c.run_tool.ensures.kept in
    record {
      once = picks_within (λ named names. files_of_request (sym c.ask_question.ensures ∙ c.if-ask_question.false) names) kept.once;
      files = kept.files;
      of_files = kept.of_files;
      of_sink = kept.of_sink;
    }

pub returns-in-Ok-clause-why : goal.returns-in-Ok-clause-why
returns-in-Ok-clause-why g c = λ works rest e. absurd (none_after c.words_after.result c.in_default.is c.words_after.ensures.none rest e)

pub returns-in-Err-clause-why : goal.returns-in-Err-clause-why
returns-in-Err-clause-why g c = λ works rest e. absurd (none_after c.words_after.result c.in_default.is c.words_after.ensures.none rest e)

pub returns-in-None-clause-why : goal.returns-in-None-clause-why
returns-in-None-clause-why g c = λ works rest e. absurd (none_after c.words_after.result c.in_default.is c.words_after.ensures.none rest e)

pub returns-in-None-clause-rack : goal.returns-in-None-clause-rack
returns-in-None-clause-rack g c = play_rack c.run_tool.ensures.rack

-- A question.

pub returns-then-ask_question-clause-kept : goal.returns-then-ask_question-clause-kept
returns-then-ask_question-clause-kept g c =
    let kept = c.run.ensures.shelf in
    record {
      once = picks_within (λ named names. file_of_question (sym c.ask_question.ensures ∙ c.if-ask_question.true) names) kept.once;
      files = kept.keeps;
      of_files = kept.later;
      of_sink = c.run.ensures.sink.later;
    }

pub returns-then-ask_question-clause-answer : goal.returns-then-ask_question-clause-answer
returns-then-ask_question-clause-answer g c = λ works tool. absurd (question_not_of_tool (map (string_bytes {Z = Global}) c.args.words.now) (sym c.ask_question.ensures ∙ c.if-ask_question.true) tool)

pub returns-then-ask_question-clause-question : goal.returns-then-ask_question-clause-question
returns-then-ask_question-clause-question g c = λ works asks.
    of_files_as (λ contents ran. rw c.status_of.ensures (run_wrote c.run.result ran.written (rw c.status_of.ensures at works))) c.run.ensures.ran

pub returns-then-ask_question-clause-read : goal.returns-then-ask_question-clause-read
returns-then-ask_question-clause-read g c = λ e.
    let ran = c.run.ensures.ran in
    let answers = question_status (first_of ran.contents) (map (string_bytes {Z = Global}) c.args.words.now) in
    let same = sym c.status_of.ensures ∙ e in
    let cause = c.run.ensures.shelf.read (run_failed answers _ _ c.run.result Read ran.holds.written same) in
    record {
      cause = record { path = cause.path; is_reached = by_question cause.is_reached; rose = cause.rose };
      nothing = failed_wrote answers _ _ c.run.result Read ran.holds.written same;
    }

pub returns-then-ask_question-clause-write : goal.returns-then-ask_question-clause-write
returns-then-ask_question-clause-write g c = λ e.
    let ran = c.run.ensures.ran in
    let words : List (List ℕ) = map (string_bytes {Z = Global}) c.args.words.now in
    let same = sym c.status_of.ensures ∙ e in
    record {
      cause = c.run.ensures.sink.write (run_failed (question_status (first_of ran.contents) words) _ _ c.run.result Write ran.holds.written same);
      front = record {
        of_answer = λ tool. absurd (question_not_of_tool (map (string_bytes {Z = Global}) c.args.words.now) (sym c.ask_question.ensures ∙ c.if-ask_question.true) tool);
        of_why = λ rest e. absurd (why_no_question e (sym c.ask_question.ensures ∙ c.if-ask_question.true));
        of_question = λ asks. of_files_as (λ contents ran. failed_wrote (question_status (first_of contents) words) _ _ c.run.result Write ran.written same) ran;
      };
    }

pub returns-then-ask_question-clause-memory : goal.returns-then-ask_question-clause-memory
returns-then-ask_question-clause-memory g c = λ e.
    let ran = c.run.ensures.ran in
    failed_wrote (question_status (first_of ran.contents) (map (string_bytes {Z = Global}) c.args.words.now)) _ _ c.run.result Memory ran.holds.written (sym c.status_of.ensures ∙ e)

pub returns-then-ask_question-clause-why : goal.returns-then-ask_question-clause-why
returns-then-ask_question-clause-why g c = λ works rest e. absurd (why_no_question e (sym c.ask_question.ensures ∙ c.if-ask_question.true))

-- Words that ask why.

pub returns-in-Some-clause-answer : goal.returns-in-Some-clause-answer
returns-in-Some-clause-answer g c = λ works tool. absurd (why_not_of_tool (rw c.in-Some.is at c.words_after.ensures.some) tool)

pub returns-in-Some-clause-question : goal.returns-in-Some-clause-question
returns-in-Some-clause-question g c = λ works asks. absurd (why_no_question (rw c.in-Some.is at c.words_after.ensures.some) asks)

pub returns-in-Some-clause-why : goal.returns-in-Some-clause-why
returns-in-Some-clause-why g c = λ works rest e.
    rw (same_rest e (rw c.in-Some.is at c.words_after.ensures.some))
    (of_files_as (λ contents ran. rw c.status_of-in-Some.ensures (run_wrote c.run_why.result ran (rw c.status_of-in-Some.ensures at works))) c.run_why.ensures.ran)

pub returns-in-Some-clause-read : goal.returns-in-Some-clause-read
returns-in-Some-clause-read g c = λ e.
    let ran = c.run_why.ensures.ran in
    absurd (c.run_why.ensures.no_read
    (run_failed (why_status _ (map (string_bytes {Z = Global}) c.in-Some.rest.now) ran.contents) _ _ c.run_why.result Read ran.holds (sym c.status_of-in-Some.ensures ∙ e)))

pub returns-in-Some-clause-write : goal.returns-in-Some-clause-write
returns-in-Some-clause-write g c = λ e.
    let ran = c.run_why.ensures.ran in
    let words = rw c.in-Some.is at c.words_after.ensures.some in
    let same = sym c.status_of-in-Some.ensures ∙ e in
    let rest : List (List ℕ) = map (string_bytes {Z = Global}) c.in-Some.rest.now in
    record {
      cause = c.run_why.ensures.sink.write (run_failed (why_status _ rest ran.contents) _ _ c.run_why.result Write ran.holds same);
      front = record {
        of_answer = λ tool. absurd (why_not_of_tool words tool);
        of_question = λ asks. absurd (why_no_question words asks);
        of_why = λ others f. rw (same_rest f words)
            (of_files_as (λ contents ran. failed_wrote (why_status _ rest contents) _ _ c.run_why.result Write ran same) ran);
      };
    }

pub returns-in-Some-clause-memory : goal.returns-in-Some-clause-memory
returns-in-Some-clause-memory g c = λ e.
    let ran = c.run_why.ensures.ran in
    failed_wrote (why_status _ (map (string_bytes {Z = Global}) c.in-Some.rest.now) ran.contents) _ _ c.run_why.result Memory ran.holds (sym c.status_of-in-Some.ensures ∙ e)

pub returns-in-Some-clause-kept : goal.returns-in-Some-clause-kept
returns-in-Some-clause-kept g c =
    let kept = c.run_why.ensures.files in
    record {
      once = picks_within (λ named names. files_of_why (map (string_bytes {Z = Global}) c.in-Some.rest.now) (rw c.in-Some.is at c.words_after.ensures.some) names) kept.once;
      files = kept.keeps;
      of_files = kept.later;
      of_sink = c.run_why.ensures.sink.later;
    }

pub returns-in-Some-clause-rack : goal.returns-in-Some-clause-rack
returns-in-Some-clause-rack g c =
    rw c.status_of-in-Some.ensures
    (why_rack c.run_why.result (rw c.in-Some.is at c.words_after.ensures.some) c.run_why.ensures.no_read c.run_why.ensures.rack)
