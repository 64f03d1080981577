-- The text of a play with its clocks is a trace of its board.
use Rattle.std.proofs.Common.{◌≡◌, ◌-◌, ℕ, suc, true, false, Bool, List, length, map, All, Option, None, Some, sym, ap, ◌∙◌, subst, refl, arith}
use Rattle.std.proofs.lemmas.List.{take_all}
use Rattle.stapl_meaning.specs.declared.events.Event.{Event}
use Rattle.stapl_meaning.specs.declared.events.Ending.{Ending}
use Rattle.stapl_meaning.specs.Choices.{Choice, chosen}
use Rattle.stapl_meaning.specs.Scopes.{as_played}
use Rattle.stapl_meaning.specs.Plays.{Run}
use Rattle.stapl_meaning.specs.Texts.{asked_report, text_of}
use Rattle.dev_card.specs.declared.desc.Desc.{Desc}
use Rattle.dev_card.specs.Descriptions.{IsGood}
use Rattle.dev_card.specs.Card.{Card, fresh}
use Rattle.dev_card.specs.FarEnds.{FarEnd, Told}
use Rattle.dev_card.specs.Reports.{report_of}
use Rattle.dev_card.specs.Sound.{SoundCard}
use Rattle.chain_sim.specs.Rack.{places_of}
use Rattle.pin_lines.specs.Traces.{IsTraceOf, asked_lines}
use Rattle.pin_lines.proofs.Followed.{Follows, RunFollows, play_follows}
use Rattle.pin_lines.proofs.Traces.{trace_of_run}
use Rattle.command_words.specs.declared.place_run.PlaceRun.{PlaceRun}
use Rattle.tool_frame.specs.Answers.{Wrote}
use Rattle.tool_frame.specs.Files.{first_of, second_of}
use Rattle.play_words.specs.declared.status.Status.{Status}
use Rattle.play_words.specs.Statuses.{IsOfPlay}
use Rattle.play_words.specs.declared.requests.PlayRequest.{PlayRequest}
use Rattle.play_words.specs.declared.requests.FilePlay.{FilePlay}
use Rattle.code_plays.specs.Plays.{reported_far, asked_text, base_at, Plays, no_action, bad_choice, bad_place, played, code_play_on}
use Rattle.code_plays.specs.Racks.{far_at, AreLeft}
use Rattle.code_plays.proofs.PlayLemmas.{left_far}
use Rattle.play_tool.specs.declared.sources.Source.{Source}
use Rattle.play_tool.specs.declared.sources.Source.TheVariants.{Program, Code}
use Rattle.play_tool.specs.Answers.{play_on, PlaysAction, TextAnswer, refused, accepted, CodeAnswer, code_refused, code_accepted, SourceAnswer, HeldAnswer, PlayAnswer, RequestAnswer, WordsAnswer}
use Rattle.play_tool.specs.FinalRacks.{TextHoldsFinal, FileOfCodeHoldsFinal, SourceHoldsFinal, HeldFinal, PlayHoldsFinal, RequestHoldsFinal, WordsHoldFinal, IsPlaying, AskForPlay}
use Rattle.play_tool.specs.Traced.{played_from, PlaysWithPins, IsTraced}
use Rattle.play_tool.proofs.AloneLemmas.{has_good}
use Rattle.play_tool.proofs.AnswerLemmas.{devices_of_board, request_of_words}
use Rattle.play_tool.proofs.CodeFollows.{whole_play_follows}
use Rattle.play_tool.proofs.FinalLemmas.{final_of_words, final_of_board, final_of_program, left_of_chosen, final_of_code, left_of_code}

-- a report is that of so many devices after so many others
abbrev first_reported : Option PlaceRun → ℕ
first_reported None = 0
first_reported (Some run) = run.first - 1

abbrev count_reported : Option PlaceRun → List Card → ℕ
count_reported None cards = length cards
count_reported (Some run) cards = suc run.last - run.first

same_lines : (report : Bool) (place : Option PlaceRun) (cards : List Card) →
    asked_lines report (first_reported place) (count_reported place cards) (Told cards) ≡ asked_report report (reported_far place (Told cards))
same_lines false place cards = refl
same_lines true None cards = ap report_of (take_all (length cards) cards (omega arith))
same_lines true (Some run) cards = refl

same_report : (report : Bool) (place : Option PlaceRun) (cards : List Card) (far : FarEnd) → far ≡ Told cards →
    asked_lines report (first_reported place) (count_reported place cards) far ≡ asked_report report (reported_far place far)
same_report report place cards far e =
    ap (asked_lines report (first_reported place) (count_reported place cards)) e ∙ same_lines report place cards
    ∙ sym (ap (λ (f : FarEnd). asked_report report (reported_far place f)) e)

-- a play on a board
module _ (request : PlayRequest) (devices : List Desc) (rack : List (Option SoundCard)) (pins : request.pins ≡ true) (good : All IsGood devices) where
  abbrev IsTrace : List ℕ → Type 0
  IsTrace text = IsTraceOf (map fresh devices) text (far_at rack (places_of devices))

  same_text : (events : List Event) (cards : List Card) (far : FarEnd) (ending : Ending) → far ≡ Told cards →
      text_of true events (asked_lines request.report (first_reported request.place) (count_reported request.place cards) far) ending
      ≡ asked_text request events far ending
  same_text events cards far ending e =
      ap (λ (lines : List ℕ). text_of true events lines ending) (same_report request.report request.place cards far e)
      ∙ sym (ap (λ (b : Bool). text_of b events (asked_report request.report (reported_far request.place far)) ending) pins)

  traced_run : (run : Run) (ending : Ending) → Follows (Told (map fresh devices)) run.events run.chain.far → AreLeft rack (places_of devices) devices run.chain.far →
      IsTrace (asked_text request run.events run.chain.far ending)
  traced_run run ending f l =
      let place = request.place in
      subst IsTrace (same_text run.events l.cards run.chain.far ending l.told)
      (subst (IsTraceOf (map fresh devices)
      (text_of true run.events (asked_lines request.report (first_reported place) (count_reported place l.cards) run.chain.far) ending))
      (sym (left_far l)) (trace_of_run devices run ending request.report (first_reported place) (count_reported place l.cards) good f))

  traced_plays : {choice : Choice} {placed : Bool} (plays : List ℕ → Run) → ((procedures : List ℕ) → RunFollows (Told (map fresh devices)) (plays procedures)) →
      ((procedures : List ℕ) → choice ≡ chosen procedures → AreLeft rack (places_of devices) devices (plays procedures).chain.far) →
      (text : List ℕ) (status : Status) → Plays choice placed plays request text status → IsOfPlay status → IsTrace text
  traced_plays plays follows left text status (no_action e) p = absurd p
  traced_plays plays follows left text status (bad_choice e) p = absurd p
  traced_plays plays follows left text status (bad_place procedures e lacks) p = absurd p
  traced_plays plays follows left text status (played procedures ending e has ended) p =
      traced_run (plays procedures) ending (follows procedures ending ended) (left procedures e)

  traced_text : (bytes text : List ℕ) (status : Status) → TextAnswer (PlaysAction request devices) bytes text status → IsOfPlay status →
      TextHoldsFinal request devices bytes rack → IsTrace text
  traced_text bytes text status (refused piece line reason fault) p h = absurd p
  traced_text bytes text status (accepted program xs s is a) p h =
      traced_plays (play_on (as_played program) request devices)
      (λ procedures. play_follows (as_played program) procedures request.turns (base_at devices request.place) (Told (map fresh devices)))
      (λ procedures e. left_of_chosen procedures e (final_of_program program is h)) text status a p

  traced_code : (bytes text : List ℕ) (status : Status) → CodeAnswer request devices bytes text status → IsOfPlay status →
      FileOfCodeHoldsFinal request devices bytes rack → IsTrace text
  traced_code bytes text status (code_refused offset reason fault) p h = absurd p
  traced_code bytes text status (code_accepted code xs s is a) p h =
      traced_plays (code_play_on code request devices)
      (λ procedures. whole_play_follows code procedures request.turns (base_at devices request.place) (Told (map fresh devices)))
      (λ procedures e. left_of_code procedures e (final_of_code code is h)) text status a p

  traced_source : (source : Source) (bytes text : List ℕ) (status : Status) → SourceAnswer source request devices bytes text status → IsOfPlay status →
      SourceHoldsFinal source request devices bytes rack → IsTrace text
  traced_source Program bytes text status a p h = traced_text bytes text status a p h
  traced_source Code bytes text status a p h = traced_code bytes text status a p h

  traced_held : (source : Source) (held : Option (List ℕ)) (text : List ℕ) (status : Status) → HeldAnswer (SourceAnswer source request devices) held text status →
      IsOfPlay status → HeldFinal (SourceHoldsFinal source request devices) held rack → IsTrace text
  traced_held source None text status a p h = absurd a
  traced_held source (Some bytes) text status a p h = traced_source source bytes text status a p h

-- the play that the words ask for
play_answer : (source : Source) (play : FilePlay) (contents : List (Option (List ℕ))) {text : List ℕ} {status : Status} →
    RequestAnswer (played_from source play) contents text status → PlayAnswer source play.request (first_of contents) (second_of contents) text status
play_answer Program play contents a = a
play_answer Code play contents a = a

play_final : (source : Source) (play : FilePlay) (contents : List (Option (List ℕ))) {rack : List (Option SoundCard)} →
    RequestHoldsFinal (played_from source play) contents rack → PlayHoldsFinal source play.request (first_of contents) (second_of contents) rack
play_final Program play contents h = h
play_final Code play contents h = h

is_playing : (source : Source) (play : FilePlay) → IsPlaying (played_from source play)
is_playing Program play = refl
is_playing Code play = refl

-- What is written for the words is a trace.
pub traced_words : {words : List (List ℕ)} {contents : List (Option (List ℕ))} {before after : Option (List ℕ)} {status : Status} {rack : List (Option SoundCard)}
    (q : PlaysWithPins words (λ request. contents)) → Wrote (WordsAnswer words (λ request. contents)) before after status →
    (AskForPlay words → IsOfPlay status → WordsHoldFinal words contents rack) → IsOfPlay status → Wrote (IsTraced q rack) before after status
traced_words {words = words} {contents = contents} {status = status} {rack = rack} q wrote leaves p =
    let request = play_answer q.source q.play contents ((request_of_words {contents_of = λ request. contents} q.asked).to wrote.text status wrote.answer) in
    let held = (devices_of_board {held = first_of contents} q.devices q.board).to wrote.text status request in
    let asks : AskForPlay words = record { request = played_from q.source q.play; asked = q.asked; playing = is_playing q.source q.play } in
    let final = play_final q.source q.play contents (final_of_words q.asked (leaves asks p)) in
    record {
      text = wrote.text;
      answer = traced_held q.play.request q.devices rack q.pins (has_good (first_of contents) q.devices q.board) q.source (second_of contents) wrote.text status held p
          (final_of_board q.devices q.board final);
      written = wrote.written;
    }
