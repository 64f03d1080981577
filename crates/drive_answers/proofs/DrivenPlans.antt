-- A play that was driven over a wire to a link with the board of its request comes to what the player answers.
use Rattle.std.proofs.Common.{◌≡◌, ◌<◌, ℕ, zero, suc, Bool, false, List, [], ◌++◌, length, drop, codes, slice_get, Option, None, Some, refl, sym, ap, subst, ◌∙◌, arith}
use Rattle.std.specs.Prelude.{IsSomeAnd, slice_index_or}
use Rattle.std.proofs.lemmas.Option.{slice_get-get_or}
use Rattle.dev_card.specs.declared.desc.Desc.{Desc}
use Rattle.dev_card.specs.FarEnds.{FarEnd}
use Rattle.stapl_meaning.specs.declared.events.Ending.{Ending}
use Rattle.stapl_meaning.specs.Plays.{Run}
use Rattle.stapl_meaning.specs.Texts.{events_text, ending_line}
use Rattle.tool_frame.specs.Files.{first_of, second_of}
use Rattle.named_files.specs.Boards.{HasBoard}
use Rattle.play_words.specs.declared.requests.PlayRequest.{PlayRequest}
use Rattle.play_words.specs.declared.requests.FilePlay.{FilePlay}
use Rattle.play_words.specs.declared.requests.Request.TheVariants as requests
use Rattle.play_words.specs.Words.{DevicesReported, word_at, AskAnswer, answer_given, answer_missing}
use Rattle.command_words.specs.KeyedWords.{SaysAnswer}
use Rattle.code_plays.specs.Plays.{done_with}
use Rattle.play_tool.specs.declared.sources.Source.TheVariants.{Program}
use Rattle.play_tool.specs.Answers.{PlayAnswer, WordsAnswer, asked as request_asked}
use Rattle.link_tool.specs.declared.status.LinkStatus.{LinkStatus}
use Rattle.link_tool.specs.Answers.{RequestAnswer}
use Rattle.drive_answers.specs.DrivenRequests.{AsksForPlay, link_contents}
use Rattle.drive_answers.proofs.DrivenAnswers.{driven_answer}
use Rattle.drive_tool.specs.Driven.{Session, IsDriven}
use Rattle.drive_tool.specs.Plans.{Plan, refusal, drive, no_action, bad_choice, bad_place, is_ready, TextPlan, refused, accepted, HeldPlan, RequestPlan, board_refused, board_read, WordsPlan, asked}
use Rattle.drive_tool.specs.Words.{play_words, AskForPlay}

module _ (request : PlayRequest) (contents : List (Option (List ℕ))) (no_report : request.report ≡ false) where
  -- what a request comes to is a refusal, or a play that it asks for
  abbrev ForPlan : Plan → Type 0
  ForPlan (refusal line status) = Unit {0}
  ForPlan (drive pins plays) = (pins ≡ request.pins) × AsksForPlay request contents plays

  plan_of_text : (devices : List Desc) (bytes : List ℕ) (plan : Plan) → HasBoard (first_of contents) devices →
      second_of contents ≡ Some bytes → TextPlan request devices bytes plan → ForPlan plan
  plan_of_text devices bytes _ board held (refused piece line reason fault) = tt
  plan_of_text devices bytes _ board held (accepted program _ is (no_action e)) = tt
  plan_of_text devices bytes _ board held (accepted program _ is (bad_choice e)) = tt
  plan_of_text devices bytes _ board held (accepted program _ is (bad_place procedures e lacks)) = tt
  plan_of_text devices bytes _ board held (accepted program _ is (is_ready procedures e placed)) = (
    refl,
    record {
      no_report = no_report;
      devices = devices;
      board = board;
      bytes = bytes;
      held = held;
      program = program;
      is = is;
      procedures = procedures;
      chosen = e;
      placed = placed;
      plays_are = refl;
    },
  )

  plan_of_held : (devices : List Desc) (held : Option (List ℕ)) (plan : Plan) → HasBoard (first_of contents) devices →
      second_of contents ≡ held → HeldPlan request devices held plan → ForPlan plan
  plan_of_held devices None plan board e h = absurd h
  plan_of_held devices (Some bytes) plan board e h = plan_of_text devices bytes plan board e h

  plan_is : (plan : Plan) → RequestPlan request contents plan → ForPlan plan
  plan_is _ (board_refused line reason fault) = tt
  plan_is plan (board_read devices _ board h) = plan_of_held devices (second_of contents) plan board refl h

answered_alike : (request : PlayRequest) (contents : List (Option (List ℕ))) (sleeps pins : Bool)
    (plays : FarEnd → Run) (session : Session) (ending : Ending) (answers unread : List ℕ)
    (status : LinkStatus) → request.report ≡ false →
    RequestPlan request contents (drive pins plays) → IsDriven sleeps pins plays session ending →
    RequestAnswer (link_contents contents session.sent) answers status → answers ≡ session.received ++ unread →
    PlayAnswer Program request (first_of contents) (second_of contents) session.text (done_with ending)
answered_alike request contents sleeps pins plays session ending answers unread status no_report planned d link
    received =
    let plan = plan_is request contents no_report (drive pins plays) planned in
    let text : session.text ≡ events_text request.pins [] d.events ++ ending_line ending =
    d.wrote ∙ ap (λ (p : Bool). events_text p [] d.events ++ ending_line ending) plan.0 in
    subst (λ (xs : List ℕ). PlayAnswer Program request (first_of contents) (second_of contents) xs (done_with ending))
    (sym text)
    (driven_answer request contents plays plan.1 sleeps d.events ending answers status
    (λ more. record { events_are = d.runs more; ending_is = d.ended more })
    (subst (λ (xs : List ℕ). RequestAnswer (link_contents contents xs) answers status) d.went link)
    (record { unread = unread; parts = received ∙ ap (λ (xs : List ℕ). xs ++ unread) d.came }))

-- a play that is asked for without a report has none
no_report_asked : (words : List (List ℕ)) (play : FilePlay) → AskForPlay words play → play.request.report ≡ false
no_report_asked words play asks = by play.request.report asks.asked.gives.asked.report_asked
  where
    said : (place : ℕ) (answer : Bool) → 0 < place → place < suc (length words) →
        SaysAnswer (codes "report=") (word_at (play_words words) place) answer → ⊥
    said zero answer after before says = absurd (omega (arith, after))
    said (suc m) answer after before says =
        let within : m < length words = omega (arith, before) in
        let there : slice_get words m ≡ Some (slice_index_or words m []) = slice_get-get_or words m [] within in
        asks.no_report m within (
          answer,
          subst (λ (o : Option (List ℕ)). IsSomeAnd o (λ word. SaysAnswer (codes "report=") word answer))
              (sym there) says,
        )

    by : (report : Bool) → AskAnswer (play_words words) DevicesReported report → report ≡ false
    by _ (answer_missing none) = refl
    by _ (answer_given answer given) = absurd (said given.place answer given.after given.before given.gives)

-- the same by the words of both tools
pub words_answered_alike : (words : List (List ℕ)) (contents : List (Option (List ℕ))) (sleeps pins : Bool)
    (plays : FarEnd → Run) (session : Session) (ending : Ending) (answers unread : List ℕ) (status : LinkStatus) →
    WordsPlan words contents sleeps (drive pins plays) → IsDriven sleeps pins plays session ending →
    RequestAnswer (link_contents contents session.sent) answers status → answers ≡ session.received ++ unread →
    (count : ℕ) × WordsAnswer (play_words (drop count words)) (λ request. contents) session.text (done_with ending)
words_answered_alike words contents sleeps pins plays session ending answers unread status
    (asked wire play _ asks same planned) d link received =
    let rest : AskForPlay (drop asks.count words) play = asks.asked in (
      asks.count,
      request_asked (requests.Play play) session.text (done_with ending) rest.asked
          (answered_alike play.request contents sleeps pins plays session ending answers unread status
          (no_report_asked (drop asks.count words) play rest) planned d link received),
    )
