-- What the player answers to a request is what a play of it over a wire to a link with the same board comes to.
use Rattle.std.proofs.Common.{◌≡◌, ◌<◌, ℕ, Bool, false, List, [], ◌∷◌, ◌++◌, length, Option, None, Some, inl, refl, sym, ap, subst, ◌∙◌, arith}
use Rattle.std.proofs.lemmas.List.{append-nil}
use Rattle.dev_card.specs.declared.desc.Desc.{Desc}
use Rattle.dev_card.specs.Card.{Card}
use Rattle.dev_card.specs.FarEnds.{FarEnd, Told}
use Rattle.stapl_meaning.specs.declared.events.Event.{Event}
use Rattle.stapl_meaning.specs.declared.events.Ending.{Ending}
use Rattle.stapl_meaning.specs.Scopes.{as_played}
use Rattle.stapl_meaning.specs.Plays.{Run, play}
use Rattle.stapl_meaning.specs.Texts.{asked_report, events_text, ending_line, text_of}
use Rattle.named_files.specs.Boards.{HasBoard}
use Rattle.named_files.proofs.BoardLemmas.{one_held, board_or_fault}
use Rattle.tool_frame.specs.Files.{first_of, second_of}
use Rattle.play_words.specs.declared.requests.PlayRequest.{PlayRequest}
use Rattle.play_words.specs.declared.status.Status.{Status}
use Rattle.code_plays.specs.Plays.{done_with, reported_far, asked_text, base_at, played}
use Rattle.play_tool.specs.declared.sources.Source.TheVariants.{Program}
use Rattle.play_tool.specs.Answers.{PlaysAction, SourceAnswer, HeldAnswer, PlayAnswer}
use Rattle.play_tool.proofs.AnswerLemmas.{program_in_text, held_of_bytes, board_of_devices}
use Rattle.link_tool.specs.declared.status.LinkStatus.{LinkStatus}
use Rattle.link_tool.specs.Sessions.{session_answers, board_left}
use Rattle.link_tool.specs.Answers.{new_board, RequestAnswer, board_refused, board_read}
use Rattle.drive_laws.specs.HeardRuns.{HasGone, HasHeard, HasReceived, HasGoneOn}
use Rattle.drive_laws.proofs.LinkedPlays.{gone_on_session}
use Rattle.drive_answers.specs.DrivenRequests.{AsksForPlay, sent_for, link_contents}

-- a board has a device
some_devices : (held : Option (List ℕ)) (devices : List Desc) → HasBoard held devices → 0 < length (new_board devices)
some_devices None devices h = absurd h
some_devices (Some bytes) [] b = absurd (b.finished (inl refl))
some_devices (Some bytes) (d ∷ ds) b = omega arith

-- what the tool of a link answers, for a board of these devices
link_answers : (contents : List (Option (List ℕ))) (devices : List Desc) (sent answers : List ℕ)
    (status : LinkStatus) → HasBoard (first_of contents) devices →
    RequestAnswer (link_contents contents sent) answers status →
    answers ≡ session_answers (new_board devices) sent
link_answers contents devices sent _ _ board (board_refused line reason fault) =
    absurd (board_or_fault (first_of contents) devices line reason board fault)
link_answers contents devices sent answers status board (board_read others text end other a) =
    a.text_is ∙ ap (λ ds. session_answers (new_board ds) sent) (one_held (first_of contents) others devices other board)

-- the text of a play without a report
text_is : (request : PlayRequest) (run : Run) (events : List Event) (ending : Ending) → request.report ≡ false →
    run.events ≡ events →
    asked_text request run.events run.chain.far ending ≡ events_text request.pins [] events ++ ending_line ending
text_is request run events ending no_report same =
    let far : FarEnd = run.chain.far in
    ap (λ (r : Bool). text_of request.pins run.events (asked_report r (reported_far request.place far)) ending) no_report
    ∙ ap (λ (xs : List ℕ). xs ++ ending_line ending) (append-nil (events_text request.pins [] run.events))
    ∙ ap (λ (es : List Event). events_text request.pins [] es ++ ending_line ending) same

module _ (request : PlayRequest) (contents : List (Option (List ℕ))) (plays : FarEnd → Run)
    (q : AsksForPlay request contents plays) where
  -- the answer for the action is the answer to the request
  action_answer : (text : List ℕ) (status : Status) → PlaysAction request q.devices q.program text status →
      PlayAnswer Program request (first_of contents) (second_of contents) text status
  action_answer text status a =
      let held : Option (List ℕ) = second_of contents in
      let answers : List Desc → List ℕ → Status → Type 0 = λ ds. HeldAnswer (SourceAnswer Program request ds) held in
      let read =
      (program_in_text {answers = PlaysAction request q.devices} {bytes = q.bytes} q.program q.is).to text status a in
      let source =
      (held_of_bytes (SourceAnswer Program request q.devices) held q.bytes q.held).to text status read in
      (board_of_devices {held = first_of contents} {answers = answers} q.devices q.board).to text status source

  abbrev own : FarEnd → Run
  own far = play (as_played q.program) q.procedures request.turns (base_at q.devices request.place) far

  -- a play on the board of the request
  play_answer : (events : List Event) (ending : Ending) → HasGone (own (Told (new_board q.devices))) events ending →
      PlayAnswer Program request (first_of contents) (second_of contents)
      (events_text request.pins [] events ++ ending_line ending) (done_with ending)
  play_answer events ending g =
      let run : Run = own (Told (new_board q.devices)) in
      subst
      (λ (text : List ℕ). PlayAnswer Program request (first_of contents) (second_of contents) text (done_with ending))
      (text_is request run events ending q.no_report g.events_are)
      (action_answer (asked_text request run.events run.chain.far ending) (done_with ending)
      (played q.procedures ending q.chosen q.placed g.ending_is))

  pub driven_answer : (sleeps : Bool) (events : List Event) (ending : Ending) (answers : List ℕ) (status : LinkStatus) →
      HasHeard plays events ending → RequestAnswer (link_contents contents (sent_for sleeps events)) answers status →
      HasReceived events answers →
      PlayAnswer Program request (first_of contents) (second_of contents)
      (events_text request.pins [] events ++ ending_line ending) (done_with ending)
  driven_answer sleeps events ending answers status heard link received =
      let board : List Card = new_board q.devices in
      let told : answers ≡ session_answers board (sent_for sleeps events) =
      link_answers contents q.devices (sent_for sleeps events) answers status q.board link in
      let g : HasGoneOn own board events ending (board_left board (sent_for sleeps events)) =
      gone_on_session (as_played q.program) q.procedures request.turns (base_at q.devices request.place) board events
      ending (some_devices (first_of contents) q.devices q.board) sleeps
      (subst (λ p. HasHeard p events ending) q.plays_are heard)
      (record { unread = received.unread; parts = sym told ∙ received.parts }) in
      play_answer events ending g.gone
