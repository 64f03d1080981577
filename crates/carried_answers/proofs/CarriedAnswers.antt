-- What is written of a play with base padding is written of the play of the text that carries it, and the status is the
-- same.
use Rattle.std.proofs.Common.{◌≡◌, ◌≤◌, ◌↔◌, ℕ, Bool, true, false, List, [], ◌∷◌, All, Option, None, Some, length, map, refl, sym, ap, ◌∙◌, subst, arith}
use Rattle.std.proofs.lemmas.Bool.{true≢false}
use Rattle.std.proofs.lemmas.List.{take_all}
use Rattle.std.specs.Str.Lines.{lines}
use Rattle.stapl_syntax.specs.Programs.{IsProgram}
use Rattle.stapl_syntax.specs.Trees.{StmtTree}
use Rattle.dev_card.specs.declared.desc.Desc.{Desc}
use Rattle.dev_card.specs.Board.{most_devices}
use Rattle.dev_card.specs.Card.{fresh}
use Rattle.dev_card.specs.Descriptions.{IsGood}
use Rattle.dev_card.specs.FarEnds.{Told}
use Rattle.board_text.specs.Boards.{IsBoard, devices_of}
use Rattle.board_text.proofs.LineSteps.{all_begun}
use Rattle.board_text.proofs.Faultless.{AreBegun}
use Rattle.board_text.proofs.BoardLemmas.{good_at_end}
use Rattle.stapl_meaning.specs.declared.events.Ending.{Ending}
use Rattle.stapl_meaning.specs.Choices.{Choice, choice_of}
use Rattle.stapl_meaning.specs.Choices as choices
use Rattle.stapl_meaning.specs.Plays.{Run, play, ending_of}
use Rattle.stapl_meaning.specs.Scopes.{as_played}
use Rattle.stapl_meaning.specs.Texts.{asked_report, text_of}
use Rattle.command_words.specs.declared.place_run.PlaceRun.{PlaceRun}
use Rattle.named_files.specs.Boards.{HasBoard}
use Rattle.play_words.specs.declared.status.Status.{Status}
use Rattle.tool_frame.specs.Files.{first_of, second_of}
use Rattle.play_words.specs.declared.requests.PlayRequest.{PlayRequest}
use Rattle.code_plays.specs.Plays.{done_with, has_place, neighbours, reported_far, asked_text, base_at, Plays, no_action, bad_choice, bad_place, played}
use Rattle.play_tool.specs.declared.sources.Source.TheVariants.{Program}
use Rattle.play_tool.specs.Answers.{PlaysAction, SourceAnswer, HeldAnswer, PlayAnswer}
use Rattle.play_tool.proofs.AnswerLemmas.{text_of_program, program_in_text, bytes_of_held, held_of_bytes, devices_of_board, board_of_devices}
use Rattle.carried_plays.specs.CarriedPrograms.{padding_number, choice_with}
use Rattle.carried_padding.specs.CarriedPadding.{AreSamePlays, CarriesPaddingOf}
use Rattle.carried_answers.specs.CarriedRequests.{carried_request, IsCarriedRequest}

-- ---- the board

begun : (text : List ℕ) (devices : List Desc) → IsBoard text devices → AreBegun devices
begun text devices b =
    let all = lines text in
    subst AreBegun (ap devices_of (take_all (length all) all (omega arith)) ∙ sym b.described) (all_begun all (length all) (omega arith) b.faultless)

pub devices_good : (held : Option (List ℕ)) (devices : List Desc) → HasBoard held devices → All IsGood devices
devices_good None devices h = absurd h
devices_good (Some bytes) devices b = good_at_end devices (begun bytes devices b) b.finished

pub devices_few : (held : Option (List ℕ)) (devices : List Desc) → HasBoard held devices → length devices ≤ most_devices
devices_few None devices h = absurd h
devices_few (Some bytes) devices b = (begun bytes devices b).few

-- ---- an action that is played

no_action_only : (p : ℕ) (x : Choice) → choice_with p x ≡ choices.no_action → x ≡ choices.no_action
no_action_only p choices.no_action e = refl
no_action_only p choices.bad_choice e = absurd cc
no_action_only p (choices.chosen ps) e = absurd cc

bad_choice_only : (p : ℕ) (x : Choice) → choice_with p x ≡ choices.bad_choice → x ≡ choices.bad_choice
bad_choice_only p choices.no_action e = absurd cc
bad_choice_only p choices.bad_choice e = refl
bad_choice_only p (choices.chosen ps) e = absurd cc

-- what was chosen without the new procedure
record ChosenAfter (p : ℕ) (x : Choice) (ps : List ℕ) : Type 0 where
  others : List ℕ
  are : x ≡ choices.chosen others
  whole : p ∷ others ≡ ps

chosen_only : (p : ℕ) (x : Choice) (ps : List ℕ) → choice_with p x ≡ choices.chosen ps → ChosenAfter p x ps
chosen_only p choices.no_action ps e = absurd cc
chosen_only p choices.bad_choice ps e = absurd cc
chosen_only p (choices.chosen qs) ps e = record { others = qs; are = refl; whole = inner e }
  where
    inner : choices.chosen (p ∷ qs) ≡ choices.chosen ps → p ∷ qs ≡ ps
    inner e = cc

module _ (request : PlayRequest) (no_report : request.report ≡ false) (p : ℕ) (old new : Choice) (same : new ≡ choice_with p old) (placed : Bool) (there : placed ≡ true)
    (old_play new_play : List ℕ → Run) (plays : (ps : List ℕ) → old ≡ choices.chosen ps → AreSamePlays (old_play ps) (new_play (p ∷ ps))) where
  abbrev PlaysOld : List ℕ → Status → Type 0
  PlaysOld = Plays old placed old_play request

  abbrev PlaysNew : List ℕ → Status → Type 0
  PlaysNew = Plays new true new_play (carried_request request)

  text_same : (a b : Run) (ending : Ending) → AreSamePlays a b →
      asked_text request a.events a.chain.far ending ≡ asked_text (carried_request request) b.events b.chain.far ending
  text_same a b ending s =
      ap (λ (r : Bool). text_of request.pins a.events (asked_report r (reported_far request.place a.chain.far)) ending) no_report
      ∙ ap (λ es. text_of request.pins es [] ending) (sym s.same_events)
      ∙ sym (ap (λ (r : Bool). text_of request.pins b.events (asked_report r (reported_far None b.chain.far)) ending) no_report)

  pub to_new : (text : List ℕ) (status : Status) → PlaysOld text status → PlaysNew text status
  to_new text status (no_action e) = no_action (same ∙ ap (choice_with p) e)
  to_new text status (bad_choice e) = bad_choice (same ∙ ap (choice_with p) e)
  to_new text status (bad_place ps e lacks) = absurd (true≢false (sym there ∙ lacks))
  to_new text status (played ps ending e has ended) =
      let s : AreSamePlays (old_play ps) (new_play (p ∷ ps)) = plays ps e in
      subst (λ (bytes : List ℕ). PlaysNew bytes (done_with ending)) (sym (text_same (old_play ps) (new_play (p ∷ ps)) ending s))
      (played (p ∷ ps) ending (same ∙ ap (choice_with p) e) refl (ap ending_of s.same_outcome ∙ ended))

  pub to_old : (text : List ℕ) (status : Status) → PlaysNew text status → PlaysOld text status
  to_old text status (no_action e) = no_action (no_action_only p old (sym same ∙ e))
  to_old text status (bad_choice e) = bad_choice (bad_choice_only p old (sym same ∙ e))
  to_old text status (bad_place ps e lacks) = absurd (true≢false lacks)
  to_old text status (played ps ending e has ended) =
      let c : ChosenAfter p old ps = chosen_only p old ps (sym same ∙ e) in
      let s : AreSamePlays (old_play c.others) (new_play (p ∷ c.others)) = plays c.others c.are in
      let over : ending_of (new_play (p ∷ c.others)).outcome ≡ Some ending = ap (λ qs. ending_of (new_play qs).outcome) c.whole ∙ ended in
      subst (λ (qs : List ℕ). PlaysOld (asked_text (carried_request request) (new_play qs).events (new_play qs).chain.far ending) (done_with ending)) c.whole
      (subst (λ (bytes : List ℕ). PlaysOld bytes (done_with ending)) (text_same (old_play c.others) (new_play (p ∷ c.others)) ending s)
      (played c.others ending c.are there (sym (ap ending_of s.same_outcome) ∙ over)))

-- ---- the answer to a play of a program

module _ (request : PlayRequest) (board held : Option (List ℕ)) (devices : List Desc) (has : HasBoard board devices) (bytes : List ℕ) (is_held : held ≡ Some bytes)
    (program : List StmtTree) (is : IsProgram bytes program) where
  answer_action : (text : List ℕ) (status : Status) → PlayAnswer Program request board held text status → PlaysAction request devices program text status
  answer_action text status a =
      let source = (devices_of_board {held = board} {answers = λ (ds : List Desc). HeldAnswer (SourceAnswer Program request ds) held} devices has).to text status a in
      let read = (bytes_of_held (SourceAnswer Program request devices) held bytes is_held).to text status source in
      (text_of_program {answers = PlaysAction request devices} program is).to text status read

  action_answer : (text : List ℕ) (status : Status) → PlaysAction request devices program text status → PlayAnswer Program request board held text status
  action_answer text status a =
      let read = (program_in_text {answers = PlaysAction request devices} {bytes = bytes} program is).to text status a in
      let source = (held_of_bytes (SourceAnswer Program request devices) held bytes is_held).to text status read in
      (board_of_devices {held = board} {answers = λ (ds : List Desc). HeldAnswer (SourceAnswer Program request ds) held} devices has).to text status source

-- ---- both

pub answered_alike : (request : PlayRequest) (contents : List (Option (List ℕ))) (new : List ℕ) (q : IsCarriedRequest request contents new) →
    CarriesPaddingOf q.devices (neighbours q.run) q.program q.own → (text : List ℕ) (status : Status) →
    PlayAnswer Program request (first_of contents) (second_of contents) text status ↔ PlayAnswer Program (carried_request request) (first_of contents) (Some new) text status
answered_alike request contents new q carries text status =
    let p : ℕ = padding_number q.program in
    let old : Choice = choice_of (as_played q.program) request.action request.todo request.skip in
    let other : Choice = choice_of (as_played q.own) request.action request.todo request.skip in
    let same : other ≡ choice_with p old = carries.choices request.action request.todo request.skip in
    let old_play : List ℕ → Run = λ ps. play (as_played q.program) ps request.turns (base_at q.devices request.place) (Told (map fresh q.devices)) in
    let new_play : List ℕ → Run = λ ps. play (as_played q.own) ps (carried_request request).turns (base_at q.devices None) (Told (map fresh q.devices)) in
    let alike : (ps : List ℕ) → old ≡ choices.chosen ps → AreSamePlays (old_play ps) (new_play (p ∷ ps)) =
    λ ps e. subst (λ (at : Option PlaceRun). AreSamePlays (play (as_played q.program) ps request.turns (base_at q.devices at) (Told (map fresh q.devices))) (new_play (p ∷ ps)))
    (sym q.for_run) (carries.plays request.action request.todo request.skip ps e request.turns) in
    let there : has_place request.place q.devices ≡ true = ap (λ (at : Option PlaceRun). has_place at q.devices) q.for_run ∙ q.placed in (
      λ a. action_answer (carried_request request) (first_of contents) (Some new) q.devices q.board new refl q.own q.read text status
          (to_new request q.no_report p old other same (has_place request.place q.devices) there old_play new_play alike text status
          (answer_action request (first_of contents) (second_of contents) q.devices q.board q.bytes q.held q.program q.is text status a)),
      λ a. action_answer request (first_of contents) (second_of contents) q.devices q.board q.bytes q.held q.program q.is text status
          (to_old request q.no_report p old other same (has_place request.place q.devices) there old_play new_play alike text status
          (answer_action (carried_request request) (first_of contents) (Some new) q.devices q.board new refl q.own q.read text status a)),
    )
