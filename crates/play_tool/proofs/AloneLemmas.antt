-- A play for a run of devices of a chain has the answer of the play on that run alone, if this is quiet, and leaves the
-- same in these devices.
use Rattle.std.proofs.Common.{◌≡◌, ◌≤◌, ◌-◌, ℕ, true, false, Bool, List, [], length, map, zero, suc, take, drop, ◌++◌, ◌&&◌, All, Option, None, Some, nat_le, refl, sym, ap, ◌∙◌, subst, arith}
use Rattle.std.proofs.lemmas.Bool.{and_parts}
use Rattle.std.proofs.lemmas.Bool.Decides.{nat_tests}
use Rattle.std.proofs.lemmas.List.{take_all}
use Rattle.std.specs.Str.Lines.{lines}
use Rattle.stapl_meaning.specs.declared.events.Ending.{Ending}
use Rattle.stapl_meaning.specs.declared.events.Ending.TheVariants as endings
use Rattle.stapl_meaning.specs.Choices.{Choice, chosen, choice_of}
use Rattle.stapl_meaning.specs.Scopes.{Played, as_played}
use Rattle.stapl_meaning.specs.Plays.{Run, play}
use Rattle.stapl_meaning.specs.Texts.{events_text, ending_line, far_report, asked_report, text_of}
use Rattle.dev_card.specs.declared.desc.Desc.{Desc}
use Rattle.dev_card.specs.Card.{fresh}
use Rattle.dev_card.specs.Padding.{in_run}
use Rattle.dev_card.specs.Sound.{SoundCard}
use Rattle.command_words.specs.declared.place_run.PlaceRun.{PlaceRun}
use Rattle.dev_card.specs.Descriptions.{IsGood}
use Rattle.dev_card.specs.FarEnds.{FarEnd, Told, Heard}
use Rattle.dev_card.specs.Reports.{report_of}
use Rattle.board_text.specs.Boards.{IsBoard, devices_of}
use Rattle.board_text.proofs.LineSteps.{all_begun}
use Rattle.board_text.proofs.Faultless.{AreBegun}
use Rattle.board_text.proofs.BoardLemmas.{good_at_end}
use Rattle.padded_plays.specs.QuietPlays.{told_cards, IsQuietPlay}
use Rattle.padded_plays.specs.SamePlays.{cards_from, IsSameText}
use Rattle.padded_plays.proofs.SameTexts.{same_for_run, text_of_run}
use Rattle.chain_sim.specs.Rack.{places_of}
use Rattle.play_words.specs.declared.status.Status.{Status}
use Rattle.play_words.specs.Statuses.{IsOfPlay}
use Rattle.play_words.specs.declared.requests.PlayRequest.{PlayRequest}
use Rattle.play_words.specs.declared.requests.Request.{Request}
use Rattle.play_words.specs.declared.requests.Request.TheVariants.{Play}
use Rattle.play_tool.specs.declared.sources.Source.TheVariants.{Program}
use Rattle.play_tool.specs.Answers.{play_on, PlaysAction, SourceAnswer, WordsAnswer}
use Rattle.named_files.specs.Boards.{HasBoard}
use Rattle.play_tool.specs.Alone.{alone_request, IsQuietAlone, PlaysAlone, DoesAsAlone}
use Rattle.play_tool.specs.FinalRacks.{WordsHoldFinal, AskForPlay}
use Rattle.play_tool.proofs.FinalLemmas.{final_of_words, final_of_board, final_of_bytes, final_of_program, left_of_chosen}
use Rattle.play_tool.proofs.OneChoice.{none_or_chosen, bad_or_chosen, one_choice, has_or_lacks}
use Rattle.play_tool.proofs.AnswerLemmas.{text_of_program, bytes_of_held, devices_of_board, request_of_words}
use Rattle.tool_frame.specs.Answers.{Wrote}
use Rattle.tool_frame.specs.Files.{first_of, second_of}
use Rattle.tool_frame.proofs.AnswerLemmas.{IsWithin, wrote_within}
use Rattle.code_plays.specs.Racks.{far_at, AreLeft}
use Rattle.code_plays.proofs.PlayLemmas.{left_far}
use Rattle.code_plays.specs.Plays.{done_with, has_place, neighbours, reported_far, asked_text, Plays, no_action, bad_choice, bad_place, played, base_at}

-- the devices of a board are good
board_good : (text : List ℕ) (devices : List Desc) → IsBoard text devices → All IsGood devices
board_good text devices b =
    let all = lines text in
    let begun : AreBegun (devices_of (take (length all) all)) = all_begun all (length all) (omega arith) b.faultless in
    good_at_end devices (subst AreBegun (ap devices_of (take_all (length all) all (omega arith)) ∙ sym b.described) begun) b.finished

pub has_good : (held : Option (List ℕ)) (devices : List Desc) → HasBoard held devices → All IsGood devices
has_good None devices h = absurd h
has_good (Some bytes) devices b = board_good bytes devices b

-- how many places a run has
abbrev count_of : PlaceRun → ℕ
count_of run = suc run.last - run.first

-- the report of a run
none_left : (i n : ℕ) → [] ≡ report_of (take n (drop i []))
none_left zero zero = refl
none_left zero (suc n) = refl
none_left (suc i) zero = refl
none_left (suc i) (suc n) = refl

run_report : (run : PlaceRun) (far : FarEnd) → far_report (reported_far (Some run) far) ≡ report_of (cards_from (run.first - 1) (count_of run) far)
run_report run (Told cards) = refl
run_report run (Heard answers) = none_left (run.first - 1) (count_of run)

same_asked : (asked : Bool) (a b : FarEnd) → far_report a ≡ far_report b → asked_report asked a ≡ asked_report asked b
same_asked false a b e = refl
same_asked true a b e = e

-- the texts of both plays
module _ (request : PlayRequest) (run : PlaceRun) (padded alone : Run) (same : IsSameText (run.first - 1) (count_of run) padded alone) where
  same_reports : far_report (reported_far (Some run) padded.chain.far) ≡ far_report alone.chain.far
  same_reports = run_report run padded.chain.far ∙ same.same_report

  same_texts : (ending : Ending) → text_of false padded.events (asked_report request.report (reported_far (Some run) padded.chain.far)) ending
      ≡ text_of false alone.events (asked_report request.report alone.chain.far) ending
  same_texts ending =
      ap (λ (front : List ℕ). front ++ asked_report request.report (reported_far (Some run) padded.chain.far) ++ ending_line ending) same.same_text
      ∙ ap (λ (report : List ℕ). events_text false [] alone.events ++ report ++ ending_line ending) (same_asked request.report _ _ same_reports)

-- a run that a board has begins at its first device or later, is in order, and ends at its last device or earlier
record IsInside (run : PlaceRun) (n : ℕ) : Type 0 where
  pub one : 1 ≤ run.first
  pub order : run.first ≤ run.last
  pub within : run.last ≤ n

is_inside : (run : PlaceRun) (n : ℕ) → (nat_le 1 run.first && nat_le run.first run.last && nat_le run.last n) ≡ true → IsInside run n
is_inside run n h =
    let ends = and_parts (nat_le 1 run.first && nat_le run.first run.last) (nat_le run.last n) h in
    let begins = and_parts (nat_le 1 run.first) (nat_le run.first run.last) ends.0 in
    record { one = grind (arith, nat_tests, begins.0); order = grind (arith, nat_tests, begins.1); within = grind (arith, nat_tests, ends.1) }

-- the play of the action for a run is that on the run alone
module _ (request : PlayRequest) (run : PlaceRun) (devices : List Desc) (program : Played) (choice : Choice) (procedures : List ℕ) (no_pins : request.pins ≡ false)
    (for_run : request.place ≡ Some run) (placed : has_place (Some run) devices ≡ true) (good : All IsGood devices)
    (is_chosen : choice ≡ chosen procedures) (quiet : IsQuietPlay program procedures request.turns (in_run (neighbours run) devices)) where
  abbrev targets : List Desc
  targets = in_run (neighbours run) devices

  abbrev PlaysPadded : List ℕ → Status → Type 0
  PlaysPadded = Plays choice (has_place request.place devices) (play_on program request devices) request

  abbrev PlaysOne : List ℕ → Status → Type 0
  PlaysOne = Plays choice true (play_on program (alone_request request) targets) (alone_request request)

  same_run : (chosen_now : List ℕ) → chosen_now ≡ procedures →
      IsSameText (run.first - 1) (count_of run) (play_on program request devices chosen_now) (play_on program (alone_request request) targets chosen_now)
  same_run chosen_now e =
      subst (λ (p : Option PlaceRun). IsSameText (run.first - 1) (count_of run) (play program chosen_now request.turns (base_at devices p) (Told (map fresh devices)))
      (play_on program (alone_request request) targets chosen_now)) (sym for_run)
      (let inside = is_inside run (length devices) placed in
      text_of_run program chosen_now devices (neighbours run) request.turns request.turns good inside.one inside.order inside.within
      (subst (λ (ps : List ℕ). IsQuietPlay program ps request.turns targets) (sym e) quiet) (omega arith))

  text_alone : (padded alone : Run) (ending : Ending) → IsSameText (run.first - 1) (count_of run) padded alone →
      asked_text request padded.events padded.chain.far ending ≡ asked_text (alone_request request) alone.events alone.chain.far ending
  text_alone padded alone ending same =
      ap (λ (pins : Bool). text_of pins padded.events (asked_report request.report (reported_far request.place padded.chain.far)) ending) no_pins
      ∙ ap (λ (p : Option PlaceRun). text_of false padded.events (asked_report request.report (reported_far p padded.chain.far)) ending) for_run
      ∙ same_texts request run padded alone same ending
      ∙ sym (ap (λ (pins : Bool). text_of pins alone.events (asked_report request.report alone.chain.far) ending) no_pins)

  alone_plays : (text : List ℕ) (status : Status) → PlaysPadded text status → PlaysOne text status
  alone_plays text status (no_action e) = absurd (none_or_chosen e is_chosen)
  alone_plays text status (bad_choice e) = absurd (bad_or_chosen e is_chosen)
  alone_plays text status (bad_place other e lacks) = absurd (has_or_lacks (ap (λ (p : Option PlaceRun). has_place p devices) for_run ∙ placed) lacks)
  alone_plays text status (played other ending e has ended) =
      let same = same_run other (one_choice e is_chosen) in
      subst (λ (bytes : List ℕ). PlaysOne bytes (done_with ending)) (sym (text_alone _ _ ending same))
      (played other ending e refl (sym same.same_ending ∙ ended))

  -- of the board in the rack, the devices of the run are what the play on the run alone leaves
  left_alone : (rack : List (Option SoundCard)) → AreLeft rack (places_of devices) devices (play_on program request devices procedures).chain.far →
      reported_far (Some run) (far_at rack (places_of devices)) ≡ (play_on program (alone_request request) targets procedures).chain.far
  left_alone rack l =
      let left = subst (λ (p : Option PlaceRun). AreLeft rack (places_of devices) devices
      (play program procedures request.turns (base_at devices p) (Told (map fresh devices))).chain.far) for_run l in
      let inside = is_inside run (length devices) placed in
      let same = (same_for_run program procedures devices (neighbours run) request.turns request.turns good inside.one inside.order inside.within quiet (omega arith)).chain in
      let text = text_of_run program procedures devices (neighbours run) request.turns request.turns good inside.one inside.order inside.within quiet (omega arith) in
      ap (reported_far (Some run)) (left_far left ∙ left.told)
      ∙ ap Told (sym (ap (cards_from (run.first - 1) (count_of run)) left.told) ∙ text.same_cards ∙ ap told_cards same.alone_is)
      ∙ sym same.alone_is

action_alone : {words : List (List ℕ)} {contents_of : Request → List (Option (List ℕ))} (q : IsQuietAlone words contents_of) (text : List ℕ) (status : Status) →
    PlaysAction q.play.request q.devices q.program text status → PlaysAlone q text status
action_alone {contents_of = contents_of} q text status a =
    let request = q.play.request in
    alone_plays request q.run q.devices (as_played q.program) (choice_of (as_played q.program) request.action request.todo request.skip) q.procedures q.no_pins q.for_run q.placed
    (has_good (first_of (contents_of (Play q.play))) q.devices q.board) q.choice q.quiet text status a

-- each answer is that of the play alone
pub answers_alone : {words : List (List ℕ)} {contents_of : Request → List (Option (List ℕ))} (q : IsQuietAlone words contents_of) →
    IsWithin (WordsAnswer words contents_of) (PlaysAlone q)
answers_alone {contents_of = contents_of} q = record {
  to = λ text status a.
      let request = (request_of_words {contents_of = contents_of} q.asked).to text status a in
      let held = (devices_of_board {held = first_of (contents_of (Play q.play))} q.devices q.board).to text status request in
      let source = (bytes_of_held (SourceAnswer Program q.play.request q.devices) (second_of (contents_of (Play q.play))) q.bytes q.held).to text status held in
      action_alone q text status ((text_of_program q.program q.is).to text status source);
}

-- the play on the run alone is played
ending_played : (ending : Ending) → IsOfPlay (done_with ending)
ending_played (endings.Exit code) = tt
ending_played (endings.Fault k piece) = tt
ending_played endings.Spent = tt

chosen_played : {choice : Choice} {plays : List ℕ → Run} {request : PlayRequest} {procedures : List ℕ} {text : List ℕ} {status : Status} → choice ≡ chosen procedures →
    Plays choice true plays request text status → IsOfPlay status
chosen_played is (no_action e) = absurd (none_or_chosen e is)
chosen_played is (bad_choice e) = absurd (bad_or_chosen e is)
chosen_played is (bad_place other e lacks) = absurd (has_or_lacks refl lacks)
chosen_played is (played other ending e has ended) = ending_played ending

-- What is done for the words is what the play on the run alone does.
pub does_as_alone : {words : List (List ℕ)} {contents : List (Option (List ℕ))} {before after : Option (List ℕ)} {status : Status} {rack : List (Option SoundCard)}
    (q : IsQuietAlone words (λ request. contents)) → Wrote (WordsAnswer words (λ request. contents)) before after status →
    (AskForPlay words → IsOfPlay status → WordsHoldFinal words contents rack) → DoesAsAlone q before after status rack
does_as_alone {contents = contents} {rack = rack} q wrote leaves =
    let request = q.play.request in
    let alone = wrote_within (answers_alone q) wrote in
    let final = leaves (record { request = Play q.play; asked = q.asked; playing = refl }) (chosen_played q.choice alone.answer) in
    let program = final_of_program q.program q.is (final_of_bytes q.bytes q.held (final_of_board q.devices q.board (final_of_words q.asked final))) in
    record {
      wrote = alone;
      leaves = left_alone request q.run q.devices (as_played q.program) (choice_of (as_played q.program) request.action request.todo request.skip) q.procedures q.no_pins
          q.for_run q.placed (has_good (first_of contents) q.devices q.board) q.choice q.quiet rack (left_of_chosen q.procedures q.choice program);
    }
