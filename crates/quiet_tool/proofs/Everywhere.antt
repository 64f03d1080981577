-- What is quiet on its devices alone is played alike at each place of each board that has them in a row.
use Rattle.std.proofs.Common.{◌≡◌, ◌∙◌, ℕ, zero, suc, ◌<◌, Bool, List, Option, None, Some, Contains, slice_index_or, length, arith, refl, sym, subst}
use Rattle.std.proofs.lemmas.Option.{same_Some}
use Rattle.stapl_syntax.specs.Trees.{StmtTree}
use Rattle.stapl_syntax.specs.Programs.{IsProgram}
use Rattle.stapl_checker.proofs.UniqueLemmas.{one_program}
use Rattle.stapl_meaning.specs.Choices.{Choice, chosen, choice_of}
use Rattle.stapl_meaning.specs.Scopes.{Played, as_played}
use Rattle.dev_card.specs.declared.desc.Desc.{Desc}
use Rattle.dev_card.specs.Padding.{in_run}
use Rattle.padded_plays.specs.QuietPlays.{IsQuietPlay}
use Rattle.tool_frame.specs.Files.{first_of, second_of}
use Rattle.tool_frame.proofs.AnswerLemmas.{IsWithin}
use Rattle.named_files.specs.Boards.{HasBoard}
use Rattle.named_files.proofs.BoardLemmas.{one_held}
use Rattle.play_words.specs.declared.requests.PlayRequest.{PlayRequest}
use Rattle.code_plays.specs.Plays.{neighbours}
use Rattle.play_words.specs.declared.status.Status.{Status}
use Rattle.play_tool.specs.Answers.{PlaysAction}
use Rattle.play_tool.specs.Answers as plays
use Rattle.play_tool.specs.Alone.{alone_request, IsQuietAlone}
use Rattle.play_tool.proofs.AloneLemmas.{answers_alone}
use Rattle.quiet_tool.specs.declared.status.QuietStatus.{QuietStatus}
use Rattle.quiet_tool.specs.declared.status.QuietStatus.TheVariants.{Quiet, NotQuiet, Refused, BoardRefused, NoAction, BadChoice, BadPlace, Usage}
use Rattle.quiet_tool.specs.declared.words.Actions.{Actions}
use Rattle.quiet_tool.specs.declared.words.Actions.TheVariants.{Named, Each}
use Rattle.quiet_tool.specs.declared.words.Question.{Question}
use Rattle.quiet_tool.specs.Statuses.{first_unquiet}
use Rattle.quiet_tool.specs.Words.{Ask}
use Rattle.quiet_tool.specs.Answers.{run_of, VerdictAnswer, quiet, unquiet, ChoiceAnswer, no_action, bad_choice, bad_place, judged, actions_of, ActionsAnswer, no_more, one_more, ProgramAnswer, TextAnswer, refused, accepted, HeldAnswer, RequestAnswer, board_refused, board_read, QuestionAnswer, WordsAnswer, usage, asked}
use Rattle.quiet_tool.specs.Elsewhere.{IsAskedAction, PlaysElsewhere, IsAsAlone, IsQuietEverywhere, PromisedAnswer}
use Rattle.quiet_tool.proofs.WordLemmas.{one_asked}

-- what an answer says that the play of this action is quiet
record IsFound (request : PlayRequest) (action : List ℕ) (devices : List Desc) (source : Option (List ℕ)) : Type 0 where
  pub bytes : List ℕ
  pub held : source ≡ Some bytes
  pub program : List StmtTree
  pub is : IsProgram bytes program
  pub procedures : List ℕ
  pub choice : choice_of (as_played program) action request.todo request.skip ≡ chosen procedures
  pub quiet : IsQuietPlay (as_played program) procedures request.turns (run_of request.place devices)

-- the procedures whose play is quiet
record IsChosenQuiet (program : Played) (choice : Choice) (n : ℕ) (run : List Desc) : Type 0 where
  pub procedures : List ℕ
  pub are_chosen : choice ≡ chosen procedures
  pub quiet : IsQuietPlay program procedures n run

verdict_found : {bytes : List ℕ} {program : Played} {procedures : List ℕ} {n : ℕ} {run : List Desc} {text : List ℕ} {status : QuietStatus} →
    VerdictAnswer bytes program procedures n run text status → status ≡ Quiet → IsQuietPlay program procedures n run
verdict_found (quiet ending q ended) e = q
verdict_found (unquiet turn piece line why first within at) e = absurd cc

choice_found : {bytes : List ℕ} {program : Played} {choice : Choice} {placed : Bool} {n : ℕ} {run : List Desc} {text : List ℕ} {status : QuietStatus} →
    ChoiceAnswer bytes program choice placed n run text status → status ≡ Quiet → IsChosenQuiet program choice n run
choice_found (no_action f) e = absurd cc
choice_found (bad_choice f) e = absurd cc
choice_found (bad_place procedures f lacks) e = absurd cc
choice_found (judged procedures text status f has v) e = record { procedures = procedures; are_chosen = f; quiet = verdict_found v e }

-- if these are quiet together, each of them is
quiet_first : (status others : QuietStatus) → first_unquiet status others ≡ Quiet → status ≡ Quiet
quiet_first Quiet others e = refl
quiet_first (NotQuiet turn piece why) others e = e
quiet_first (Refused piece reason) others e = e
quiet_first (BoardRefused line reason) others e = e
quiet_first NoAction others e = e
quiet_first BadChoice others e = e
quiet_first BadPlace others e = e
quiet_first (Usage n) others e = e

quiet_later : (status others : QuietStatus) → first_unquiet status others ≡ Quiet → others ≡ Quiet
quiet_later status others e = let first = quiet_first status others e in subst (λ (s : QuietStatus). first_unquiet s others ≡ Quiet) first e

-- the play of an action of those that are answered
actions_found : {bytes : List ℕ} {program : List StmtTree} {request : PlayRequest} {devices : List Desc} {names : List (List ℕ)} {text : List ℕ} {status : QuietStatus}
    (action : List ℕ) (place : ℕ) → place < length names → slice_index_or names place action ≡ action →
    ActionsAnswer bytes program request devices names text status → status ≡ Quiet →
    IsChosenQuiet (as_played program) (choice_of (as_played program) action request.todo request.skip) request.turns (run_of request.place devices)
actions_found action place below at no_more e = absurd (omega (arith, below))
actions_found {program = program} {request = request} {devices = devices} action zero below at (one_more name names text others status rest a b) e =
    subst (λ (n : List ℕ). IsChosenQuiet (as_played program) (choice_of (as_played program) n request.todo request.skip) request.turns (run_of request.place devices))
    at (choice_found a (quiet_first status rest e))
actions_found action (suc place) below at (one_more name names text others status rest a b) e =
    let less : place < length names = omega (arith, below) in actions_found action place less at b (quiet_later status rest e)

-- The play of the action that is asked about, in the program that is held.
program_found : (actions : Actions) (bytes : List ℕ) (program : List StmtTree) (request : PlayRequest) (devices : List Desc) (text : List ℕ) (status : QuietStatus)
    (action : List ℕ) → IsProgram bytes program → IsAskedAction actions request (Some bytes) action →
    ProgramAnswer actions bytes program request devices text status → status ≡ Quiet →
    IsChosenQuiet (as_played program) (choice_of (as_played program) action request.todo request.skip) request.turns (run_of request.place devices)
program_found Named bytes program request devices text status action is same a e =
    subst (λ (n : List ℕ). IsChosenQuiet (as_played program) (choice_of (as_played program) n request.todo request.skip) request.turns (run_of request.place devices))
    (sym same) (choice_found a e)
program_found Each bytes program request devices text status action is has a e =
    let bytes_same : has.bytes ≡ bytes = same_Some has.bytes bytes (sym has.held) in
    let same : has.program ≡ program = one_program bytes has.program program (subst (λ (b : List ℕ). IsProgram b has.program) bytes_same has.is) is in
    let among : Contains (actions_of program) action = subst (λ (p : List StmtTree). Contains (actions_of p) action) same has.among in
    actions_found action among.0 among.1 among.2 a e

text_found : {actions : Actions} {request : PlayRequest} {devices : List Desc} {bytes text : List ℕ} {status : QuietStatus} (action : List ℕ) →
    IsAskedAction actions request (Some bytes) action → TextAnswer actions request devices bytes text status → status ≡ Quiet →
    IsFound request action devices (Some bytes)
text_found action about (refused piece line reason fault) e = absurd cc
text_found {actions = actions} {request = request} {devices = devices} {bytes = bytes} action about (accepted program text status is a) e =
    let found = program_found actions bytes program request devices text status action is about a e in
    record { bytes = bytes; held = refl; program = program; is = is; procedures = found.procedures; choice = found.are_chosen; quiet = found.quiet }

held_found : (actions : Actions) (request : PlayRequest) (action : List ℕ) (devices : List Desc) (held : Option (List ℕ)) (text : List ℕ) (status : QuietStatus) →
    IsAskedAction actions request held action → HeldAnswer actions request devices held text status → status ≡ Quiet → IsFound request action devices held
held_found actions request action devices None text status about a e = absurd a
held_found actions request action devices (Some bytes) text status about a e = text_found action about a e

request_found : {actions : Actions} {request : PlayRequest} {contents : List (Option (List ℕ))} {text : List ℕ} {status : QuietStatus} (action : List ℕ) (devices : List Desc) →
    IsAskedAction actions request (second_of contents) action → HasBoard (first_of contents) devices → RequestAnswer actions request contents text status → status ≡ Quiet →
    IsFound request action devices (second_of contents)
request_found action devices about board (board_refused line reason fault) e = absurd cc
request_found {actions = actions} {request = request} {contents = contents} action devices about board (board_read others text status other a) e =
    subst (λ (ds : List Desc). IsFound request action ds (second_of contents)) (one_held (first_of contents) others devices other board)
    (held_found actions request action others (second_of contents) text status about a e)

words_found : {words : List (List ℕ)} {contents : List (Option (List ℕ))} {text : List ℕ} {status : QuietStatus} (question : Question) (action : List ℕ) (devices : List Desc) →
    Ask words question → IsAskedAction question.actions question.play.request (second_of contents) action → HasBoard (first_of contents) devices →
    WordsAnswer words contents text status → status ≡ Quiet → IsFound question.play.request action devices (second_of contents)
words_found question action devices asks about board (usage n u) e = absurd cc
words_found {words = words} {contents = contents} question action devices asks about board (asked other text status others a) e =
    request_found action devices about board (subst (λ (q : Question). QuestionAnswer q contents text status) (one_asked words other question others asks) a) e

-- the play elsewhere is one for a run of a board, and is quiet on that run alone
module _ {words : List (List ℕ)} {contents : List (Option (List ℕ))} {other : List (List ℕ)} {held : List (Option (List ℕ))} (q : PlaysElsewhere words contents other held)
    (found : IsFound q.question.play.request q.played.request.action q.devices (second_of contents)) where
  same_choice : choice_of (as_played found.program) q.played.request.action q.played.request.todo q.played.request.skip ≡ chosen found.procedures
  same_choice = rw (q.same_todo, q.same_skip) found.choice

  same_quiet : IsQuietPlay (as_played found.program) found.procedures q.played.request.turns (in_run (neighbours q.run) q.around)
  same_quiet = rw (q.same_turns, q.same_devices) found.quiet

  alone : IsQuietAlone other (λ request. held)
  alone = record {
    play = q.played;
    asked = q.asked;
    no_pins = q.no_pins;
    run = q.run;
    for_run = q.for_run;
    devices = q.around;
    board = q.other_board;
    placed = q.placed;
    bytes = found.bytes;
    held = q.same_program ∙ found.held;
    program = found.program;
    is = found.is;
    procedures = found.procedures;
    choice = same_choice;
    quiet = same_quiet;
  }

  as_alone : (text : List ℕ) (status : Status) → plays.WordsAnswer other (λ request. held) text status →
      IsAsAlone (second_of contents) q.played.request (run_of q.question.play.request.place q.devices) text status
  unfolding alone
  as_alone text status a = record {
    bytes = found.bytes;
    held = found.held;
    program = found.program;
    is = found.is;
    plays = subst (λ (ds : List Desc). PlaysAction (alone_request q.played.request) ds found.program text status) q.same_devices
        ((answers_alone alone).to text status a);
  }

pub quiet_everywhere : {words : List (List ℕ)} {contents : List (Option (List ℕ))} {said : List ℕ} {status : QuietStatus} → WordsAnswer words contents said status →
    status ≡ Quiet → IsQuietEverywhere words contents
quiet_everywhere a e = λ other held q text status answer. as_alone q (words_found q.question q.played.request.action q.devices q.about q.asked_action q.board a e) text status answer

-- what the words are answered, with what stands of it
pub promised : (words : List (List ℕ)) (contents : List (Option (List ℕ))) → IsWithin (WordsAnswer words contents) (PromisedAnswer words contents)
promised words contents = record { to = λ text status a. record { answer = a; everywhere = quiet_everywhere a } }
