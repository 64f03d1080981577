-- Words whose files are held have an answer, whatever they hold.
use Rattle.std.proofs.Common.{◌≡◌, ◌∙◌, ◌⊎◌, inl, inr, ℕ, Bool, true, false, List, [], ◌∷◌, ◌++◌, codes, Option, refl, sym}
use Rattle.stapl_lexer.specs.declared.piece.Piece.{Piece}
use Rattle.stapl_lexer.specs.declared.reason.Reason.{Reason}
use Rattle.stapl_lexer.specs.Pieces.{IsCut}
use Rattle.stapl_syntax.specs.Trees.{StmtTree}
use Rattle.stapl_syntax.specs.Programs.{IsProgram, FirstFault}
use Rattle.stapl_meaning.specs.Choices.{Choice, no_action, bad_choice, chosen, choice_of}
use Rattle.stapl_meaning.specs.Scopes.{Played, as_played}
use Rattle.stapl_meaning.specs.Typed.{IsTyped}
use Rattle.stapl_code.specs.declared.raw.CodeLists.{CodeLists}
use Rattle.stapl_code.specs.Ranges.{IsInRange}
use Rattle.stapl_code.specs.Safe.{NeverStuck}
use Rattle.stapl_code.specs.Valid.{IsValid}
use Rattle.stapl_codegen.specs.Accepted.{IsAccepted}
use Rattle.stapl_codegen.specs.Generated.{lists_of, IsCodeOf}
use Rattle.dev_card.specs.declared.desc.Desc.{Desc}
use Rattle.padded_plays.specs.QuietPlays.{IsQuietPlay, play_alone}
use Rattle.padded_plays.specs.FirstDeeds.{HasFirstUnquiet}
use Rattle.padded_plays.proofs.Firsts.{first_or_quiet}
use Rattle.board_text.specs.declared.reason.BoardReason.{BoardReason}
use Rattle.board_text.specs.Boards.{IsBoard, IsFirstFault}
use Rattle.named_files.specs.Texts.{refusal_line, board_refusal_line, usage_line}
use Rattle.play_words.specs.declared.requests.PlayRequest.{PlayRequest}
use Rattle.code_plays.specs.Plays.{has_place}
use Rattle.code_plays.specs.CodePlays.{HasEnding}
use Rattle.play_tool.specs.Alone.{alone_request}
use Rattle.play_tool.specs.Held.{ArePlayFilesHeld}
use Rattle.play_tool.proofs.ChoiceLemmas.{same_choice}
use Rattle.play_tool.proofs.ProgramLemmas.{say_same}
use Rattle.play_tool.proofs.AnsweredLemmas.{comes_to_an_end}
use Rattle.quiet_tool.specs.declared.status.QuietStatus.{QuietStatus}
use Rattle.quiet_tool.specs.declared.status.QuietStatus.TheVariants as statuses
use Rattle.quiet_tool.specs.declared.words.Actions.{Actions}
use Rattle.quiet_tool.specs.declared.words.Actions.TheVariants.{Named, Each}
use Rattle.quiet_tool.specs.declared.words.Question.{Question}
use Rattle.quiet_tool.specs.Statuses.{first_unquiet}
use Rattle.quiet_tool.specs.Texts.{quiet_text, unquiet_line, action_text, line_of_piece}
use Rattle.quiet_tool.specs.Words.{Ask, HasUsage}
use Rattle.quiet_tool.specs.Answers.{run_of, VerdictAnswer, quiet, unquiet, ChoiceAnswer, judged, bad_place, ActionAnswer, with_action, actions_of, ActionsAnswer, no_more, one_more, ProgramAnswer, TextAnswer, refused, accepted, RequestAnswer, board_refused, board_read, QuestionAnswer, WordsAnswer, usage, asked}
use Rattle.quiet_tool.specs.Answers as answers
use Rattle.quiet_tool.proofs.WordLemmas.{asked_or_refused}

-- some text and status is an answer
abbrev pub HasAnswer : (List ℕ → QuietStatus → Type 0) → Type 0
HasAnswer A = (text : List ℕ) × (status : QuietStatus) × A text status

-- what is known of boards, programs and their codes
pub record Known : Type 0 where
  pub boards : (text : List ℕ) → ((devices : List Desc) × IsBoard text devices) ⊎ ((line : ℕ) × (reason : BoardReason) × IsFirstFault text line reason)
  pub programs : (text : List ℕ) → ((statements : List StmtTree) × IsProgram text statements) ⊎ ((piece : ℕ) × (line : ℕ) × (reason : Reason) × FirstFault text piece line reason)
  pub pieces : (text : List ℕ) → (pieces : List Piece) × IsCut text pieces
  pub typed : (text : List ℕ) (program : List StmtTree) → IsProgram text program → IsTyped (as_played program)
  pub taken : (text : List ℕ) (program : List StmtTree) → IsProgram text program → IsAccepted (as_played program)
  pub in_range : (program : Played) → IsAccepted program → IsInRange (lists_of program)
  pub valid : (program : Played) → IsAccepted program → IsValid (lists_of program)
  pub code : (program : Played) → IsAccepted program → IsCodeOf program (lists_of program)
  pub never : NeverStuck

-- the play of a program on some devices alone ends, or its turns are spent
ends_alone : (never : NeverStuck) (program : List StmtTree) (code : CodeLists) → IsTyped (as_played program) → IsCodeOf (as_played program) code → IsInRange code → IsValid code →
    (request : PlayRequest) (run : List Desc) (procedures : List ℕ) → choice_of (as_played program) request.action request.todo request.skip ≡ chosen procedures →
    HasEnding (play_alone (as_played program) procedures request.turns run)
ends_alone never program code typed is ranges valid request run procedures e =
    let h = comes_to_an_end never code ranges valid (alone_request request) run procedures (same_choice request.action request.todo request.skip typed is ∙ e) in
    record { ending = h.ending; comes = sym ((say_same program code (alone_request request) run typed is).endings procedures) ∙ h.comes }

-- a verdict
module _ (bytes : List ℕ) (pieces : List Piece) (cut : IsCut bytes pieces) (program : Played) (procedures : List ℕ) (n : ℕ) (run : List Desc)
    (ends : HasEnding (play_alone program procedures n run)) where
  verdict_answered : HasAnswer (VerdictAnswer bytes program procedures n run)
  verdict_answered = by (first_or_quiet program procedures run n)
    where
      by : IsQuietPlay program procedures n run ⊎ HasFirstUnquiet program procedures n run → HasAnswer (VerdictAnswer bytes program procedures n run)
      by (inl q) = (quiet_text n ends.ending, statuses.Quiet, quiet ends.ending q ends.comes)
      by (inr f) =
          let line = line_of_piece pieces f.piece in (
            unquiet_line f.piece line f.turn f.why,
            statuses.NotQuiet f.turn f.piece f.why,
            unquiet f.turn f.piece line f.why f.first f.within (record { pieces = pieces; cut = cut; line_is = refl }),
          )

choice_answered : (bytes : List ℕ) (pieces : List Piece) (cut : IsCut bytes pieces) (program : Played) (n : ℕ) (run : List Desc) (choice : Choice) (placed : Bool) →
    ((procedures : List ℕ) → choice ≡ chosen procedures → HasEnding (play_alone program procedures n run)) → HasAnswer (ChoiceAnswer bytes program choice placed n run)
choice_answered bytes pieces cut program n run no_action placed ends = (codes "R action\n", statuses.NoAction, answers.no_action refl)
choice_answered bytes pieces cut program n run bad_choice placed ends = (codes "R choice\n", statuses.BadChoice, answers.bad_choice refl)
choice_answered bytes pieces cut program n run (chosen procedures) false ends = (codes "R place\n", statuses.BadPlace, bad_place procedures refl refl)
choice_answered bytes pieces cut program n run (chosen procedures) true ends =
    let v = verdict_answered bytes pieces cut program procedures n run (ends procedures refl) in (v.0, v.1, judged procedures v.0 v.1 refl refl v.2)

module _ (known : Known) where
  action_answered : (request : PlayRequest) (devices : List Desc) (bytes : List ℕ) (program : List StmtTree) → IsProgram bytes program →
      HasAnswer (ActionAnswer bytes program request devices)
  action_answered request devices bytes program is =
      let took = known.taken bytes program is in
      let cut = known.pieces bytes in
      choice_answered bytes cut.0 cut.1 (as_played program) request.turns (run_of request.place devices)
      (choice_of (as_played program) request.action request.todo request.skip) (has_place request.place devices)
      (ends_alone known.never program (lists_of (as_played program)) (known.typed bytes program is) (known.code (as_played program) took)
      (known.in_range (as_played program) took) (known.valid (as_played program) took) request (run_of request.place devices))

  actions_answered : (request : PlayRequest) (devices : List Desc) (bytes : List ℕ) (program : List StmtTree) → IsProgram bytes program → (names : List (List ℕ)) →
      HasAnswer (ActionsAnswer bytes program request devices names)
  actions_answered request devices bytes program is [] = ([], statuses.Quiet, no_more)
  actions_answered request devices bytes program is (name ∷ names) =
      let a = action_answered (with_action request name) devices bytes program is in
      let b = actions_answered request devices bytes program is names in
      (action_text name a.0 ++ b.0, first_unquiet a.1 b.1, one_more name names a.0 b.0 a.1 b.1 a.2 b.2)

  program_answered : (actions : Actions) (request : PlayRequest) (devices : List Desc) (bytes : List ℕ) (program : List StmtTree) → IsProgram bytes program →
      HasAnswer (ProgramAnswer actions bytes program request devices)
  program_answered Named request devices bytes program is = action_answered request devices bytes program is
  program_answered Each request devices bytes program is = actions_answered request devices bytes program is (actions_of program)

module _ (known : Known) (actions : Actions) (request : PlayRequest) where
  text_answered : (devices : List Desc) (bytes : List ℕ) → HasAnswer (TextAnswer actions request devices bytes)
  text_answered devices bytes = by (known.programs bytes)
    where
      by : ((statements : List StmtTree) × IsProgram bytes statements) ⊎ ((piece : ℕ) × (line : ℕ) × (reason : Reason) × FirstFault bytes piece line reason) →
          HasAnswer (TextAnswer actions request devices bytes)
      by (inl (program, is)) = let a = program_answered known actions request devices bytes program is in (a.0, a.1, accepted program a.0 a.1 is a.2)
      by (inr (piece, line, reason, fault)) = (refusal_line piece line reason, statuses.Refused piece reason, refused piece line reason fault)

  request_answered : (contents : List (Option (List ℕ))) → ArePlayFilesHeld contents → HasAnswer (RequestAnswer actions request contents)
  request_answered contents held = by (known.boards held.board.bytes)
    where
      by : ((devices : List Desc) × IsBoard held.board.bytes devices) ⊎ ((line : ℕ) × (reason : BoardReason) × IsFirstFault held.board.bytes line reason) →
          HasAnswer (RequestAnswer actions request contents)
      by (inl (devices, is)) = let a = text_answered devices held.source.bytes in (a.0, a.1, board_read devices a.0 a.1 (rw held.board.there is) (rw held.source.there a.2))
      by (inr (line, reason, fault)) = (board_refusal_line line reason, statuses.BoardRefused line reason, board_refused line reason (rw held.board.there fault))

pub words_answered : (known : Known) (words : List (List ℕ)) (contents : List (Option (List ℕ))) → ArePlayFilesHeld contents → HasAnswer (WordsAnswer words contents)
words_answered known words contents held = by (asked_or_refused words)
  where
    by : ((question : Question) × Ask words question) ⊎ ((n : ℕ) × HasUsage words n) → HasAnswer (WordsAnswer words contents)
    by (inl (question, asks)) = let a = request_answered known question.actions question.play.request contents held in (a.0, a.1, asked question a.0 a.1 asks a.2)
    by (inr (n, unread)) = (usage_line n, statuses.Usage n, usage n unread)
