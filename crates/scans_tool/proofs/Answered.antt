-- Words whose files are held have an answer, whatever they hold.
use Rattle.std.proofs.Common.{◌≡◌, ◌∙◌, ◌⊎◌, inl, inr, ℕ, Bool, true, false, List, codes, Option, refl, sym}
use Rattle.stapl_lexer.specs.declared.piece.Piece.{Piece}
use Rattle.stapl_lexer.specs.declared.reason.Reason.{Reason}
use Rattle.stapl_lexer.specs.Pieces.{IsCut}
use Rattle.stapl_syntax.specs.Trees.{StmtTree}
use Rattle.stapl_syntax.specs.Programs.{IsProgram, FirstFault}
use Rattle.stapl_meaning.specs.Choices.{Choice, no_action, bad_choice, chosen, choice_of}
use Rattle.stapl_meaning.specs.Scopes.{Played, as_played}
use Rattle.stapl_meaning.specs.Typed.{IsTyped}
use Rattle.stapl_code.specs.declared.raw.CodeLists.{CodeLists}
use Rattle.stapl_code.specs.Ranges.{IsInRange}
use Rattle.stapl_code.specs.Safe.{NeverStuck}
use Rattle.stapl_code.specs.Valid.{IsValid}
use Rattle.stapl_codegen.specs.Accepted.{IsAccepted}
use Rattle.stapl_codegen.specs.Generated.{lists_of, IsCodeOf}
use Rattle.dev_card.specs.declared.desc.Desc.{Desc}
use Rattle.scan_accounts.specs.AccountTexts.{account_text}
use Rattle.board_text.specs.declared.reason.BoardReason.{BoardReason}
use Rattle.board_text.specs.Boards.{IsBoard, IsFirstFault}
use Rattle.named_files.specs.Texts.{refusal_line, board_refusal_line, usage_line}
use Rattle.play_words.specs.declared.requests.FilePlay.{FilePlay}
use Rattle.play_words.specs.declared.requests.PlayRequest.{PlayRequest}
use Rattle.play_words.specs.declared.status.Status.{Status}
use Rattle.play_words.specs.declared.status.Status.TheVariants as statuses
use Rattle.code_plays.specs.Plays.{has_place, done_with}
use Rattle.code_plays.specs.CodePlays.{HasEnding}
use Rattle.accounted_plays.specs.Accounted.{made_for}
use Rattle.play_tool.specs.Answers.{play_on}
use Rattle.play_tool.specs.Held.{ArePlayFilesHeld}
use Rattle.play_tool.proofs.ChoiceLemmas.{same_choice}
use Rattle.play_tool.proofs.ProgramLemmas.{say_same}
use Rattle.play_tool.proofs.AnsweredLemmas.{comes_to_an_end}
use Rattle.scans_tool.specs.Words.{AskFor, HasUsage}
use Rattle.scans_tool.specs.Answers.{ChosenAnswer, ChoiceAnswer, played, bad_place, ProgramAnswer, TextAnswer, refused, accepted, RequestAnswer, board_refused, board_read, WordsAnswer, usage, asked}
use Rattle.scans_tool.specs.Answers as answers
use Rattle.scans_tool.proofs.WordLemmas.{asked_or_refused}

-- some text and status is an answer
abbrev pub HasAnswer : (List ℕ → Status → Type 0) → Type 0
HasAnswer A = (text : List ℕ) × (status : Status) × A text status

-- what is known of boards, programs and their codes
pub record Known : Type 0 where
  pub boards : (text : List ℕ) → ((devices : List Desc) × IsBoard text devices) ⊎ ((line : ℕ) × (reason : BoardReason) × IsFirstFault text line reason)
  pub programs : (text : List ℕ) → ((statements : List StmtTree) × IsProgram text statements) ⊎ ((piece : ℕ) × (line : ℕ) × (reason : Reason) × FirstFault text piece line reason)
  pub pieces : (text : List ℕ) → (pieces : List Piece) × IsCut text pieces
  pub typed : (text : List ℕ) (program : List StmtTree) → IsProgram text program → IsTyped (as_played program)
  pub taken : (text : List ℕ) (program : List StmtTree) → IsProgram text program → IsAccepted (as_played program)
  pub in_range : (program : Played) → IsAccepted program → IsInRange (lists_of program)
  pub valid : (program : Played) → IsAccepted program → IsValid (lists_of program)
  pub code : (program : Played) → IsAccepted program → IsCodeOf program (lists_of program)
  pub never : NeverStuck

-- the play of a program ends, or its turns are spent
ends : (never : NeverStuck) (program : List StmtTree) (code : CodeLists) → IsTyped (as_played program) → IsCodeOf (as_played program) code → IsInRange code → IsValid code →
    (request : PlayRequest) (devices : List Desc) (procedures : List ℕ) → choice_of (as_played program) request.action request.todo request.skip ≡ chosen procedures →
    HasEnding (play_on (as_played program) request devices procedures)
ends never program code typed is ranges valid request devices procedures e =
    let h = comes_to_an_end never code ranges valid request devices procedures (same_choice request.action request.todo request.skip typed is ∙ e) in
    record { ending = h.ending; comes = sym ((say_same program code request devices typed is).endings procedures) ∙ h.comes }

-- a play with its account
chosen_answered : (bytes : List ℕ) (pieces : List Piece) → IsCut bytes pieces → (program : Played) (request : PlayRequest) (devices : List Desc) (procedures : List ℕ) →
    HasEnding (play_on program request devices procedures) → HasAnswer (ChosenAnswer bytes program request devices procedures)
chosen_answered bytes pieces cut program request devices procedures ends = (
  account_text (record { text = bytes; pieces = pieces }) (made_for program request devices procedures) ends.ending,
  done_with ends.ending,
  record { ending = ends.ending; accounted = record { pieces = pieces; cut = cut; ended = ends.comes; says = refl }; status_is = refl },
)

choice_answered : (choice : Choice) (placed : Bool) (plays : List ℕ → List ℕ → Status → Type 0) →
    ((procedures : List ℕ) → choice ≡ chosen procedures → HasAnswer (plays procedures)) → HasAnswer (ChoiceAnswer choice placed plays)
choice_answered no_action placed plays each = (codes "R action\n", statuses.NoAction, answers.no_action refl)
choice_answered bad_choice placed plays each = (codes "R choice\n", statuses.BadChoice, answers.bad_choice refl)
choice_answered (chosen procedures) false plays each = (codes "R place\n", statuses.BadPlace, bad_place procedures refl refl)
choice_answered (chosen procedures) true plays each =
    let a = each procedures refl in (a.0, a.1, played procedures a.0 a.1 refl refl a.2)

module _ (known : Known) (request : PlayRequest) where
  program_answered : (devices : List Desc) (bytes : List ℕ) (program : List StmtTree) → IsProgram bytes program →
      HasAnswer (ProgramAnswer bytes program request devices)
  program_answered devices bytes program is =
      let took = known.taken bytes program is in
      let cut = known.pieces bytes in
      choice_answered (choice_of (as_played program) request.action request.todo request.skip) (has_place request.place devices) _
      (λ procedures e. chosen_answered bytes cut.0 cut.1 (as_played program) request devices procedures
      (ends known.never program (lists_of (as_played program)) (known.typed bytes program is) (known.code (as_played program) took)
      (known.in_range (as_played program) took) (known.valid (as_played program) took) request devices procedures e))

  text_answered : (devices : List Desc) (bytes : List ℕ) → HasAnswer (TextAnswer request devices bytes)
  text_answered devices bytes = by (known.programs bytes)
    where
      by : ((statements : List StmtTree) × IsProgram bytes statements) ⊎ ((piece : ℕ) × (line : ℕ) × (reason : Reason) × FirstFault bytes piece line reason) →
          HasAnswer (TextAnswer request devices bytes)
      by (inl (program, is)) = let a = program_answered devices bytes program is in (a.0, a.1, accepted program a.0 a.1 is a.2)
      by (inr (piece, line, reason, fault)) = (refusal_line piece line reason, statuses.Refused piece reason, refused piece line reason fault)

  request_answered : (contents : List (Option (List ℕ))) → ArePlayFilesHeld contents → HasAnswer (RequestAnswer request contents)
  request_answered contents held = by (known.boards held.board.bytes)
    where
      by : ((devices : List Desc) × IsBoard held.board.bytes devices) ⊎ ((line : ℕ) × (reason : BoardReason) × IsFirstFault held.board.bytes line reason) →
          HasAnswer (RequestAnswer request contents)
      by (inl (devices, is)) = let a = text_answered devices held.source.bytes in (a.0, a.1, board_read devices a.0 a.1 (rw held.board.there is) (rw held.source.there a.2))
      by (inr (line, reason, fault)) = (board_refusal_line line reason, statuses.BoardRefused line reason, board_refused line reason (rw held.board.there fault))

pub words_answered : (known : Known) (words : List (List ℕ)) (contents : List (Option (List ℕ))) → ArePlayFilesHeld contents → HasAnswer (WordsAnswer words contents)
words_answered known words contents held = by (asked_or_refused words)
  where
    by : ((play : FilePlay) × AskFor words play) ⊎ ((n : ℕ) × HasUsage words n) → HasAnswer (WordsAnswer words contents)
    by (inl (play, asks)) = let a = request_answered known play.request contents held in (a.0, a.1, asked play a.0 a.1 asks a.2)
    by (inr (n, unread)) = (usage_line n, statuses.Usage n, usage n unread)
