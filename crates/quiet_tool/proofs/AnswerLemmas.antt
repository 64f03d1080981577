-- On answers: verdicts, and which relation holds the answers of which.
use Rattle.std.proofs.Common.{arith, ◌≡◌, ◌∙◌, ◌∷◌, ◌++◌, [], ℕ, List, Bool, Option, map, refl, ap, subst, sym, append_assoc, ◌+◌, ◌<◌, ◌≤◌, suc, length, drop, get_or}
use Rattle.std.proofs.Math.Seq.{drop-cons}
use Rattle.std.proofs.lemmas.List.{append-nil, drop_all}
use Rattle.tool_frame.specs.Files.{first_of, second_of}
use Rattle.tool_frame.proofs.AnswerLemmas.{IsWithin}
use Rattle.std.specs.List.{filter_map, cons_option}
use Rattle.stapl_syntax.specs.declared.statement.Stmt.{Stmt}
use Rattle.stapl_syntax.specs.Trees.{StmtTree, body_tree, stmt_tree}
use Rattle.stapl_syntax.specs.Programs.{IsProgram}
use Rattle.stapl_meaning.specs.declared.events.Ending.{Ending}
use Rattle.stapl_meaning.specs.Choices.{Choice}
use Rattle.stapl_meaning.specs.Scopes.{Played}
use Rattle.dev_card.specs.declared.desc.Desc.{Desc}
use Rattle.padded_plays.specs.declared.unquiet.Unquiet.{Unquiet}
use Rattle.quiet_runs.specs.declared.first_turns.Verdict.{Verdict}
use Rattle.quiet_runs.specs.declared.first_turns.Verdict.TheVariants as verdicts
use Rattle.quiet_runs.specs.Verdicts.{IsQuietVerdict}
use Rattle.named_files.specs.Boards.{HasBoard}
use Rattle.play_words.specs.declared.requests.PlayRequest.{PlayRequest}
use Rattle.quiet_tool.specs.declared.status.QuietStatus.{QuietStatus}
use Rattle.quiet_tool.specs.declared.status.QuietStatus.TheVariants.{Quiet, NotQuiet, Refused, BoardRefused, NoAction, BadChoice, BadPlace, Usage}
use Rattle.quiet_tool.specs.declared.words.Actions.{Actions}
use Rattle.quiet_tool.specs.declared.words.Question.{Question}
use Rattle.quiet_tool.specs.Statuses.{first_unquiet}
use Rattle.quiet_tool.specs.Texts.{quiet_text, unquiet_line, action_text, IsLineOf}
use Rattle.quiet_tool.specs.Words.{Ask}
use Rattle.quiet_tool.specs.Answers.{VerdictAnswer, quiet, unquiet, ChoiceAnswer, ActionAnswer, action_name, actions_of, with_action, ActionsAnswer, one_more, no_more, ProgramAnswer, TextAnswer, accepted, HeldAnswer, RequestAnswer, board_read, QuestionAnswer, WordsAnswer, asked}

module _ {bytes : List ℕ} {turns : ℕ} {verdict : Verdict} where
  pub verdict_quiet : (ending : Ending) (text : List ℕ) → verdict ≡ verdicts.Quiet ending → text ≡ quiet_text turns ending →
      (program : Played) (procedures : List ℕ) (run : List Desc) → IsQuietVerdict program procedures turns run verdict →
      VerdictAnswer bytes program procedures turns run text Quiet
  verdict_quiet ending text e f program procedures run v =
      let q = subst (IsQuietVerdict program procedures turns run) e v in
      subst (λ (t : List ℕ). VerdictAnswer bytes program procedures turns run t Quiet) (sym f) (quiet ending q.quiet q.ended)

  pub verdict_unquiet : (turn piece line : ℕ) (why : Unquiet) (text : List ℕ) → verdict ≡ verdicts.NotQuiet turn piece why → IsLineOf bytes piece line →
      text ≡ unquiet_line piece line turn why →
      (program : Played) (procedures : List ℕ) (run : List Desc) → IsQuietVerdict program procedures turns run verdict →
      VerdictAnswer bytes program procedures turns run text (NotQuiet turn piece why)
  verdict_unquiet turn piece line why text e at f program procedures run v =
      let q = subst (IsQuietVerdict program procedures turns run) e v in
      subst (λ (t : List ℕ). VerdictAnswer bytes program procedures turns run t (NotQuiet turn piece why)) (sym f) (unquiet turn piece line why q.first q.within at)

-- the same verdict, by an equal text and equal devices
pub verdict_same : {text : List ℕ} {status : QuietStatus} (program : Played) (procedures : List ℕ) (n : ℕ) (a b : List ℕ) (r s : List Desc) → a ≡ b → r ≡ s →
    VerdictAnswer a program procedures n r text status → VerdictAnswer b program procedures n s text status
verdict_same {text = text} {status = status} program procedures n a b r s e f v =
    subst (λ (z : List Desc). VerdictAnswer b program procedures n z text status) f (subst (λ (z : List ℕ). VerdictAnswer z program procedures n r text status) e v)

-- a refusal of a choice or of a place, by its line and status
module _ {bytes : List ℕ} {program : Played} {choice : Choice} {placed : Bool} {n : ℕ} {run : List Desc} where
  pub answer_is : {a b : List ℕ} {s t : QuietStatus} → a ≡ b → s ≡ t → ChoiceAnswer bytes program choice placed n run b t →
      ChoiceAnswer bytes program choice placed n run a s
  answer_is {a = a} {t = t} e f x =
      subst (λ (z : QuietStatus). ChoiceAnswer bytes program choice placed n run a z) (sym f) (subst (λ (z : List ℕ). ChoiceAnswer bytes program choice placed n run z t) (sym e) x)

-- the actions of statements, by their bodies
pub actions_in : (statements : List Stmt) → filter_map (λ (st : Stmt). action_name (body_tree st.body)) statements ≡ actions_of (map stmt_tree statements)
actions_in [] = refl
actions_in (st ∷ rest) = ap (cons_option (action_name (body_tree st.body))) (actions_in rest)

-- What is written of some actions, after that of others.

first_of_three : (a b c : QuietStatus) → first_unquiet (first_unquiet a b) c ≡ first_unquiet a (first_unquiet b c)
first_of_three Quiet b c = refl
first_of_three (NotQuiet turn piece why) b c = refl
first_of_three (Refused piece reason) b c = refl
first_of_three (BoardRefused line reason) b c = refl
first_of_three NoAction b c = refl
first_of_three BadChoice b c = refl
first_of_three BadPlace b c = refl
first_of_three (Usage n) b c = refl

first_alone : (status : QuietStatus) → first_unquiet status Quiet ≡ status
first_alone Quiet = refl
first_alone (NotQuiet turn piece why) = refl
first_alone (Refused piece reason) = refl
first_alone (BoardRefused line reason) = refl
first_alone NoAction = refl
first_alone BadChoice = refl
first_alone BadPlace = refl
first_alone (Usage n) = refl

-- What these actions have to be answered, all of them have after what is done.
abbrev pub Continues : List ℕ → List StmtTree → PlayRequest → List Desc → (all rest : List (List ℕ)) → List ℕ → QuietStatus → Type 0
Continues bytes program request devices all rest done status =
    (text : List ℕ) (more : QuietStatus) → ActionsAnswer bytes program request devices rest text more →
    ActionsAnswer bytes program request devices all (done ++ text) (first_unquiet status more)

module _ {bytes : List ℕ} {program : List StmtTree} {request : PlayRequest} {devices : List Desc} {all : List (List ℕ)} where
  pub first_action : {text : List ℕ} → text ≡ [] → Continues bytes program request devices all all text Quiet
  first_action {text = text} e = λ others more a.
      subst (λ (t : List ℕ). ActionsAnswer bytes program request devices all (t ++ others) more) (sym e) a

  pub next_action : {rest : List (List ℕ)} (done : List ℕ) (status : QuietStatus) (name : List ℕ) (text : List ℕ) (new : QuietStatus) →
      ActionAnswer bytes program (with_action request name) devices text new → Continues bytes program request devices all (name ∷ rest) done status →
      Continues bytes program request devices all rest (done ++ action_text name text) (first_unquiet status new)
  next_action {rest = rest} done status name text new a before = λ others more b.
      subst (λ (t : List ℕ). ActionsAnswer bytes program request devices all t (first_unquiet (first_unquiet status new) more)) (sym (append_assoc done (action_text name text) others))
      (subst (λ (s : QuietStatus). ActionsAnswer bytes program request devices all (done ++ (action_text name text ++ others)) s) (sym (first_of_three status new more))
      (before (action_text name text ++ others) (first_unquiet new more) (one_more name rest text others new more a b)))

  -- one action more is answered
  pub action_answered : (i : ℕ) (name : List ℕ) (text : List ℕ) (new : QuietStatus) (done more : List ℕ) (status next : QuietStatus) → i < length all →
      name ≡ get_or all i name → ActionAnswer bytes program (with_action request name) devices text new → more ≡ done ++ action_text name text →
      next ≡ first_unquiet status new → Continues bytes program request devices all (drop i all) done status →
      Continues bytes program request devices all (drop (i + 1) all) more next
  action_answered i name text new done more status next below is a e f before =
      let one : suc i ≡ i + 1 = omega arith in
      let first : drop i all ≡ name ∷ drop (i + 1) all =
      drop-cons all i name below ∙ ap (λ (n : List ℕ). n ∷ drop (suc i) all) (sym is) ∙ ap (λ (k : ℕ). name ∷ drop k all) one in
      rw (e, f) (next_action done status name text new a (subst (λ (rest : List (List ℕ)). Continues bytes program request devices all rest done status) first before))

  -- all are answered
  pub all_answered : (i : ℕ) (done : List ℕ) (status : QuietStatus) → length all ≤ i → Continues bytes program request devices all (drop i all) done status →
      ActionsAnswer bytes program request devices all done status
  all_answered i done status past before =
      let left : ActionsAnswer bytes program request devices (drop i all) [] Quiet =
      subst (λ (rest : List (List ℕ)). ActionsAnswer bytes program request devices rest [] Quiet) (sym (drop_all i all past)) no_more in
      subst (λ (s : QuietStatus). ActionsAnswer bytes program request devices all done s) (first_alone status)
      (subst (λ (t : List ℕ). ActionsAnswer bytes program request devices all t (first_unquiet status Quiet)) (append-nil done) (before [] Quiet left))

-- Which answer holds which: for a text that is a program, for a board that is right, and for words that ask a
-- question.

pub program_in_text : (actions : Actions) (request : PlayRequest) (devices : List Desc) (bytes : List ℕ) (program : List StmtTree) → IsProgram bytes program →
    IsWithin (ProgramAnswer actions bytes program request devices) (TextAnswer actions request devices bytes)
program_in_text actions request devices bytes program is = record { to = λ text status a. accepted program text status is a }

pub held_in_request : (actions : Actions) (request : PlayRequest) (devices : List Desc) (contents : List (Option (List ℕ))) → HasBoard (first_of contents) devices →
    IsWithin (HeldAnswer actions request devices (second_of contents)) (RequestAnswer actions request contents)
held_in_request actions request devices contents board = record { to = λ text status a. board_read devices text status board a }

pub question_in_words : {words : List (List ℕ)} (question : Question) (contents : List (Option (List ℕ))) → Ask words question →
    IsWithin (QuestionAnswer question contents) (WordsAnswer words contents)
question_in_words question contents asks = record { to = λ text status a. asked question text status asks a }
