-- The words and the contents of their files have at most one answer.
use Rattle.std.proofs.Common.{◌≡◌, ◌∙◌, ℕ, Bool, List, Option, None, Some, refl, sym, ap, ap₂, subst}
use Rattle.std.proofs.lemmas.Option.{same_Some}
use Rattle.stapl_lexer.specs.declared.piece.Piece.{Piece}
use Rattle.stapl_lexer.specs.declared.reason.Reason.{Reason}
use Rattle.stapl_lexer.proofs.PieceLemmas.{cut_one_way}
use Rattle.stapl_syntax.specs.Trees.{StmtTree}
use Rattle.stapl_checker.proofs.UniqueLemmas.{one_first_fault, one_program, no_fault}
use Rattle.stapl_meaning.specs.Choices.{Choice}
use Rattle.stapl_meaning.specs.declared.events.Ending.{Ending}
use Rattle.stapl_meaning.specs.Scopes.{Played}
use Rattle.dev_card.specs.declared.desc.Desc.{Desc}
use Rattle.scan_accounts.specs.AccountTexts.{account_text}
use Rattle.board_text.specs.declared.reason.BoardReason.{BoardReason}
use Rattle.named_files.specs.Texts.{refusal_line, board_refusal_line, usage_line}
use Rattle.named_files.proofs.BoardLemmas.{one_held, one_fault, board_or_fault}
use Rattle.tool_frame.specs.Files.{first_of, second_of}
use Rattle.play_words.specs.declared.requests.FilePlay.{FilePlay}
use Rattle.play_words.specs.declared.requests.PlayRequest.{PlayRequest}
use Rattle.play_words.specs.declared.status.Status.{Status}
use Rattle.play_words.specs.declared.status.Status.TheVariants.{Refused, BoardRefused, Usage}
use Rattle.code_plays.specs.Plays.{done_with}
use Rattle.accounted_plays.specs.Accounted.{made_for, IsAccounted}
use Rattle.play_tool.proofs.OneChoice.{none_or_bad, none_or_chosen, bad_or_chosen, one_choice, has_or_lacks}
use Rattle.scans_tool.specs.Answers.{ChosenAnswer, ChoiceAnswer, no_action, bad_choice, bad_place, played, ProgramAnswer, TextAnswer, refused, accepted, HeldAnswer, RequestAnswer, board_refused}
use Rattle.scans_tool.specs.Answers.{board_read, WordsAnswer, usage, asked}
use Rattle.scans_tool.proofs.WordLemmas.{one_asked, one_refused, not_both}

-- a text and a status
record Said : Type 0 where
  pub text : List ℕ
  pub status : Status

abbrev said : List ℕ → Status → Said
said text status = record { text = text; status = status }

-- the ending of a play is that of its run, and its text is that of the pieces, in which a text is cut in one way
one_ending : {bytes : List ℕ} {program : Played} {request : PlayRequest} {devices : List Desc} {procedures xs ys : List ℕ} {e f : Ending} →
    IsAccounted bytes program request devices procedures xs e → IsAccounted bytes program request devices procedures ys f → e ≡ f
one_ending {e = e} {f = f} a b = same_Some e f (sym a.ended ∙ b.ended)

one_account : {bytes : List ℕ} {program : Played} {request : PlayRequest} {devices : List Desc} {procedures xs ys : List ℕ} {e f : Ending} →
    IsAccounted bytes program request devices procedures xs e → IsAccounted bytes program request devices procedures ys f → xs ≡ ys
one_account {bytes = bytes} {program = program} {request = request} {devices = devices} {procedures = procedures} a b =
    a.says
    ∙ ap₂ (λ (pieces : List Piece) (ending : Ending). account_text (record { text = bytes; pieces = pieces }) (made_for program request devices procedures) ending)
    (cut_one_way bytes a.pieces b.pieces a.cut b.cut) (one_ending a b)
    ∙ sym b.says

one_chosen : {bytes : List ℕ} {program : Played} {request : PlayRequest} {devices : List Desc} {procedures xs ys : List ℕ} {s t : Status} →
    ChosenAnswer bytes program request devices procedures xs s → ChosenAnswer bytes program request devices procedures ys t → said xs s ≡ said ys t
one_chosen a b =
    ap₂ said (one_account a.accounted b.accounted) (a.status_is ∙ ap done_with (one_ending a.accounted b.accounted) ∙ sym b.status_is)

one_choice_answer : {choice : Choice} {placed : Bool} {plays : List ℕ → List ℕ → Status → Type 0} {xs ys : List ℕ} {s t : Status} →
    ((procedures words others : List ℕ) (q r : Status) → plays procedures words q → plays procedures others r → said words q ≡ said others r) →
    ChoiceAnswer choice placed plays xs s → ChoiceAnswer choice placed plays ys t → said xs s ≡ said ys t
one_choice_answer one (no_action e) (no_action f) = refl
one_choice_answer one (no_action e) (bad_choice f) = absurd (none_or_bad e f)
one_choice_answer one (no_action e) (bad_place ps f lacks) = absurd (none_or_chosen e f)
one_choice_answer one (no_action e) (played ps text status f has a) = absurd (none_or_chosen e f)
one_choice_answer one (bad_choice e) (no_action f) = absurd (none_or_bad f e)
one_choice_answer one (bad_choice e) (bad_choice f) = refl
one_choice_answer one (bad_choice e) (bad_place ps f lacks) = absurd (bad_or_chosen e f)
one_choice_answer one (bad_choice e) (played ps text status f has a) = absurd (bad_or_chosen e f)
one_choice_answer one (bad_place ps f lacks) (no_action e) = absurd (none_or_chosen e f)
one_choice_answer one (bad_place ps f lacks) (bad_choice e) = absurd (bad_or_chosen e f)
one_choice_answer one (bad_place ps f lacks) (bad_place qs g also) = refl
one_choice_answer one (bad_place ps f lacks) (played qs text status g has a) = absurd (has_or_lacks has lacks)
one_choice_answer one (played ps text status f has a) (no_action e) = absurd (none_or_chosen e f)
one_choice_answer one (played ps text status f has a) (bad_choice e) = absurd (bad_or_chosen e f)
one_choice_answer one (played ps text status f has a) (bad_place qs g lacks) = absurd (has_or_lacks has lacks)
one_choice_answer {plays = plays} one (played ps xs s f has a) (played qs ys t g also b) =
    one ps xs ys s t a (subst (λ (z : List ℕ). plays z ys t) (one_choice g f) b)

one_program_answer : (bytes : List ℕ) (program : List StmtTree) {request : PlayRequest} {devices : List Desc} {xs ys : List ℕ} {s t : Status} →
    ProgramAnswer bytes program request devices xs s → ProgramAnswer bytes program request devices ys t → said xs s ≡ said ys t
one_program_answer bytes program a b = one_choice_answer (λ procedures words others q r x y. one_chosen x y) a b

said_refused : {p q l m : ℕ} {r u : Reason} → p ≡ q → l ≡ m → r ≡ u → said (refusal_line p l r) (Refused p r) ≡ said (refusal_line q m u) (Refused q u)
said_refused e f g = rw (e, f, g) refl

one_text : {request : PlayRequest} {devices : List Desc} {bytes : List ℕ} {xs ys : List ℕ} {s t : Status} →
    TextAnswer request devices bytes xs s → TextAnswer request devices bytes ys t → said xs s ≡ said ys t
one_text {bytes = bytes} (refused p l r x) (refused q m u y) = let same = one_first_fault bytes p l q m r u x y in said_refused same.0 same.1 same.2
one_text (refused p l r x) (accepted program text status is a) = absurd (no_fault program is x)
one_text (accepted program text status is a) (refused p l r x) = absurd (no_fault program is x)
one_text {request = request} {devices = devices} {bytes = bytes} (accepted program text status is a) (accepted other ys t also b) =
    one_program_answer bytes program a (subst (λ (z : List StmtTree). ProgramAnswer bytes z request devices ys t) (one_program bytes other program also is) b)

one_held_answer : (request : PlayRequest) (devices : List Desc) (held : Option (List ℕ)) (xs ys : List ℕ) (s t : Status) →
    HeldAnswer request devices held xs s → HeldAnswer request devices held ys t → said xs s ≡ said ys t
one_held_answer request devices None xs ys s t a b = absurd a
one_held_answer request devices (Some bytes) xs ys s t a b = one_text a b

said_board : {l m : ℕ} {r u : BoardReason} → l ≡ m → r ≡ u → said (board_refusal_line l r) (BoardRefused l r) ≡ said (board_refusal_line m u) (BoardRefused m u)
said_board e f = rw (e, f) refl

one_request_answer : {request : PlayRequest} {contents : List (Option (List ℕ))} {xs ys : List ℕ} {s t : Status} →
    RequestAnswer request contents xs s → RequestAnswer request contents ys t → said xs s ≡ said ys t
one_request_answer {contents = contents} (board_refused l r x) (board_refused m u y) = let same = one_fault (first_of contents) l m r u x y in said_board same.0 same.1
one_request_answer {contents = contents} (board_refused l r x) (board_read devices text status board a) = absurd (board_or_fault (first_of contents) devices l r board x)
one_request_answer {contents = contents} (board_read devices text status board a) (board_refused l r x) = absurd (board_or_fault (first_of contents) devices l r board x)
one_request_answer {request = request} {contents = contents} (board_read devices xs s board a) (board_read others ys t other b) =
    one_held_answer request devices (second_of contents) xs ys s t a
    (subst (λ (ds : List Desc). HeldAnswer request ds (second_of contents) ys t) (one_held (first_of contents) others devices other board) b)

one_said : (words : List (List ℕ)) (contents : List (Option (List ℕ))) (xs ys : List ℕ) (s t : Status) → WordsAnswer words contents xs s → WordsAnswer words contents ys t →
    said xs s ≡ said ys t
one_said words contents _ _ _ _ (usage n x) (usage m y) = ap (λ (k : ℕ). said (usage_line k) (Usage k)) (one_refused words n m x y)
one_said words contents _ _ _ _ (usage n x) (asked play text status asks a) = absurd (not_both words n play x asks)
one_said words contents _ _ _ _ (asked play text status asks a) (usage n x) = absurd (not_both words n play x asks)
one_said words contents _ _ _ _ (asked play xs s asks a) (asked other ys t others b) =
    one_request_answer a (subst (λ (p : FilePlay). RequestAnswer p.request contents ys t) (one_asked words other play others asks) b)

pub one_answer : (words : List (List ℕ)) (contents : List (Option (List ℕ))) (xs ys : List ℕ) (s t : Status) → WordsAnswer words contents xs s → WordsAnswer words contents ys t →
    (xs ≡ ys) × (s ≡ t)
one_answer words contents xs ys s t a b =
    let same = one_said words contents xs ys s t a b in (ap (λ (z : Said). z.text) same, ap (λ (z : Said). z.status) same)
