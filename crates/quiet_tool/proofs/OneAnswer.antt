-- The words and the contents of their files have at most one answer.
use Rattle.std.proofs.Common.{◌≡◌, ◌∙◌, ◌++◌, ℕ, Bool, List, Option, None, Some, refl, sym, ap, ap₂, subst}
use Rattle.std.proofs.lemmas.Option.{same_Some}
use Rattle.stapl_lexer.specs.declared.piece.Piece.{Piece}
use Rattle.stapl_lexer.specs.declared.reason.Reason.{Reason}
use Rattle.stapl_lexer.proofs.PieceLemmas.{cut_one_way}
use Rattle.stapl_syntax.specs.Trees.{StmtTree}
use Rattle.stapl_checker.proofs.UniqueLemmas.{one_first_fault, one_program, no_fault}
use Rattle.stapl_meaning.specs.Choices.{Choice}
use Rattle.stapl_meaning.specs.declared.events.Ending.{Ending}
use Rattle.stapl_meaning.specs.Scopes.{Played}
use Rattle.dev_card.specs.declared.desc.Desc.{Desc}
use Rattle.board_text.specs.declared.reason.BoardReason.{BoardReason}
use Rattle.padded_plays.specs.declared.unquiet.Unquiet.{Unquiet}
use Rattle.padded_plays.proofs.Firsts.{more_are_not, one_first}
use Rattle.named_files.specs.Texts.{refusal_line, board_refusal_line, usage_line}
use Rattle.named_files.proofs.BoardLemmas.{one_held, one_fault, board_or_fault}
use Rattle.tool_frame.specs.Files.{first_of, second_of}
use Rattle.play_words.specs.declared.requests.PlayRequest.{PlayRequest}
use Rattle.play_tool.proofs.OneChoice.{none_or_bad, none_or_chosen, bad_or_chosen, one_choice, has_or_lacks}
use Rattle.quiet_tool.specs.declared.status.QuietStatus.{QuietStatus}
use Rattle.quiet_tool.specs.declared.status.QuietStatus.TheVariants.{Quiet, NotQuiet, Refused, BoardRefused, Usage}
use Rattle.quiet_tool.specs.declared.words.Actions.{Actions}
use Rattle.quiet_tool.specs.declared.words.Actions.TheVariants.{Named, Each}
use Rattle.quiet_tool.specs.declared.words.Question.{Question}
use Rattle.quiet_tool.specs.Statuses.{first_unquiet}
use Rattle.quiet_tool.specs.Texts.{quiet_text, unquiet_line, action_text, line_of_piece, IsLineOf}
use Rattle.quiet_tool.specs.Answers.{VerdictAnswer, quiet, unquiet, ChoiceAnswer, no_action, bad_choice, bad_place, judged, ActionsAnswer, no_more, one_more, ProgramAnswer, TextAnswer, refused, accepted, HeldAnswer, RequestAnswer, board_refused, board_read, QuestionAnswer, WordsAnswer, usage, asked}
use Rattle.quiet_tool.proofs.WordLemmas.{one_asked, one_refused, not_both}

-- a text and a status
record Said : Type 0 where
  pub text : List ℕ
  pub status : QuietStatus

abbrev said : List ℕ → QuietStatus → Said
said text status = record { text = text; status = status }

one_line : (text : List ℕ) (piece other line others : ℕ) → piece ≡ other → IsLineOf text piece line → IsLineOf text other others → line ≡ others
one_line text piece other line others e a b =
    a.line_is ∙ ap (line_of_piece a.pieces) e ∙ ap (λ (pieces : List Piece). line_of_piece pieces other) (cut_one_way text a.pieces b.pieces a.cut b.cut) ∙ sym b.line_is

said_unquiet : (turn piece line turns pieces lines : ℕ) (why others : Unquiet) → turn ≡ turns → piece ≡ pieces → line ≡ lines → why ≡ others →
    said (unquiet_line piece line turn why) (NotQuiet turn piece why) ≡ said (unquiet_line pieces lines turns others) (NotQuiet turns pieces others)
said_unquiet turn piece line turns pieces lines why others a b c d = rw (a, b, c, d) refl

one_verdict : {bytes : List ℕ} {program : Played} {procedures : List ℕ} {n : ℕ} {run : List Desc} {xs ys : List ℕ} {s t : QuietStatus} →
    VerdictAnswer bytes program procedures n run xs s → VerdictAnswer bytes program procedures n run ys t → said xs s ≡ said ys t
one_verdict {n = n} (quiet ending q e) (quiet other r f) = ap (λ (z : Ending). said (quiet_text n z) Quiet) (same_Some ending other (sym e ∙ f))
one_verdict {program = program} {procedures = procedures} {n = n} {run = run} (quiet ending q e) (unquiet turn piece line why first within at) =
    absurd (more_are_not program procedures run turn piece n why first within q)
one_verdict {program = program} {procedures = procedures} {n = n} {run = run} (unquiet turn piece line why first within at) (quiet ending q e) =
    absurd (more_are_not program procedures run turn piece n why first within q)
one_verdict {bytes = bytes} {program = program} {procedures = procedures} {run = run} (unquiet turn piece line why first within at)
    (unquiet turns pieces lines others also inside there) =
    let same = one_first program procedures run turn piece turns pieces why others first also in
    said_unquiet turn piece line turns pieces lines why others same.turns same.pieces (one_line bytes piece pieces line lines same.pieces at there) same.reasons

one_choice_answer : {bytes : List ℕ} {program : Played} {choice : Choice} {placed : Bool} {n : ℕ} {run : List Desc} {xs ys : List ℕ} {s t : QuietStatus} →
    ChoiceAnswer bytes program choice placed n run xs s → ChoiceAnswer bytes program choice placed n run ys t → said xs s ≡ said ys t
one_choice_answer (no_action e) (no_action f) = refl
one_choice_answer (no_action e) (bad_choice f) = absurd (none_or_bad e f)
one_choice_answer (no_action e) (bad_place ps f lacks) = absurd (none_or_chosen e f)
one_choice_answer (no_action e) (judged ps text status f has v) = absurd (none_or_chosen e f)
one_choice_answer (bad_choice e) (no_action f) = absurd (none_or_bad f e)
one_choice_answer (bad_choice e) (bad_choice f) = refl
one_choice_answer (bad_choice e) (bad_place ps f lacks) = absurd (bad_or_chosen e f)
one_choice_answer (bad_choice e) (judged ps text status f has v) = absurd (bad_or_chosen e f)
one_choice_answer (bad_place ps f lacks) (no_action e) = absurd (none_or_chosen e f)
one_choice_answer (bad_place ps f lacks) (bad_choice e) = absurd (bad_or_chosen e f)
one_choice_answer (bad_place ps f lacks) (bad_place qs g also) = refl
one_choice_answer (bad_place ps f lacks) (judged qs text status g has v) = absurd (has_or_lacks has lacks)
one_choice_answer (judged ps text status f has v) (no_action e) = absurd (none_or_chosen e f)
one_choice_answer (judged ps text status f has v) (bad_choice e) = absurd (bad_or_chosen e f)
one_choice_answer (judged ps text status f has v) (bad_place qs g lacks) = absurd (has_or_lacks has lacks)
one_choice_answer {bytes = bytes} {program = program} {n = n} {run = run} (judged ps text status f has v) (judged qs ys t g also u) =
    one_verdict v (subst (λ (z : List ℕ). VerdictAnswer bytes program z n run ys t) (one_choice g f) u)

one_actions_answer : {bytes : List ℕ} {program : List StmtTree} {request : PlayRequest} {devices : List Desc} {names : List (List ℕ)} {xs ys : List ℕ} {s t : QuietStatus} →
    ActionsAnswer bytes program request devices names xs s → ActionsAnswer bytes program request devices names ys t → said xs s ≡ said ys t
one_actions_answer no_more no_more = refl
one_actions_answer (one_more name names text others status rest a b) (one_more _ _ words more state left c d) =
    let first = one_choice_answer a c in
    let later = one_actions_answer b d in
    ap₂ (λ (x y : Said). said (action_text name x.text ++ y.text) (first_unquiet x.status y.status)) first later

one_program_answer : (actions : Actions) (bytes : List ℕ) (program : List StmtTree) (request : PlayRequest) (devices : List Desc) {xs ys : List ℕ} {s t : QuietStatus} →
    ProgramAnswer actions bytes program request devices xs s → ProgramAnswer actions bytes program request devices ys t → said xs s ≡ said ys t
one_program_answer Named bytes program request devices a b = one_choice_answer a b
one_program_answer Each bytes program request devices a b = one_actions_answer a b

said_refused : {p q l m : ℕ} {r u : Reason} → p ≡ q → l ≡ m → r ≡ u → said (refusal_line p l r) (Refused p r) ≡ said (refusal_line q m u) (Refused q u)
said_refused e f g = rw (e, f, g) refl

one_text : {actions : Actions} {request : PlayRequest} {devices : List Desc} {bytes : List ℕ} {xs ys : List ℕ} {s t : QuietStatus} →
    TextAnswer actions request devices bytes xs s → TextAnswer actions request devices bytes ys t → said xs s ≡ said ys t
one_text {bytes = bytes} (refused p l r x) (refused q m u y) = let same = one_first_fault bytes p l q m r u x y in said_refused same.0 same.1 same.2
one_text (refused p l r x) (accepted program text status is a) = absurd (no_fault program is x)
one_text (accepted program text status is a) (refused p l r x) = absurd (no_fault program is x)
one_text {actions = actions} {request = request} {devices = devices} {bytes = bytes} (accepted program text status is a) (accepted other ys t also b) =
    one_program_answer actions bytes program request devices a (subst (λ (z : List StmtTree). ProgramAnswer actions bytes z request devices ys t) (one_program bytes other program also is) b)

one_held_answer : (actions : Actions) (request : PlayRequest) (devices : List Desc) (held : Option (List ℕ)) (xs ys : List ℕ) (s t : QuietStatus) →
    HeldAnswer actions request devices held xs s → HeldAnswer actions request devices held ys t → said xs s ≡ said ys t
one_held_answer actions request devices None xs ys s t a b = absurd a
one_held_answer actions request devices (Some bytes) xs ys s t a b = one_text a b

said_board : {l m : ℕ} {r u : BoardReason} → l ≡ m → r ≡ u → said (board_refusal_line l r) (BoardRefused l r) ≡ said (board_refusal_line m u) (BoardRefused m u)
said_board e f = rw (e, f) refl

one_request_answer : {actions : Actions} {request : PlayRequest} {contents : List (Option (List ℕ))} {xs ys : List ℕ} {s t : QuietStatus} →
    RequestAnswer actions request contents xs s → RequestAnswer actions request contents ys t → said xs s ≡ said ys t
one_request_answer {contents = contents} (board_refused l r x) (board_refused m u y) = let same = one_fault (first_of contents) l m r u x y in said_board same.0 same.1
one_request_answer {contents = contents} (board_refused l r x) (board_read devices text status board a) = absurd (board_or_fault (first_of contents) devices l r board x)
one_request_answer {contents = contents} (board_read devices text status board a) (board_refused l r x) = absurd (board_or_fault (first_of contents) devices l r board x)
one_request_answer {actions = actions} {request = request} {contents = contents} (board_read devices xs s board a) (board_read others ys t other b) =
    one_held_answer actions request devices (second_of contents) xs ys s t a
    (subst (λ (ds : List Desc). HeldAnswer actions request ds (second_of contents) ys t) (one_held (first_of contents) others devices other board) b)

one_said : (words : List (List ℕ)) (contents : List (Option (List ℕ))) (xs ys : List ℕ) (s t : QuietStatus) → WordsAnswer words contents xs s → WordsAnswer words contents ys t →
    said xs s ≡ said ys t
one_said words contents _ _ _ _ (usage n x) (usage m y) = ap (λ (k : ℕ). said (usage_line k) (Usage k)) (one_refused words n m x y)
one_said words contents _ _ _ _ (usage n x) (asked question text status asks a) = absurd (not_both words n question x asks)
one_said words contents _ _ _ _ (asked question text status asks a) (usage n x) = absurd (not_both words n question x asks)
one_said words contents _ _ _ _ (asked question xs s asks a) (asked other ys t others b) =
    one_request_answer a (subst (λ (q : Question). QuestionAnswer q contents ys t) (one_asked words other question others asks) b)

pub one_answer : (words : List (List ℕ)) (contents : List (Option (List ℕ))) (xs ys : List ℕ) (s t : QuietStatus) → WordsAnswer words contents xs s → WordsAnswer words contents ys t →
    (xs ≡ ys) × (s ≡ t)
one_answer words contents xs ys s t a b =
    let same = one_said words contents xs ys s t a b in (ap (λ (z : Said). z.text) same, ap (λ (z : Said). z.status) same)
