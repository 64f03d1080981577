-- The words and the contents of their files come to one plan, and what is received settles what is sent and written.
use Rattle.std.proofs.Common.{◌≡◌, ◌∙◌, ℕ, Bool, true, false, List, [], ◌∷◌, ◌++◌, map, Option, None, Some, refl, sym, ap, subst, arith}
use Rattle.std.proofs.lemmas.Option.{same_Some}
use Rattle.stapl_lexer.specs.declared.reason.Reason.{Reason}
use Rattle.stapl_syntax.specs.Trees.{StmtTree}
use Rattle.stapl_checker.proofs.UniqueLemmas.{one_first_fault, one_program, no_fault}
use Rattle.stapl_meaning.specs.declared.events.Event.{Event}
use Rattle.stapl_meaning.specs.declared.events.Ending.{Ending}
use Rattle.stapl_meaning.specs.Choices.{Choice}
use Rattle.stapl_meaning.specs.Plays.{Run, ending_of}
use Rattle.stapl_meaning.specs.Texts.{events_text, ending_line}
use Rattle.dev_card.specs.Board.{tdos}
use Rattle.dev_card.specs.declared.desc.Desc.{Desc}
use Rattle.dev_card.specs.FarEnds.{FarEnd, Heard}
use Rattle.scan_paths.specs.Cables.{clocks_in}
use Rattle.written_cable.specs.Signals.{signals_of}
use Rattle.link_server.specs.Runs.{digit_of}
use Rattle.link_server.specs.Clients.{bytes_of_signals}
use Rattle.board_text.specs.declared.reason.BoardReason.{BoardReason}
use Rattle.named_files.specs.Texts.{refusal_line, board_refusal_line, usage_line}
use Rattle.named_files.proofs.BoardLemmas.{one_held, one_fault, board_or_fault}
use Rattle.tool_frame.specs.Files.{first_of, second_of}
use Rattle.play_words.specs.declared.requests.PlayRequest.{PlayRequest}
use Rattle.play_words.specs.declared.requests.FilePlay.{FilePlay}
use Rattle.play_tool.proofs.OneChoice.{none_or_bad, none_or_chosen, bad_or_chosen, one_choice, has_or_lacks}
use Rattle.drive_tool.specs.declared.status.DriveStatus.TheVariants.{Refused, BoardRefused, Usage}
use Rattle.drive_tool.specs.Words.{WireNames}
use Rattle.drive_tool.specs.Driven.{Session, heard_at, IsDriven}
use Rattle.drive_tool.specs.Plans.{Plan, refusal, drive, ChoicePlan, no_action, bad_choice, bad_place, is_ready, ProgramPlan, TextPlan, refused, accepted, HeldPlan, RequestPlan, board_refused, board_read, WordsPlan, usage, asked}
use Rattle.drive_tool.proofs.WordLaws.{one_asked, one_refused, not_both}

one_choice_plan : {choice : Choice} {placed pins : Bool} {plays : List ℕ → FarEnd → Run} {p q : Plan} → ChoicePlan choice placed pins plays p →
    ChoicePlan choice placed pins plays q → p ≡ q
one_choice_plan (no_action e) (no_action f) = refl
one_choice_plan (no_action e) (bad_choice f) = absurd (none_or_bad e f)
one_choice_plan (no_action e) (bad_place ps f lacks) = absurd (none_or_chosen e f)
one_choice_plan (no_action e) (is_ready ps f has) = absurd (none_or_chosen e f)
one_choice_plan (bad_choice e) (no_action f) = absurd (none_or_bad f e)
one_choice_plan (bad_choice e) (bad_choice f) = refl
one_choice_plan (bad_choice e) (bad_place ps f lacks) = absurd (bad_or_chosen e f)
one_choice_plan (bad_choice e) (is_ready ps f has) = absurd (bad_or_chosen e f)
one_choice_plan (bad_place ps f lacks) (no_action e) = absurd (none_or_chosen e f)
one_choice_plan (bad_place ps f lacks) (bad_choice e) = absurd (bad_or_chosen e f)
one_choice_plan (bad_place ps f lacks) (bad_place qs g also) = refl
one_choice_plan (bad_place ps f lacks) (is_ready qs g has) = absurd (has_or_lacks has lacks)
one_choice_plan (is_ready ps f has) (no_action e) = absurd (none_or_chosen e f)
one_choice_plan (is_ready ps f has) (bad_choice e) = absurd (bad_or_chosen e f)
one_choice_plan (is_ready ps f has) (bad_place qs g lacks) = absurd (has_or_lacks has lacks)
one_choice_plan {pins = pins} {plays = plays} (is_ready ps f has) (is_ready qs g also) = ap (λ (z : List ℕ). drive pins (plays z)) (one_choice f g)

said_refused : {p q l m : ℕ} {r u : Reason} → p ≡ q → l ≡ m → r ≡ u → refusal (refusal_line p l r) (Refused p r) ≡ refusal (refusal_line q m u) (Refused q u)
said_refused e f g = rw (e, f, g) refl

one_text : {request : PlayRequest} {devices : List Desc} {bytes : List ℕ} {p q : Plan} → TextPlan request devices bytes p → TextPlan request devices bytes q → p ≡ q
one_text {bytes = bytes} (refused p l r x) (refused q m u y) = let same = one_first_fault bytes p l q m r u x y in said_refused same.0 same.1 same.2
one_text (refused p l r x) (accepted program plan is a) = absurd (no_fault program is x)
one_text (accepted program plan is a) (refused p l r x) = absurd (no_fault program is x)
one_text {request = request} {devices = devices} {bytes = bytes} (accepted program plan is a) (accepted other plan2 also b) =
    one_choice_plan a (subst (λ (z : List StmtTree). ProgramPlan request devices z plan2) (one_program bytes other program also is) b)

one_held_plan : (request : PlayRequest) (devices : List Desc) (held : Option (List ℕ)) (p q : Plan) → HeldPlan request devices held p → HeldPlan request devices held q → p ≡ q
one_held_plan request devices None p q a b = absurd a
one_held_plan request devices (Some bytes) p q a b = one_text a b

said_board : {l m : ℕ} {r u : BoardReason} → l ≡ m → r ≡ u → refusal (board_refusal_line l r) (BoardRefused l r) ≡ refusal (board_refusal_line m u) (BoardRefused m u)
said_board e f = rw (e, f) refl

one_request_plan : {request : PlayRequest} {contents : List (Option (List ℕ))} {p q : Plan} → RequestPlan request contents p → RequestPlan request contents q → p ≡ q
one_request_plan {contents = contents} (board_refused l r x) (board_refused m u y) = let same = one_fault (first_of contents) l m r u x y in said_board same.0 same.1
one_request_plan {contents = contents} (board_refused l r x) (board_read devices plan board a) = absurd (board_or_fault (first_of contents) devices l r board x)
one_request_plan {contents = contents} (board_read devices plan board a) (board_refused l r x) = absurd (board_or_fault (first_of contents) devices l r board x)
one_request_plan {request = request} {contents = contents} (board_read devices p board a) (board_read others q other b) =
    one_held_plan request devices (second_of contents) p q a
    (subst (λ (ds : List Desc). HeldPlan request ds (second_of contents) q) (one_held (first_of contents) others devices other board) b)

pub one_plan : (words : List (List ℕ)) (contents : List (Option (List ℕ))) (s t : Bool) (p q : Plan) → WordsPlan words contents s p → WordsPlan words contents t q → p ≡ q
one_plan words contents s t _ _ (usage n x) (usage m y) = ap (λ (k : ℕ). refusal (usage_line k) (Usage k)) (one_refused words n m x y)
one_plan words contents s t _ _ (usage n x) (asked wire play plan asks e a) = absurd (not_both words n wire play x asks)
one_plan words contents s t _ _ (asked wire play plan asks e a) (usage n x) = absurd (not_both words n wire play x asks)
one_plan words contents s t _ _ (asked wire play p asks e a) (asked wires other q others f b) =
    one_request_plan a (subst (λ (z : FilePlay). RequestPlan z.request contents q) (one_asked words wires wire other play others asks).1 b)

pub one_waiting : (words : List (List ℕ)) (contents : List (Option (List ℕ))) (s t pins : Bool) (plays : FarEnd → Run) → WordsPlan words contents s (drive pins plays) →
    WordsPlan words contents t (drive pins plays) → s ≡ t
one_waiting words contents s t pins plays (asked wire play plan asks e a) (asked wires other q others f b) =
    sym e ∙ ap (λ (w : WireNames). w.sleeps) (one_asked words wire wires play other asks others).0 ∙ f

-- ---- what is received settles the rest

same_digit : (a b : Bool) → digit_of a ≡ digit_of b → a ≡ b
same_digit true true e = refl
same_digit true false e = absurd (omega (arith, e))
same_digit false true e = absurd (omega (arith, e))
same_digit false false e = refl

same_digits : (xs ys : List Bool) → map digit_of xs ≡ map digit_of ys → xs ≡ ys
same_digits [] [] e = refl
same_digits [] (y ∷ ys) e = cc
same_digits (x ∷ xs) [] e = cc
same_digits (x ∷ xs) (y ∷ ys) e =
    let head : digit_of x ≡ digit_of y = cc in let tail : map digit_of xs ≡ map digit_of ys = cc in
    ap (λ (b : Bool). b ∷ xs) (same_digit x y head) ∙ ap (λ (bs : List Bool). y ∷ bs) (same_digits xs ys tail)

abbrev pub AreSame : Session → Ending → Session → Ending → Type 0
AreSame a e b f = (a ≡ b) × (e ≡ f)

session_is : (a b : Session) → a.sent ≡ b.sent → a.received ≡ b.received → a.text ≡ b.text → a ≡ b
session_is a b e f g =
    ap (λ (x : List ℕ). record { sent = x; received = a.received; text = a.text }) e
    ∙ ap (λ (x : List ℕ). record { sent = b.sent; received = x; text = a.text }) f
    ∙ ap (λ (x : List ℕ). record { sent = b.sent; received = b.received; text = x }) g

pub one_session : (sleeps pins : Bool) (plays : FarEnd → Run) (a b : Session) (e f : Ending) → IsDriven sleeps pins plays a e → IsDriven sleeps pins plays b f →
    a.received ≡ b.received → AreSame a e b f
one_session sleeps pins plays a b e f x y same =
    let bits : tdos (clocks_in (signals_of x.events)) ≡ tdos (clocks_in (signals_of y.events)) = same_digits _ _ (sym x.came ∙ same ∙ y.came) in
    let heard : heard_at x.events [] ≡ heard_at y.events [] = ap (λ (bs : List Bool). Heard (bs ++ [])) bits in
    let events : x.events ≡ y.events = sym (x.runs []) ∙ ap (λ (far : FarEnd). (plays far).events) heard ∙ y.runs [] in
    let ending : e ≡ f = same_Some e f (sym (x.ended []) ∙ ap (λ (far : FarEnd). ending_of (plays far).outcome) heard ∙ y.ended []) in (
      session_is a b (x.went ∙ ap (λ (es : List Event). bytes_of_signals sleeps (signals_of es) ++ _) events ∙ sym y.went) same
          (x.wrote ∙ ap (λ (es : List Event). events_text pins [] es ++ ending_line e) events ∙ ap (λ (z : Ending). events_text pins [] y.events ++ ending_line z) ending ∙ sym y.wrote),
      ending,
    )
