-- The words and the files have at most one answer.
use Rattle.std.proofs.Common.{◌≡◌, ◌∙◌, ℕ, List, Option, refl, sym, ap, subst, arith}
use Rattle.std.proofs.lemmas.Option.{same_Some}
use Rattle.dev_card.specs.declared.desc.Desc.{Desc}
use Rattle.board_text.specs.declared.reason.BoardReason.{BoardReason}
use Rattle.named_files.specs.Texts.{board_refusal_line, usage_line}
use Rattle.named_files.proofs.BoardLemmas.{one_held, one_fault, board_or_fault}
use Rattle.pin_lines.specs.PinLines.{pins_in}
use Rattle.pin_lines.specs.Traces.{board_led_to}
use Rattle.pin_lines.proofs.FirstFaults.{one_bad_line, not_both_lines, one_difference, not_both_clocks}
use Rattle.named_files.specs.Words.{FileNames}
use Rattle.named_files.specs.Contents.{Contents, contents_in}
use Rattle.named_files.proofs.WordLemmas.{one_request, one_usage, no_usage}
use Rattle.trace_tool.specs.declared.status.TraceStatus.{TraceStatus}
use Rattle.trace_tool.specs.declared.status.TraceStatus.TheVariants.{Good, Differs, BadLine, BoardRefused, Usage}
use Rattle.trace_tool.specs.Texts.{good_text, differs_line, bad_line_text}
use Rattle.trace_tool.specs.Answers.{trace_key, new_board, TraceAnswer, too_long, bad_line, differs, good, FileAnswer, RequestAnswer, board_refused, board_read, usage, asked, Answer}

-- two texts and two statuses are the same
abbrev pub AreSame : List ℕ → TraceStatus → List ℕ → TraceStatus → Type 0
AreSame a s b t = (a ≡ b) × (s ≡ t)

one_trace : (devices : List Desc) (text a b : List ℕ) (s t : TraceStatus) → TraceAnswer devices text a s → TraceAnswer devices text b t → AreSame a s b t
one_trace devices text a b s t (too_long x) (too_long y) = (refl, refl)
one_trace devices text a b s t (too_long x) (bad_line n y f) = absurd (omega (arith, x, y))
one_trace devices text a b s t (too_long x) (differs i y g f) = absurd (omega (arith, x, y))
one_trace devices text a b s t (too_long x) (good n y g h e) = absurd (omega (arith, x, y))
one_trace devices text a b s t (bad_line n x f) (too_long y) = absurd (omega (arith, x, y))
one_trace devices text a b s t (bad_line n x f) (bad_line m y g) = let e : n ≡ m = one_bad_line text n m f g in (ap bad_line_text e, ap BadLine e)
one_trace devices text a b s t (bad_line n x f) (differs i y g d) = absurd (not_both_lines text n f g)
one_trace devices text a b s t (bad_line n x f) (good m y g h e) = absurd (not_both_lines text n f g)
one_trace devices text a b s t (differs i x g f) (too_long y) = absurd (omega (arith, x, y))
one_trace devices text a b s t (differs i x g f) (bad_line n y h) = absurd (not_both_lines text n h g)
one_trace devices text a b s t (differs i x g f) (differs j y h k) =
    let e : i ≡ j = one_difference (new_board devices) (pins_in text) i j f k in (ap differs_line e, ap Differs e)
one_trace devices text a b s t (differs i x g f) (good n y h k e) = absurd (not_both_clocks (new_board devices) (pins_in text) i f k)
one_trace devices text a b s t (good n x g f e) (too_long y) = absurd (omega (arith, x, y))
one_trace devices text a b s t (good n x g f e) (bad_line m y h) = absurd (not_both_lines text m h g)
one_trace devices text a b s t (good n x g f e) (differs i y h k) = absurd (not_both_clocks (new_board devices) (pins_in text) i k f)
one_trace devices text a b s t (good n x g f e) (good m y h k d) =
    let same : n ≡ m = e ∙ sym d in
    (ap (λ k. good_text k (board_led_to (new_board devices) (pins_in text))) same, ap Good same)

one_file : (devices : List Desc) (file : Option (List ℕ)) (a b : List ℕ) (s t : TraceStatus) → FileAnswer devices file a s → FileAnswer devices file b t → AreSame a s b t
one_file devices file a b s t x y =
    one_trace devices y.bytes a b s t (subst (λ (bytes : List ℕ). TraceAnswer devices bytes a s) (same_Some x.bytes y.bytes (sym x.held ∙ y.held)) x.answer) y.answer

refused_same : {m n : ℕ} {r s : BoardReason} → (m ≡ n) × (r ≡ s) → AreSame (board_refusal_line m r) (BoardRefused m r) (board_refusal_line n s) (BoardRefused n s)
refused_same {n = n} {r = r} e =
    (ap (λ k. board_refusal_line k r) e.0 ∙ ap (board_refusal_line n) e.1, ap (λ k. BoardRefused k r) e.0 ∙ ap (BoardRefused n) e.1)

one_asked : (contents : Contents) (a b : List ℕ) (s t : TraceStatus) → RequestAnswer contents a s → RequestAnswer contents b t → AreSame a s b t
one_asked contents a b s t (board_refused m r x) (board_refused n q y) = refused_same (one_fault contents.board m n r q x y)
one_asked contents a b s t (board_refused m r x) (board_read devices text status y z) =
    absurd (board_or_fault contents.board devices m r y x)
one_asked contents a b s t (board_read devices text status x z) (board_refused n q y) =
    absurd (board_or_fault contents.board devices n q x y)
one_asked contents a b s t (board_read devices text status x z) (board_read others text2 status2 y w) =
    one_file others contents.file a b s t
    (subst (λ (ds : List Desc). FileAnswer ds contents.file a s) (one_held contents.board devices others x y) z) w

pub one_words : (words : List (List ℕ)) (files : List (List ℕ × List ℕ)) (a b : List ℕ) (s t : TraceStatus) → Answer words files a s → Answer words files b t → AreSame a s b t
one_words words files a b s t (usage n x) (usage m y) = let e : n ≡ m = one_usage trace_key words n m x y in (ap usage_line e, ap Usage e)
one_words words files a b s t (usage n x) (asked named text status y z) = absurd (no_usage trace_key words named n y x)
one_words words files a b s t (asked named text status x z) (usage m y) = absurd (no_usage trace_key words named m x y)
one_words words files a b s t (asked named text status x z) (asked other text2 status2 y w) =
    one_asked (contents_in files other) a b s t
    (subst (λ (n : FileNames). RequestAnswer (contents_in files n) a s) (one_request trace_key words named other x y) z) w
