-- The reader's steps: one more line, the first fault, and the end.
use Rattle.std.proofs.Common.{◌≡◌, ◌<◌, ◌≤◌, ◌+◌, ◌-◌, ◌++◌, ℕ, List, [], ◌∷◌, length, take, drop, get_or, refl, sym, ap, subst, ◌∙◌, Bool, true, false, cond, Option, Some, None, IsSome, All, arith, add-one, inl, inr, Bor}
use Rattle.std.specs.Prelude.{option_to_list}
use Rattle.std.specs.Option.{option_map, option_map_or}
use Rattle.std.specs.Str.Lines.{lines}
use Rattle.std.proofs.Math.Seq.{take-length, drop-length}
use Rattle.std.proofs.lemmas.Bool.{false≢true}
use Rattle.std.proofs.lemmas.List.{append_cancel_left, length-drop, drop-drop, get_or-drop}
use borrow.Author.Count.{below_more}
use Rattle.dev_card.specs.declared.desc.RegDesc.{RegDesc}
use Rattle.dev_card.specs.declared.desc.Desc.{Desc}
use Rattle.dev_card.specs.Descriptions.{IsGood}
use Rattle.board_text.specs.declared.reason.BoardReason.{BoardReason}
use Rattle.board_text.specs.declared.reason.BoardReason.TheVariants as reasons
use Rattle.board_text.specs.declared.shapes.Shape.{Shape}
use Rattle.board_text.specs.Lines.{words_of, is_skipped, texts}
use Rattle.board_text.specs.Shapes.{shape_of}
use Rattle.board_text.specs.Contents.{content_of, line_content}
use Rattle.board_text.specs.Boards.{most_bytes, open_device, with_register, with_last_register, devices_after, devices_of, devices_with, HasReason, HasReasonAt, IsSmallest, AreFaultless, IsUnfinished, IsBoard, IsFirstFault}
use Rattle.board_text.specs.Reading.{IsNarrow, LeadsTo, IsReadUpTo}
use Rattle.board_text.proofs.GoodDevices.{begun_good}
use Rattle.board_text.proofs.Faultless.{AreBegun, IsLast, last_device, take_front, all_whole}
use Rattle.board_text.proofs.LineSteps.{devices_more, all_begun, all_narrow}

-- the last device has one more register
added_to : (earlier front later : List Desc) (r : RegDesc) (d e : Desc) (o : Option Desc) → open_device earlier ≡ o → IsSome o → earlier ≡ front ++ d ∷ [] → e ≡ with_register r d →
    later ≡ front ++ e ∷ [] → later ≡ option_map_or (with_last_register earlier r) o earlier
added_to earlier front later r d e None owner_is some whole e_is later_is = absurd (false≢true some)
added_to earlier front later r d e (Some x) owner_is some whole e_is later_is =
    let last : IsLast earlier x = last_device earlier x owner_is in
    let before : take (length earlier - 1) earlier ≡ front = ap (λ (ds : List Desc). take (length ds - 1) ds) whole ∙ take_front front d in
    let ends : d ∷ [] ≡ x ∷ [] = append_cancel_left front (d ∷ []) (x ∷ []) (sym whole ∙ last.split ∙ ap (λ (f : List Desc). f ++ x ∷ []) before) in
    let same : d ≡ x = cc in
    later_is ∙ ap (λ (f : List Desc). f ++ e ∷ []) (sym before) ∙ ap (λ (y : Desc). take (length earlier - 1) earlier ++ y ∷ []) (e_is ∙ ap (with_register r) same)

pub register_added : (earlier front later : List Desc) (popped : Option Desc) (r s : RegDesc) (d e : Desc) → IsSome (open_device earlier) → earlier ≡ front ++ option_to_list popped → popped ≡ Some d →
    r ≡ s → e ≡ with_register r d → later ≡ front ++ e ∷ [] → later ≡ option_map_or (with_last_register earlier s) (open_device earlier) earlier
register_added earlier front later popped r s d e some split popped_is same e_is later_is =
    added_to earlier front later s d e (open_device earlier) refl some (split ∙ ap (λ (o : Option Desc). front ++ option_to_list o) popped_is)
    (e_is ∙ ap (λ (x : RegDesc). with_register x d) same) later_is

-- what a line says, by the shape of its words
pub content_is : (items found read : List (Bor (List ℕ))) (line : List ℕ) (shape : Shape) → texts items ≡ words_of line → found ≡ items → read ≡ items → Some shape ≡ shape_of (texts found) →
    Some (content_of (texts read) shape) ≡ line_content (words_of line)
content_is items found read line shape words f r e =
    ap (λ (ws : List (List ℕ)). Some (content_of ws shape)) (ap texts r ∙ words) ∙ ap (option_map (content_of (words_of line))) (e ∙ ap shape_of (ap texts f ∙ words))

-- a line without a fault
leads_at : (skipped : Bool) (earlier : List Desc) (line : List ℕ) (later : List Desc) → is_skipped line ≡ skipped → LeadsTo skipped earlier line later → later ≡ devices_after earlier line
leads_at true earlier line later e leads = leads ∙ sym (ap (λ (b : Bool). cond b earlier (devices_with earlier (line_content (words_of line)))) e)
leads_at false earlier line later e leads = leads.later_is ∙ sym (ap (λ (b : Bool). cond b earlier (devices_with earlier (line_content (words_of line)))) e)

none_at : (skipped : Bool) (earlier : List Desc) (line : List ℕ) (later : List Desc) → is_skipped line ≡ skipped → LeadsTo skipped earlier line later → is_skipped line ≡ false →
    (reason : BoardReason) → HasReason earlier line reason → ⊥
none_at true earlier line later e leads not reason h = false≢true (sym not ∙ e)
none_at false earlier line later e leads not reason h = leads.faultless reason h

front_line : (ls : List (List ℕ)) (n : ℕ) (line : List ℕ) (rest : List (List ℕ)) → drop n ls ≡ line ∷ rest → get_or ls n [] ≡ line
front_line ls n line rest e =
    sym (get_or-drop n ls 0 [] ∙ ap (λ (k : ℕ). get_or ls k []) (omega arith)) ∙ ap (λ (r : List (List ℕ)). get_or r 0 []) e

pub line_read : (text rest : List ℕ) (at count : ℕ) (earlier later : List Desc) (line : List ℕ) (len : ℕ) → rest ≡ drop at text → IsReadUpTo text at count earlier →
    0 < len → len ≤ length rest → lines rest ≡ line ∷ lines (drop len rest) → LeadsTo (is_skipped line) earlier line later →
    IsReadUpTo text (at + len) (count + 1) later
line_read text rest at count earlier later line len rest_is r some within line_is leads =
    let is : lines (drop at text) ≡ line ∷ lines (drop len (drop at text)) = subst (λ (x : List ℕ). lines x ≡ line ∷ lines (drop len x)) rest_is line_is in
    let ls : List (List ℕ) = lines text in
    let front : drop count ls ≡ line ∷ lines (drop len (drop at text)) = r.rest ∙ is in
    let inside : count < length ls = omega (arith, ap length front, length-drop count ls) in
    let here : get_or ls count [] ≡ line = front_line ls count line _ front in
    let same : earlier ≡ devices_of (take count ls) = r.given in
    let none : (reason : BoardReason) → ¬ HasReasonAt ls count reason =
    λ reason h. none_at (is_skipped line) earlier line later refl leads (sym (ap is_skipped here) ∙ h.not_skipped) reason
    (subst (λ (l : List ℕ). HasReason earlier l reason) here (subst (λ (ds : List Desc). HasReason ds (get_or ls count []) reason) (sym same) h.holds)) in
    let after : drop (count + 1) ls ≡ lines (drop (at + len) text) =
    sym (drop-drop 1 count ls) ∙ ap (drop 1) front ∙ ap lines (drop-drop len at text) in
    record {
      within = omega (arith, length-drop at text, ap length rest_is);
      counted = omega (arith, r.counted);
      inside = omega arith;
      rest = after;
      faultless = below_more (λ (place : ℕ). (reason : BoardReason) → ¬ HasReasonAt ls place reason) count r.faultless none;
      given = leads_at (is_skipped line) earlier line later refl leads ∙ ap (λ (l : List ℕ). devices_after earlier l) (sym here) ∙ ap (λ (ds : List Desc). devices_after ds (get_or ls count [])) same
          ∙ sym (devices_more ls count inside) ∙ ap (λ (k : ℕ). devices_of (take k ls)) (sym (add-one count));
    }

pub fault_read : (text rest : List ℕ) (at count : ℕ) (earlier : List Desc) (line : List ℕ) (len : ℕ) (n : ℕ) (reason : BoardReason) → length text ≤ most_bytes →
    rest ≡ drop at text → IsReadUpTo text at count earlier → lines rest ≡ line ∷ lines (drop len rest) →
    n ≡ count + 1 → is_skipped line ≡ false → IsSmallest (HasReason earlier line) reason → IsFirstFault text n reason
fault_read text rest at count earlier line len n reason short rest_is r line_is number not_skipped least =
    let is : lines (drop at text) ≡ line ∷ lines (drop len (drop at text)) = subst (λ (x : List ℕ). lines x ≡ line ∷ lines (drop len x)) rest_is line_is in
    let ls : List (List ℕ) = lines text in
    let front : drop count ls ≡ line ∷ lines (drop len (drop at text)) = r.rest ∙ is in
    let inside : count < length ls = omega (arith, ap length front, length-drop count ls) in
    let here : line ≡ get_or ls count [] = sym (front_line ls count line _ front) in
    let there : IsSmallest (HasReason (devices_of (take count ls)) (get_or ls count [])) reason =
    subst (λ (l : List ℕ). IsSmallest (HasReason (devices_of (take count ls)) l) reason) here (subst (λ (ds : List Desc). IsSmallest (HasReason ds line) reason) r.given least) in
    inr (inl (record {
      short = short;
      before = count;
      line_is = number;
      inside = inside;
      faultless = r.faultless;
      reason_is = record {
        holds = record { not_skipped = sym (ap is_skipped here) ∙ not_skipped; holds = there.holds };
        smallest = λ other h. there.smallest other h.holds;
      };
    }))

-- all lines are read
record IsWhole (text : List ℕ) (count : ℕ) (devices : List Desc) : Type 0 where
  count_is : count ≡ length (lines text)
  faultless : AreFaultless (lines text) (length (lines text))
  given : devices ≡ devices_of (lines text)

whole_read : (text : List ℕ) (at count : ℕ) (devices : List Desc) → IsReadUpTo text at count devices → length text ≤ at → IsWhole text count devices
whole_read text at count devices r end =
    let ls : List (List ℕ) = lines text in
    let all : at ≡ length text = omega (arith, r.within) in
    let none : drop at text ≡ [] = ap (λ (k : ℕ). drop k text) all ∙ drop-length text in
    let rest : drop count ls ≡ [] = r.rest ∙ ap lines none in
    let count_is : count ≡ length ls = omega (arith, r.inside, ap length rest, length-drop count ls) in
    let taken : take count ls ≡ ls = ap (λ (k : ℕ). take k ls) count_is ∙ take-length ls in
    record { count_is = count_is; faultless = subst (AreFaultless ls) count_is r.faultless; given = r.given ∙ ap devices_of taken }

pub board_read : (text : List ℕ) (at count : ℕ) (devices : List Desc) → length text ≤ most_bytes → IsReadUpTo text at count devices → length text ≤ at →
    ¬ IsUnfinished devices → IsBoard text devices
board_read text at count devices short r end finished =
    let whole : IsWhole text count devices = whole_read text at count devices r end in
    record { short = short; faultless = whole.faultless; described = whole.given; finished = finished }

pub end_read : (text : List ℕ) (at count n : ℕ) (devices : List Desc) (reason : BoardReason) → length text ≤ most_bytes → IsReadUpTo text at count devices → length text ≤ at →
    IsUnfinished devices → n ≡ count + 1 → reason ≡ reasons.Empty → IsFirstFault text n reason
end_read text at count n devices reason short r end unfinished n_is reason_is =
    let whole : IsWhole text count devices = whole_read text at count devices r end in
    inr (inr (record {
      short = short;
      faultless = whole.faultless;
      unfinished = subst IsUnfinished whole.given unfinished;
      line_is = n_is ∙ ap (λ (k : ℕ). k + 1) whole.count_is;
      reason_is = reason_is;
    }))

pub begun_so_far : (text : List ℕ) (at count : ℕ) (devices : List Desc) → IsReadUpTo text at count devices → AreBegun devices
begun_so_far text at count devices r = subst AreBegun (sym r.given) (all_begun (lines text) count r.inside r.faultless)

pub narrow_so_far : (text : List ℕ) (at count : ℕ) (devices : List Desc) → IsReadUpTo text at count devices → All IsNarrow devices
narrow_so_far text at count devices r = all_narrow devices (begun_so_far text at count devices r)

pub good_at_end : (devices : List Desc) → AreBegun devices → ¬ IsUnfinished devices → All IsGood devices
good_at_end devices all finished k d lt = begun_good _ (all.begun k d lt) (all_whole devices all.whole (λ h. finished (inr h)) k d lt)
