-- One scan of a board, with base padding around a run of neighbours, is the scan of the run alone.
use Rattle.std.proofs.Common.{◌≡◌, ◌+◌, ℕ, Bool, true, false, List, [], ◌∷◌, ◌++◌, length, map, refl, sym, ap, subst, ◌∙◌}
use Rattle.std.proofs.lemmas.List.{length-map}
use Rattle.std.proofs.lemmas.List.Sums.{sum_by-cons}
use Rattle.std.proofs.lemmas.Bool.{false≢true}
use Rattle.tap_states.specs.declared.Tap.{Tap}
use Rattle.tap_states.specs.declared.Tap.TheVariants.{Reset, Idle, DrCapture, DrShift, DrPause, DrUpdate, IrCapture, IrShift, IrPause, IrUpdate}
use Rattle.tap_states.specs.Tap.{next_of, is_stable_state}
use Rattle.dev_card.specs.declared.desc.Desc.{Desc}
use Rattle.dev_card.specs.Card.{Card, step, during, entered}
use Rattle.dev_card.specs.Board.{Input, board_tdo, board_step, board_after, after_input, EachCard, AllIn}
use Rattle.dev_card.specs.Line.{shift_state, line_of}
use Rattle.dev_card.specs.Padding.{Paddings, instruction_lengths, base_around, base_pre_of, base_post_of}
use Rattle.dev_card.specs.Clocks.{with_zero, entry_tms, at_shift}
use Rattle.dev_card.specs.Sound.{IsSound, AllSound, AllBypass, register_lengths}
use Rattle.dev_card.specs.PaddedScan.{IsOneScan, descriptions_of, base_of_cards}
use Rattle.dev_card.proofs.Soundness.{sound_board_after}
use Rattle.dev_card.proofs.Reaching.{steps_in, walk_in, entry_leads, line_length, bypass_line}
use Rattle.dev_card.proofs.PaddedLines.{padded_scan_is_same}

abbrev pub is_shift : Tap → Bool
is_shift DrShift = true
is_shift IrShift = true
is_shift _ = false

-- outside the shift states TDI doesn't matter
no_tdi : (s : Tap) (x y : Bool) (c : Card) → is_shift s ≡ false → during s x c ≡ during s y c
no_tdi DrShift x y c e = absurd (false≢true (sym e))
no_tdi IrShift x y c e = absurd (false≢true (sym e))
no_tdi IrCapture x y c e = refl
no_tdi DrCapture x y c e = refl
no_tdi Idle x y c e = refl
no_tdi _ x y c e = refl

pub same_board : (s : Tap) (m : Bool) (cs : List Card) (x y : Bool) → AllIn s cs → is_shift s ≡ false → board_step cs m x ≡ board_step cs m y
same_board s m [] x y h w = refl
same_board s m (c ∷ cs) x y h w =
    let one : step c m (board_tdo cs x) ≡ step c m (board_tdo cs y) = ap (entered (next_of c.tap m)) (no_tdi c.tap (board_tdo cs x) (board_tdo cs y) c (ap is_shift h.0 ∙ w)) in
    ap (λ k. k ∷ board_step cs m x) one ∙ ap (λ ks. step c m (board_tdo cs y) ∷ ks) (same_board s m cs x y h.1 w)

pub tdo_of_both : (xs ys : List Card) (b : Bool) → board_tdo (xs ++ ys) b ≡ board_tdo xs (board_tdo ys b)
tdo_of_both [] ys b = refl
tdo_of_both (x ∷ xs) ys b = refl

pub step_of_both : (xs ys : List Card) (m b : Bool) → board_step (xs ++ ys) m b ≡ board_step xs m (board_tdo ys b) ++ board_step ys m b
step_of_both [] ys m b = refl
step_of_both (x ∷ xs) ys m b = ap (λ t. step x m t ∷ board_step (xs ++ ys) m b) (tdo_of_both xs ys b) ∙ ap (λ t. step x m (board_tdo xs (board_tdo ys b)) ∷ t) (step_of_both xs ys m b)

-- three parts of a board, one clock on, whatever comes in at the end of each
pub parts : (s : Tap) (m : Bool) (front alone back : List Card) (x y : Bool) → AllIn s alone → is_shift s ≡ false
    → board_step (front ++ (alone ++ back)) m x ≡ board_step front m (board_tdo (alone ++ back) x) ++ (board_step alone m y ++ board_step back m x)
parts s m front alone back x y h w =
    step_of_both front (alone ++ back) m x
    ∙ ap (λ t. board_step front m (board_tdo (alone ++ back) x) ++ t) (step_of_both alone back m x ∙ ap (λ t. t ++ board_step back m x) (same_board s m alone (board_tdo back x) y h w))

-- no clock changes a description
desc_of_during : (s : Tap) (b : Bool) (c : Card) → (during s b c).desc ≡ c.desc
desc_of_during IrCapture b c = refl
desc_of_during IrShift b c = refl
desc_of_during DrShift b c = refl
desc_of_during DrCapture b c = refl
desc_of_during Idle b c = refl
desc_of_during _ b c = refl

desc_of_entered : (t : Tap) (c : Card) → (entered t c).desc ≡ c.desc
desc_of_entered IrUpdate c = refl
desc_of_entered DrUpdate c = refl
desc_of_entered Reset c = refl
desc_of_entered _ c = refl

pub descriptions_of_step : (cs : List Card) (m b : Bool) → descriptions_of (board_step cs m b) ≡ descriptions_of cs
descriptions_of_step [] m b = refl
descriptions_of_step (c ∷ cs) m b =
    let d : (step c m (board_tdo cs b)).desc ≡ c.desc = desc_of_entered (next_of c.tap m) (during c.tap (board_tdo cs b) c) ∙ desc_of_during c.tap (board_tdo cs b) c in
    ap (λ t. t ∷ descriptions_of (board_step cs m b)) d ∙ ap (λ t. c.desc ∷ t) (descriptions_of_step cs m b)

pub descriptions_after : (inputs : List Input) (cs : List Card) → descriptions_of (board_after cs inputs) ≡ descriptions_of cs
descriptions_after [] cs = refl
descriptions_after (i ∷ is) cs = descriptions_after is (after_input cs i) ∙ descriptions_of_step cs i.tms i.tdi

abbrev NoShift : Tap → List Bool → Type 0
NoShift s [] = Unit {0}
NoShift s (m ∷ ms) = (is_shift s ≡ false) × NoShift (next_of s m) ms

record Split (ms : List Bool) (front alone back : List Card) : Type 0 where
  left : List Card
  right : List Card
  whole : board_after (front ++ (alone ++ back)) (with_zero ms) ≡ left ++ (board_after alone (with_zero ms) ++ right)
  left_descriptions : descriptions_of left ≡ descriptions_of front
  right_descriptions : descriptions_of right ≡ descriptions_of back

split_walk : (s : Tap) (ms : List Bool) (front alone back : List Card) → NoShift s ms → AllIn s alone → Split ms front alone back
split_walk s [] front alone back n a = record { left = front; right = back; whole = refl; left_descriptions = refl; right_descriptions = refl }
split_walk s (m ∷ ms) front alone back n a =
    let f : Bool = board_tdo (alone ++ back) false in
    let front1 : List Card = board_step front m f in
    let back1 : List Card = board_step back m false in
    let k = split_walk (next_of s m) ms front1 (board_step alone m false) back1 n.1 (steps_in s alone m false a) in
    record {
      left = k.left;
      right = k.right;
      whole = ap (λ b. board_after b (with_zero ms)) (parts s m front alone back false false a n.0) ∙ k.whole;
      left_descriptions = k.left_descriptions ∙ descriptions_of_step front m f;
      right_descriptions = k.right_descriptions ∙ descriptions_of_step back m false;
    }

entry_no_shift : (s : Tap) (ir : Bool) → is_stable_state s ≡ true → NoShift s (entry_tms s ir)
entry_no_shift Reset false e = (refl, (refl, (refl, (refl, tt))))
entry_no_shift Reset true e = (refl, (refl, (refl, (refl, (refl, tt)))))
entry_no_shift Idle false e = (refl, (refl, (refl, tt)))
entry_no_shift Idle true e = (refl, (refl, (refl, (refl, tt))))
entry_no_shift DrPause false e = (refl, (refl, (refl, (refl, (refl, tt)))))
entry_no_shift DrPause true e = (refl, (refl, (refl, (refl, (refl, (refl, tt))))))
entry_no_shift IrPause false e = (refl, (refl, (refl, (refl, (refl, tt)))))
entry_no_shift IrPause true e = (refl, (refl, (refl, (refl, (refl, (refl, tt))))))
entry_no_shift _ ir e = absurd (false≢true e)

module _ (P : Card → Type 0) where
  pub each_left : (xs ys : List Card) → EachCard P (xs ++ ys) → EachCard P xs
  each_left [] ys h = tt
  each_left (x ∷ xs) ys h = (h.0, each_left xs ys h.1)

  pub each_right : (xs ys : List Card) → EachCard P (xs ++ ys) → EachCard P ys
  each_right [] ys h = h
  each_right (x ∷ xs) ys h = each_right xs ys h.1

-- the bits of base padding for so many devices
abbrev pub pad_of : Bool → List Desc → ℕ
pad_of true ds = instruction_lengths ds
pad_of false ds = length ds

pub pre_is_pad : (ir : Bool) (before after : List Desc) → base_pre_of ir (base_around before after) ≡ pad_of ir before
pre_is_pad true before after = refl
pre_is_pad false before after = refl

pub post_is_pad : (ir : Bool) (before after : List Desc) → base_post_of ir (base_around before after) ≡ pad_of ir after
post_is_pad true before after = refl
post_is_pad false before after = refl

pub instruction_width : (cs : List Card) → register_lengths true cs ≡ instruction_lengths (descriptions_of cs)
instruction_width [] = refl
instruction_width (c ∷ cs) =
    ap (λ n. c.desc.ir_len + n) (instruction_width cs) ∙ sym (sum_by-cons (λ x. x) c.desc.ir_len (map (λ (d : Desc). d.ir_len) (descriptions_of cs)))

pad_width : (ir : Bool) (cs : List Card) → AllIn (shift_state ir) cs → AllSound cs → (ir ≡ false → AllBypass cs) → length (line_of ir cs) ≡ pad_of ir (descriptions_of cs)
pad_width true cs a h b = line_length true cs a h ∙ instruction_width cs
pad_width false cs a h b = bypass_line cs a h (b refl) ∙ sym (length-map cs (λ (c : Card). c.desc))

pub one_scan : (at : Tap) (ir : Bool) (before run after : List Card) (p : Paddings) (bits : List Bool) → is_stable_state at ≡ true → AllIn at (before ++ (run ++ after))
    → AllSound (before ++ (run ++ after)) → p.base_pre ≡ base_pre_of ir (base_of_cards before after) → p.base_post ≡ base_post_of ir (base_of_cards before after)
    → IsOneScan at ir before run after p bits
one_scan at ir before run after p bits st a h pre post =
    let board : List Card = before ++ (run ++ after) in
    let In : Tap → Card → Type 0 = λ t c. c.tap ≡ t in
    let run_in : AllIn at run = each_left (In at) run after (each_right (In at) before (run ++ after) a) in
    let k : Split (entry_tms at ir) before run after = split_walk at (entry_tms at ir) before run after (entry_no_shift at ir st) run_in in
    let there : List Card = at_shift at ir run in
    let taps : AllIn (shift_state ir) (k.left ++ (there ++ k.right)) =
    subst (λ b. AllIn (shift_state ir) b) k.whole (subst (λ t. AllIn t (at_shift at ir board)) (entry_leads at ir st) (walk_in at board (entry_tms at ir) a)) in
    let sound : AllSound (k.left ++ (there ++ k.right)) = subst (λ b. AllSound b) k.whole (sound_board_after board (with_zero (entry_tms at ir)) h) in
    let left_in : AllIn (shift_state ir) k.left = each_left (In (shift_state ir)) k.left (there ++ k.right) taps in
    let right_in : AllIn (shift_state ir) k.right = each_right (In (shift_state ir)) there k.right (each_right (In (shift_state ir)) k.left (there ++ k.right) taps) in
    let left_sound : AllSound k.left = each_left IsSound k.left (there ++ k.right) sound in
    let right_sound : AllSound k.right = each_right IsSound there k.right (each_right IsSound k.left (there ++ k.right) sound) in
    record {
      front = k.left;
      back = k.right;
      whole = k.whole;
      front_is = k.left_descriptions;
      back_is = k.right_descriptions;
      same = λ b. padded_scan_is_same ir k.left there k.right p bits
          (pre ∙ pre_is_pad ir (descriptions_of before) (descriptions_of after) ∙ ap (pad_of ir) (sym k.left_descriptions) ∙ sym (pad_width ir k.left left_in left_sound (λ e. (b e).0)))
          (post ∙ post_is_pad ir (descriptions_of before) (descriptions_of after) ∙ ap (pad_of ir) (sym k.right_descriptions) ∙ sym (pad_width ir k.right right_in right_sound (λ e. (b e).1)));
    }
