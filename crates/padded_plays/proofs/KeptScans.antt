-- A quiet scan keeps a padded run, and captures what it captures of the run alone.
use Rattle.std.proofs.Common.{◌≡◌, ◌<◌, ◌+◌, ◌-◌, ◌^◌, ◌||◌, ℕ, suc, zero, Bool, true, false, List, [], ◌∷◌, ◌++◌, length, take, drop, map, replicate, refl, sym, ap, subst, ◌∙◌, arith}
use Rattle.std.proofs.lemmas.List.{append-nil, map-append, length-append, length-map}
use Rattle.std.proofs.lemmas.Bool.{false≢true}
use Rattle.tap_states.specs.declared.Tap.{Tap}
use Rattle.tap_states.specs.declared.Tap.TheVariants.{Reset, Idle, DrCapture, DrShift, DrPause, IrSelect, IrCapture, IrPause}
use Rattle.tap_states.specs.Tap.{next_of, is_stable_state}
use Rattle.tap_states.specs.Path.{walk}
use Rattle.tap_states.specs.Path.{path_of}
use Rattle.dev_card.specs.declared.desc.Desc.{Desc}
use Rattle.dev_card.specs.Card.{Card, step, during, entered, selected_by, in_state}
use Rattle.dev_card.specs.Board.{board_tdo, board_step, board_after, EachCard, AllIn}
use Rattle.dev_card.specs.Line.{list_of, with_list, shift_state, exit_state, pause_state, line_of, cut_back, shifted_out, left_in, AllShift}
use Rattle.dev_card.specs.Padding.{Paddings, base_around, base_pre_of, base_post_of, program_bits, padded, at_data}
use Rattle.dev_card.specs.Clocks.{with_zero, entry_tms, pause_inputs, at_shift, at_pause, board_shifted, board_scanned, shift_inputs, ShiftsAsLine, ScansAsLine}
use Rattle.dev_card.specs.PaddedScan.{descriptions_of, without_base, IsSameScan}
use Rattle.dev_card.specs.Scans.{BoardScan, inputs_of_scan, captured_from, scan_alone}
use Rattle.dev_card.specs.Sound.{IsSound, AllSound, AllBypass}
use Rattle.dev_card.proofs.Unnamed.{all_ones_selects_bypass}
use Rattle.dev_card.proofs.Soundness.{sound_board_step, sound_board_after}
use Rattle.dev_card.proofs.Reaching.{steps_in, walk_in, entry_leads, shift_reached, line_length, bypass_line}
use Rattle.dev_card.proofs.LastClock.{shifts_as_line}
use Rattle.dev_card.proofs.ScanLines.{after-append, scans_as_line, pause_follows}
use Rattle.dev_card.proofs.PaddedLines.{suc_plus, padded_scan_is_same}
use Rattle.dev_card.proofs.Scanning.{captured_is_seen}
use Rattle.dev_card.proofs.OneScan.{is_shift, parts, descriptions_of_step, each_left, each_right, pad_of, pre_is_pad, post_is_pad, instruction_width}
use Rattle.padded_plays.specs.QuietClocks.{IsQuietWalk, loaded_after, IsQuietScan, loaded_by_scan}
use Rattle.padded_plays.specs.PaddedRuns.{is_between_scans, IsPassing, IsPaddedRun, IsPaddedFor, KeepsPaddedRun}
use Rattle.padded_plays.proofs.KeptWalks.{walk_keeps, move_keeps}

-- ---- the way of a scan to its shift

-- the entry list up to the clock from which on it is not quiet, the state there, and the rest of it
abbrev quiet_entry : Tap → Bool → List Bool
quiet_entry Reset false = false ∷ true ∷ false ∷ []
quiet_entry Reset true = false ∷ true ∷ true ∷ []
quiet_entry Idle false = true ∷ false ∷ []
quiet_entry Idle true = true ∷ true ∷ []
quiet_entry _ false = true ∷ true ∷ true ∷ false ∷ []
quiet_entry _ true = true ∷ true ∷ true ∷ true ∷ []

abbrev before_capture : Bool → Tap
before_capture false = DrCapture
before_capture true = IrSelect

abbrev rest_of_entry : Bool → List Bool
rest_of_entry false = false ∷ []
rest_of_entry true = false ∷ false ∷ []

record IsEntry (at : Tap) (ir : Bool) : Type 0 where
  whole : entry_tms at ir ≡ quiet_entry at ir ++ rest_of_entry ir
  quiet : IsQuietWalk at (quiet_entry at ir)
  leads : walk at (quiet_entry at ir) ≡ before_capture ir
  stays_loaded : (loaded : Bool) → loaded_after at (quiet_entry at ir) loaded ≡ loaded

entry_of : (at : Tap) (ir : Bool) → is_stable_state at ≡ true → IsEntry at ir
entry_of Reset false e = record { whole = refl; quiet = (refl, (refl, (refl, tt))); leads = refl; stays_loaded = λ l. refl }
entry_of Reset true e = record { whole = refl; quiet = (refl, (refl, (refl, tt))); leads = refl; stays_loaded = λ l. refl }
entry_of Idle false e = record { whole = refl; quiet = (refl, (refl, tt)); leads = refl; stays_loaded = λ l. refl }
entry_of Idle true e = record { whole = refl; quiet = (refl, (refl, tt)); leads = refl; stays_loaded = λ l. refl }
entry_of DrPause false e = record { whole = refl; quiet = (refl, (refl, (refl, (refl, tt)))); leads = refl; stays_loaded = λ l. refl }
entry_of DrPause true e = record { whole = refl; quiet = (refl, (refl, (refl, (refl, tt)))); leads = refl; stays_loaded = λ l. refl }
entry_of IrPause false e = record { whole = refl; quiet = (refl, (refl, (refl, (refl, tt)))); leads = refl; stays_loaded = λ l. refl }
entry_of IrPause true e = record { whole = refl; quiet = (refl, (refl, (refl, (refl, tt)))); leads = refl; stays_loaded = λ l. refl }
entry_of _ ir e = absurd (false≢true e)

-- the instruction in force is the number of all ones
abbrev HasOnes : Card → Type 0
HasOnes c = c.instruction ≡ 2 ^ c.desc.ir_len - 1

-- the board at the first shift clock
record IsShiftingRun (before run after : List Desc) (ir : Bool) (board alone : List Card) : Type 0 where
  front : List Card
  back : List Card
  whole : board ≡ front ++ (alone ++ back)
  front_is : descriptions_of front ≡ before
  alone_is : descriptions_of alone ≡ run
  back_is : descriptions_of back ≡ after
  front_states : AllIn (shift_state ir) front
  back_states : AllIn (shift_state ir) back
  sound : AllSound board
  front_ones : ir ≡ false → EachCard HasOnes front
  back_ones : ir ≡ false → EachCard HasOnes back

one_has_ones : (b : Bool) (c : Card) → IsPassing true DrCapture c → HasOnes (step c false b)
one_has_ones b c h =
    let k : step c false b ≡ entered DrShift (during DrCapture b c) = ap (λ t. entered (next_of t false) (during t b c)) h.state in
    rw k (h.in_force refl refl)

all_have_ones : (b : Bool) (cs : List Card) → EachCard (IsPassing true DrCapture) cs → EachCard HasOnes (board_step cs false b)
all_have_ones b [] h = tt
all_have_ones b (c ∷ cs) h = (one_has_ones (board_tdo cs b) c h.0, all_have_ones b cs h.1)

pass_in : (loaded : Bool) (at : Tap) (cs : List Card) → EachCard (IsPassing loaded at) cs → AllIn at cs
pass_in loaded at [] h = tt
pass_in loaded at (c ∷ cs) h = (h.0.state, pass_in loaded at cs h.1)

module _ (before run after : List Desc) where
  captured_run : (loaded ir : Bool) (board alone : List Card) → (ir ≡ false → loaded ≡ true) → IsPaddedRun before run after loaded (before_capture ir) board alone
      → IsShiftingRun before run after ir (board_after board (with_zero (rest_of_entry ir))) (board_after alone (with_zero (rest_of_entry ir)))
  captured_run loaded false board alone l h =
      let f : Bool = board_tdo (alone ++ h.back) false in
      let v : loaded ≡ true = l refl in
      record {
        front = board_step h.front false f;
        back = board_step h.back false false;
        whole = ap (λ k. board_step k false false) h.whole ∙ parts DrCapture false h.front alone h.back false false h.states refl;
        front_is = descriptions_of_step h.front false f ∙ h.front_is;
        alone_is = descriptions_of_step alone false false ∙ h.alone_is;
        back_is = descriptions_of_step h.back false false ∙ h.back_is;
        front_states = steps_in DrCapture h.front false f (pass_in loaded DrCapture h.front h.front_passes);
        back_states = steps_in DrCapture h.back false false (pass_in loaded DrCapture h.back h.back_passes);
        sound = sound_board_step board false false h.sound;
        front_ones = λ e. all_have_ones f h.front (subst (λ x. EachCard (IsPassing x DrCapture) h.front) v h.front_passes);
        back_ones = λ e. all_have_ones false h.back (subst (λ x. EachCard (IsPassing x DrCapture) h.back) v h.back_passes);
      }
  captured_run loaded true board alone l h =
      let f : Bool = board_tdo (alone ++ h.back) false in
      let alone1 : List Card = board_step alone false false in
      let back1 : List Card = board_step h.back false false in
      let front1 : List Card = board_step h.front false f in
      let g : Bool = board_tdo (alone1 ++ back1) false in
      record {
        front = board_step front1 false g;
        back = board_step back1 false false;
        whole = ap (λ k. board_step (board_step k false false) false false) h.whole
            ∙ ap (λ k. board_step k false false) (parts IrSelect false h.front alone h.back false false h.states refl)
            ∙ parts IrCapture false front1 alone1 back1 false false (steps_in IrSelect alone false false h.states) refl;
        front_is = descriptions_of_step front1 false g ∙ descriptions_of_step h.front false f ∙ h.front_is;
        alone_is = descriptions_of_step alone1 false false ∙ descriptions_of_step alone false false ∙ h.alone_is;
        back_is = descriptions_of_step back1 false false ∙ descriptions_of_step h.back false false ∙ h.back_is;
        front_states = steps_in IrCapture front1 false g (steps_in IrSelect h.front false f (pass_in loaded IrSelect h.front h.front_passes));
        back_states = steps_in IrCapture back1 false false (steps_in IrSelect h.back false false (pass_in loaded IrSelect h.back h.back_passes));
        sound = sound_board_step (board_step board false false) false false (sound_board_step board false false h.sound);
        front_ones = λ e. absurd (false≢true (sym e));
        back_ones = λ e. absurd (false≢true (sym e));
      }

  with_zero_both : (xs ys : List Bool) → with_zero (xs ++ ys) ≡ with_zero xs ++ with_zero ys
  with_zero_both xs ys = map-append (λ m. record { tms = m; tdi = false }) xs ys

  run_at_shift : (loaded : Bool) (at : Tap) (ir : Bool) (board alone : List Card) → is_stable_state at ≡ true → (ir ≡ false → loaded ≡ true)
      → IsPaddedRun before run after loaded at board alone → IsShiftingRun before run after ir (at_shift at ir board) (at_shift at ir alone)
  run_at_shift loaded at ir board alone st l h =
      let w : IsEntry at ir = entry_of at ir st in
      let Q : List Bool = quiet_entry at ir in
      let R : List Bool = rest_of_entry ir in
      let b : List Card = board_after board (with_zero Q) in
      let a : List Card = board_after alone (with_zero Q) in
      let q : IsPaddedRun before run after (loaded_after at Q loaded) (walk at Q) b a = walk_keeps before run after loaded at board alone Q w.quiet h in
      let p : IsPaddedRun before run after loaded (before_capture ir) b a =
      subst (λ x. IsPaddedRun before run after x (before_capture ir) b a) (w.stays_loaded loaded) (subst (λ t. IsPaddedRun before run after (loaded_after at Q loaded) t b a) w.leads q) in
      let entry : (cs : List Card) → board_after (board_after cs (with_zero Q)) (with_zero R) ≡ at_shift at ir cs = λ cs.
      sym (ap (λ t. board_after cs (with_zero t)) w.whole ∙ ap (board_after cs) (with_zero_both Q R) ∙ after-append (with_zero Q) (with_zero R) cs) in
      subst (λ k. IsShiftingRun before run after ir k (at_shift at ir alone)) (entry board)
      (subst (λ k. IsShiftingRun before run after ir (board_after b (with_zero R)) k) (entry alone) (captured_run loaded ir b a l p))

-- ---- the lines of the devices outside the run are as long as the base padding

ones_are_bypass : (cs : List Card) → AllSound cs → EachCard HasOnes cs → AllBypass cs
ones_are_bypass [] s h = tt
ones_are_bypass (c ∷ cs) s h = (ap (selected_by c.desc) h.0 ∙ all_ones_selects_bypass c.desc s.0.good, ones_are_bypass cs s.1 h.1)

line_is_padding : (ir : Bool) (cs : List Card) → AllIn (shift_state ir) cs → AllSound cs → (ir ≡ false → EachCard HasOnes cs)
    → length (line_of ir cs) ≡ pad_of ir (descriptions_of cs)
line_is_padding true cs a s h = line_length true cs a s ∙ instruction_width cs
line_is_padding false cs a s h = bypass_line cs a s (ones_are_bypass cs s (h refl)) ∙ sym (length-map cs (λ (c : Card). c.desc))

-- ---- ones, cut back into the cards

take_ones : (n m : ℕ) → take n (replicate (n + m) true) ≡ replicate n true
take_ones zero m = refl
take_ones (suc n) m = ap (λ k. take (suc n) (replicate k true)) (sym (suc_plus n m)) ∙ ap (λ t. true ∷ t) (take_ones n m)

drop_ones : (n m : ℕ) → drop n (replicate (n + m) true) ≡ replicate m true
drop_ones zero m = ap (λ k. replicate k true) (omega arith)
drop_ones (suc n) m = ap (λ k. drop (suc n) (replicate k true)) (sym (suc_plus n m)) ∙ drop_ones n m

module _ (ir : Bool) where
  abbrev with_ones : Card → Card
  with_ones c = with_list ir c (replicate (length (list_of ir c)) true)

  cut_ones : (cs : List Card) → cut_back ir cs (replicate (length (line_of ir cs)) true) ≡ map with_ones cs
  cut_ones [] = refl
  cut_ones (c ∷ cs) =
      let w : ℕ = length (list_of ir c) in
      let m : ℕ = length (line_of ir cs) in
      let e : length (line_of ir (c ∷ cs)) ≡ w + m = length-append (list_of ir c) (line_of ir cs) in
      ap (λ k. with_list ir c (take w (replicate k true)) ∷ cut_back ir cs (drop w (replicate k true))) e
      ∙ ap (λ t. with_list ir c t ∷ cut_back ir cs (drop w (replicate (w + m) true))) (take_ones w m)
      ∙ ap (λ t. with_ones c ∷ cut_back ir cs t) (drop_ones w m)
      ∙ ap (λ ks. with_ones c ∷ ks) (cut_ones cs)

  -- cards that left the shift, in the pause
  abbrev paused : List Card → Bool → List Card
  paused cs b = board_step (map (in_state (exit_state ir)) cs) false b

  all_in_exit : (cs : List Card) → AllIn (exit_state ir) (map (in_state (exit_state ir)) cs)
  all_in_exit [] = tt
  all_in_exit (c ∷ cs) = (refl, all_in_exit cs)

one_passes_paused : (ir b : Bool) (c : Card) → IsSound c → (ir ≡ false → HasOnes c) → IsPassing true (pause_state ir) (step (in_state (exit_state ir) (with_ones ir c)) false b)
one_passes_paused true b c s h = record { state = refl; waiting = λ x. ap (λ n. replicate n true) s.ir_length; in_force = λ l x. absurd (false≢true (sym x)) }
one_passes_paused false b c s h = record { state = refl; waiting = λ x. absurd (false≢true x); in_force = λ l x. h refl }

pass_paused : (ir b : Bool) (cs : List Card) → AllSound cs → (ir ≡ false → EachCard HasOnes cs) → EachCard (IsPassing true (pause_state ir)) (paused ir (map (with_ones ir) cs) b)
pass_paused ir b [] s h = tt
pass_paused ir b (c ∷ cs) s h =
    (one_passes_paused ir (board_tdo (map (in_state (exit_state ir)) (map (with_ones ir) cs)) b) c s.0 (λ e. (h e).0), pass_paused ir b cs s.1 (λ e. (h e).1))

map_three : (f : Card → Card) (xs ys zs : List Card) → map f (xs ++ (ys ++ zs)) ≡ map f xs ++ (map f ys ++ map f zs)
map_three f xs ys zs = map-append f xs (ys ++ zs) ∙ ap (λ t. map f xs ++ t) (map-append f ys zs)

exit_is_no_shift : (ir : Bool) → is_shift (exit_state ir) ≡ false
exit_is_no_shift true = refl
exit_is_no_shift false = refl

pause_is_between : (ir : Bool) → is_between_scans (pause_state ir) ≡ true
pause_is_between true = refl
pause_is_between false = refl

run_is_paused : (ir : Bool) (cs : List Card) (b : Bool) → AllIn (pause_state ir) (paused ir cs b)
run_is_paused ir cs b = subst (λ t. AllIn t (paused ir cs b)) (pause_follows ir) (steps_in (exit_state ir) (map (in_state (exit_state ir)) cs) false b (all_in_exit ir cs))

some_line : (ir : Bool) (cs : List Card) → 0 < length cs → AllShift ir cs → 0 < length (line_of ir cs)
some_line ir [] n h = absurd (omega arith)
some_line ir (c ∷ cs) n h = let k = h.0.some in omega (arith, k, length-append (list_of ir c) (line_of ir cs))

loaded_by : (ir loaded : Bool) → (ir ≡ false → loaded ≡ true) → true ≡ ir || loaded
loaded_by true loaded h = refl
loaded_by false loaded h = sym (h refl)

desc_with_list : (ir : Bool) (c : Card) (bits : List Bool) → (with_list ir c bits).desc ≡ c.desc
desc_with_list true c bits = refl
desc_with_list false c bits = refl

descriptions_of_cut : (ir : Bool) (cs : List Card) (line : List Bool) → descriptions_of (map (in_state (exit_state ir)) (cut_back ir cs line)) ≡ descriptions_of cs
descriptions_of_cut ir [] line = refl
descriptions_of_cut ir (c ∷ cs) line =
    let n : ℕ = length (list_of ir c) in
    ap (λ d. d ∷ descriptions_of (map (in_state (exit_state ir)) (cut_back ir cs (drop n line)))) (desc_with_list ir c (take n line))
    ∙ ap (λ ds. c.desc ∷ ds) (descriptions_of_cut ir cs (drop n line))

descriptions_of_paused : (ir : Bool) (cs : List Card) (line : List Bool) (b : Bool) → descriptions_of (paused ir (cut_back ir cs line) b) ≡ descriptions_of cs
descriptions_of_paused ir cs line b = descriptions_of_step (map (in_state (exit_state ir)) (cut_back ir cs line)) false b ∙ descriptions_of_cut ir cs line

descriptions_of_ones : (ir : Bool) (cs : List Card) (b : Bool) → descriptions_of (paused ir (map (with_ones ir) cs) b) ≡ descriptions_of cs
descriptions_of_ones ir cs b =
    ap (λ k. descriptions_of (paused ir k b)) (sym (cut_ones ir cs)) ∙ descriptions_of_paused ir cs (replicate (length (line_of ir cs)) true) b

module _ (P : Card → Type 0) where
  each_both : (xs ys : List Card) → EachCard P xs → EachCard P ys → EachCard P (xs ++ ys)
  each_both [] ys a b = b
  each_both (x ∷ xs) ys a b = (a.0, each_both xs ys a.1 b)

-- ---- the shift, and the clock to the pause

module _ (before run after : List Desc) (ir : Bool) (p : Paddings) (bits : List Bool) (board alone : List Card) where
  -- how the run and the board come to the pause
  record IsPausedRun : Type 0 where
    kept : IsPaddedRun before run after true (pause_state ir) (at_pause ir board (padded p bits)) (at_pause ir alone (padded (without_base p) bits))
    same_captured : at_data p (length bits) (shifted_out (line_of ir board) (padded p bits))
        ≡ at_data (without_base p) (length bits) (shifted_out (line_of ir alone) (padded (without_base p) bits))

  run_at_pause : IsShiftingRun before run after ir board alone → p.base_pre ≡ base_pre_of ir (base_around before after) → p.base_post ≡ base_post_of ir (base_around before after)
      → length (program_bits p bits) ≡ length (line_of ir alone) → AllSound (at_pause ir board (padded p bits)) → IsPausedRun
  run_at_pause c pre post len sound =
      let M : List Bool = program_bits p bits in
      let X : List Bool = padded p bits in
      let none : M ++ [] ≡ M = append-nil M in
      let F : List Card = c.front in
      let B : List Card = c.back in
      let both : AllSound (F ++ (alone ++ B)) = subst (λ k. AllSound k) c.whole c.sound in
      let front_sound : AllSound F = each_left IsSound F (alone ++ B) both in
      let back_sound : AllSound B = each_right IsSound alone B (each_right IsSound F (alone ++ B) both) in
      let pre_line : p.base_pre ≡ length (line_of ir F) =
      pre ∙ pre_is_pad ir before after ∙ ap (pad_of ir) (sym c.front_is) ∙ sym (line_is_padding ir F c.front_states front_sound c.front_ones) in
      let post_line : p.base_post ≡ length (line_of ir B) =
      post ∙ post_is_pad ir before after ∙ ap (pad_of ir) (sym c.back_is) ∙ sym (line_is_padding ir B c.back_states back_sound c.back_ones) in
      let law : IsSameScan ir F alone B p bits = padded_scan_is_same ir F alone B p bits pre_line post_line in
      let ex : Card → Card = in_state (exit_state ir) in
      let F1 : List Card = map (with_ones ir) F in
      let A1 : List Card = cut_back ir alone M in
      let B1 : List Card = map (with_ones ir) B in
      let front_cut : cut_back ir F (replicate p.base_pre true) ≡ F1 = ap (λ n. cut_back ir F (replicate n true)) pre_line ∙ cut_ones ir F in
      let back_cut : cut_back ir B (replicate p.base_post true) ≡ B1 = ap (λ n. cut_back ir B (replicate n true)) post_line ∙ cut_ones ir B in
      let cut : cut_back ir board (left_in (line_of ir board) X) ≡ F1 ++ (A1 ++ B1) =
      ap (λ k. cut_back ir k (left_in (line_of ir k) X)) c.whole ∙ law.exact len ∙ ap (λ t. t ++ (A1 ++ cut_back ir B (replicate p.base_post true))) front_cut ∙ ap (λ t. F1 ++ (A1 ++ t)) back_cut in
      let f : Bool = board_tdo (map ex A1 ++ map ex B1) false in
      let whole : at_pause ir board X ≡ paused ir F1 f ++ (paused ir A1 false ++ paused ir B1 false) =
      ap (λ k. paused ir k false) cut ∙ ap (λ k. board_step k false false) (map_three ex F1 A1 B1)
      ∙ parts (exit_state ir) false (map ex F1) (map ex A1) (map ex B1) false false (all_in_exit ir A1) (exit_is_no_shift ir) in
      let zero_more : length M - length (line_of ir alone) ≡ 0 = omega (arith, len) in
      let rest : left_in (line_of ir alone) M ≡ M = law.last (omega (arith, len)) ∙ ap (λ k. drop k M) zero_more in
      let there : at_pause ir alone (M ++ []) ≡ paused ir A1 false = ap (λ z. at_pause ir alone z) none ∙ ap (λ z. paused ir (cut_back ir alone z) false) rest in
      record {
        kept = record {
          front = paused ir F1 f;
          back = paused ir B1 false;
          whole = whole ∙ ap (λ t. paused ir F1 f ++ (t ++ paused ir B1 false)) (sym there);
          front_is = descriptions_of_ones ir F f ∙ c.front_is;
          alone_is = ap (λ k. descriptions_of k) there ∙ descriptions_of_paused ir alone M false ∙ c.alone_is;
          back_is = descriptions_of_ones ir B false ∙ c.back_is;
          between = pause_is_between ir;
          states = subst (λ k. AllIn (pause_state ir) k) (sym there) (run_is_paused ir A1 false);
          sound = sound;
          front_passes = pass_paused ir f F front_sound c.front_ones;
          back_passes = pass_paused ir false B back_sound c.back_ones;
        };
        same_captured = ap (λ z. at_data p (length bits) (shifted_out (line_of ir z) X)) c.whole ∙ law.captured_same (omega (arith, len))
            ∙ ap (λ z. at_data (without_base p) (length bits) (shifted_out (line_of ir alone) z)) (sym none);
      }

-- ---- the whole scan

longer : (n m : ℕ) (bits : List Bool) → 0 < length bits → 0 < length (replicate n true ++ (bits ++ replicate m true))
longer n m bits h = omega (arith, h, length-append (replicate n true) (bits ++ replicate m true), length-append bits (replicate m true))

pub scan_keeps : (before run after : List Desc) (loaded : Bool) (at : Tap) (board alone : List Card) (s : BoardScan) → 0 < length run → is_stable_state at ≡ true
    → IsPaddedFor before after s → IsQuietScan loaded at alone s → IsPaddedRun before run after loaded at board alone → KeepsPaddedRun before run after loaded at board alone s
scan_keeps before run after loaded at board alone s some st b q h =
    let ir : Bool = s.ir in
    let p : Paddings = s.paddings in
    let M : List Bool = program_bits p s.bits in
    let X : List Bool = padded p s.bits in
    let Y : List Bool = padded (without_base p) s.bits in
    let K : List Card = at_shift at ir board in
    let A : List Card = at_shift at ir alone in
    let c : IsShiftingRun before run after ir K A = run_at_shift before run after loaded at ir board alone st q.loaded_before h in
    let alone_sound : AllSound alone = each_left IsSound alone h.back (each_right IsSound h.front (alone ++ h.back) (subst (λ k. AllSound k) h.whole h.sound)) in
    let states : AllIn at board = subst (λ k. AllIn at k) (sym h.whole)
    (each_both (λ x. x.tap ≡ at) h.front (alone ++ h.back) (pass_in loaded at h.front h.front_passes) (each_both (λ x. x.tap ≡ at) alone h.back h.states (pass_in loaded at h.back h.back_passes))) in
    let A_states : AllIn (shift_state ir) A = subst (λ t. AllIn t A) (entry_leads at ir st) (walk_in at alone (entry_tms at ir) h.states) in
    let A_sound : AllSound A = sound_board_after alone (with_zero (entry_tms at ir)) alone_sound in
    let len : length M ≡ length (line_of ir A) = q.as_long ∙ sym (line_length ir A A_states A_sound) in
    let count : length A ≡ length run = sym (length-map A (λ (x : Card). x.desc)) ∙ ap (λ k. length k) c.alone_is in
    let line : 0 < length (line_of ir A) = some_line ir A (omega (arith, some, count)) (shift_reached at ir alone st h.states alone_sound) in
    let M_some : 0 < length M = omega (arith, len, line) in
    let X_some : 0 < length X = longer p.base_pre p.base_post M M_some in
    let Y_some : 0 < length Y = longer 0 0 M M_some in
    let S : ScansAsLine at ir s.stop board X = scans_as_line at ir s.stop board X st X_some states h.sound in
    let T : ScansAsLine at ir s.stop alone Y = scans_as_line at ir s.stop alone Y st Y_some h.states alone_sound in
    let shift : ShiftsAsLine ir K X = shifts_as_line ir K X X_some (shift_reached at ir board st states h.sound) in
    let K_sound : AllSound (at_pause ir K X) =
    sound_board_after (board_shifted ir K X) pause_inputs (subst (λ k. AllSound k) shift.board (sound_board_after K (shift_inputs X) c.sound)) in
    let r : IsPausedRun before run after ir p s.bits K A = run_at_pause before run after ir p s.bits K A c b.pre b.post len K_sound in
    let way : List Bool = path_of (pause_state ir) s.stop in
    let m : IsPaddedRun before run after (loaded_after (pause_state ir) way true) s.stop (board_scanned at ir s.stop board X) (board_scanned at ir s.stop alone Y) =
    move_keeps before run after true (pause_state ir) s.stop (at_pause ir K X) (at_pause ir A Y) q.quiet_stop r.kept in
    let n : IsPaddedRun before run after (loaded_by_scan loaded s) s.stop (board_scanned at ir s.stop board X) (board_scanned at ir s.stop alone Y) =
    subst (λ l. IsPaddedRun before run after (loaded_after (pause_state ir) way l) s.stop (board_scanned at ir s.stop board X) (board_scanned at ir s.stop alone Y))
    (loaded_by ir loaded q.loaded_before) m in
    record {
      kept = subst (λ k. IsPaddedRun before run after (loaded_by_scan loaded s) s.stop k (board_after alone (inputs_of_scan at (scan_alone s)))) (sym S.board)
          (subst (λ k. IsPaddedRun before run after (loaded_by_scan loaded s) s.stop (board_scanned at ir s.stop board X) k) (sym T.board) n);
      same_captured = ap (captured_from at s) S.clocks ∙ captured_is_seen at s board ∙ r.same_captured ∙ sym (captured_is_seen at (scan_alone s) alone)
          ∙ sym (ap (captured_from at (scan_alone s)) T.clocks);
    }
