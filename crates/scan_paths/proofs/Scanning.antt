-- The calls of a scan, one after another, and the scan of its line.
use Rattle.std.proofs.Common.{◌≡◌, ◌<◌, ◌≤◌, ◌+◌, ℕ, Bool, true, false, List, [], ◌∷◌, ◌++◌, take, drop, length, map, Option, Some, None, refl, sym, ap, subst, ◌∙◌, arith}
use Rattle.std.proofs.lemmas.List.{length-map, length-drop, length-take-le, drop-append-le}
use Rattle.std.proofs.Math.Seq.{drop-append_seam, take-append_seam}
use Rattle.std.specs.Option.{option_map}
use Rattle.tap_states.specs.declared.Tap.{Tap}
use Rattle.tap_states.specs.Tap.{next_of, is_stable_state}
use Rattle.tap_states.specs.Path.{walk}
use Rattle.dev_card.specs.Card.{Card}
use Rattle.dev_card.specs.Board.{Input, clocks_of, board_after, after_input, AllIn}
use Rattle.dev_card.specs.Line.{shift_state, exit_state, pause_state}
use Rattle.dev_card.specs.Clocks.{with_zero, entry_tms, entry_inputs, shift_inputs, part_inputs, pause_inputs, stop_inputs, ScansAsLine}
use Rattle.dev_card.specs.Sound.{AllSound}
use Rattle.dev_card.specs.Scans.{BoardScan, scan_bits, inputs_of_scan, board_after_scan, captured_bits, captured_from, IsScanOfRun, IsScanOfEachRun}
use Rattle.dev_card.proofs.Reaching.{steps_in, entry_leads}
use Rattle.dev_card.proofs.ScanLines.{scans_as_line, clocks-append}
use Rattle.dev_card.proofs.Scanning.{inputs_of_whole, captured_is_seen, scan_of_run, some_bits}
use Rattle.scan_paths.specs.Cables.{Signal, HasMade, HasMadeFront, WhereTold}
use Rattle.scan_paths.specs.Scans.{HasSeen, HasScanned, HasScannedFront}
use Rattle.scan_paths.proofs.CallsInARow.{made_both, front_longer, front_after}
use Rattle.scan_paths.proofs.Capturing.{seen_after, seen_before, made_of_seen}
use Rattle.scan_paths.proofs.Arriving.{told_then}

-- five calls in a row, of which the third captures
module _ {C : Type 0} (board : C → Option (List Card)) (makes : C → List Signal → C → Type 0)
    (both : (a b c : C) (front back : List Signal) → makes a front b → makes b back c → makes a (front ++ back) c)
    (all i1 i2 i3 i4 i5 : List Input) (e : all ≡ i1 ++ (i2 ++ (i3 ++ (i4 ++ i5)))) where
  pub five_made : (a b c d f h : C) (bits : List Bool) → HasMade board makes a b i1 → HasMade board makes b c i2 → HasSeen board makes c d i3 0 bits →
      HasMade board makes d f i4 → HasMade board makes f h i5 → HasSeen board makes a h all (length i1 + (length i2 + 0)) bits
  five_made a b c d f h bits p1 p2 p3 p4 p5 =
      subst (λ z. HasSeen board makes a h z (length i1 + (length i2 + 0)) bits) (sym e)
      (seen_after board makes both a b h i1 (i2 ++ (i3 ++ (i4 ++ i5))) (length i2 + 0) bits p1
      (seen_after board makes both b c h i2 (i3 ++ (i4 ++ i5)) 0 bits p2
      (seen_before board makes both c d h i3 (i4 ++ i5) 0 bits p3 (made_both board makes both d f h i4 i5 p4 p5))))

  failed : (a b : C) → HasMadeFront board makes a b (i1 ++ (i2 ++ (i3 ++ (i4 ++ i5)))) → HasMadeFront board makes a b all
  failed a b f = subst (λ z. HasMadeFront board makes a b z) (sym e) f

  pub failed_1 : (a b : C) → HasMadeFront board makes a b i1 → HasMadeFront board makes a b all
  failed_1 a b f1 = failed a b (front_longer board makes a b i1 (i2 ++ (i3 ++ (i4 ++ i5))) f1)

  pub failed_2 : (a b c : C) → HasMade board makes a b i1 → HasMadeFront board makes b c i2 → HasMadeFront board makes a c all
  failed_2 a b c p1 f2 = failed a c
      (front_after board makes both a b c i1 (i2 ++ (i3 ++ (i4 ++ i5))) p1 (front_longer board makes b c i2 (i3 ++ (i4 ++ i5)) f2))

  pub failed_3 : (a b c d : C) → HasMade board makes a b i1 → HasMade board makes b c i2 → HasMadeFront board makes c d i3 → HasMadeFront board makes a d all
  failed_3 a b c d p1 p2 f3 = failed a d
      (front_after board makes both a b d i1 (i2 ++ (i3 ++ (i4 ++ i5))) p1
      (front_after board makes both b c d i2 (i3 ++ (i4 ++ i5)) p2 (front_longer board makes c d i3 (i4 ++ i5) f3)))

  pub failed_4 : (a b c d f : C) (bits : List Bool) → HasMade board makes a b i1 → HasMade board makes b c i2 → HasSeen board makes c d i3 0 bits →
      HasMadeFront board makes d f i4 → HasMadeFront board makes a f all
  failed_4 a b c d f bits p1 p2 p3 f4 = failed a f
      (front_after board makes both a b f i1 (i2 ++ (i3 ++ (i4 ++ i5))) p1
      (front_after board makes both b c f i2 (i3 ++ (i4 ++ i5)) p2
      (front_after board makes both c d f i3 (i4 ++ i5) (made_of_seen board makes c d i3 0 bits p3) (front_longer board makes d f i4 i5 f4))))

  pub failed_5 : (a b c d f h : C) (bits : List Bool) → HasMade board makes a b i1 → HasMade board makes b c i2 → HasSeen board makes c d i3 0 bits →
      HasMade board makes d f i4 → HasMadeFront board makes f h i5 → HasMadeFront board makes a h all
  failed_5 a b c d f h bits p1 p2 p3 p4 f5 = failed a h
      (front_after board makes both a b h i1 (i2 ++ (i3 ++ (i4 ++ i5))) p1
      (front_after board makes both b c h i2 (i3 ++ (i4 ++ i5)) p2
      (front_after board makes both c d h i3 (i4 ++ i5) (made_of_seen board makes c d i3 0 bits p3) (front_after board makes both d f h i4 i5 p4 f5))))

-- the TAP states on the way
abbrev tms_of : List Input → List Bool
tms_of is = map (λ (i : Input). i.tms) is

all_after : (s : Tap) (is : List Input) (cs : List Card) → AllIn s cs → AllIn (walk s (tms_of is)) (board_after cs is)
all_after s [] cs h = h
all_after s (i ∷ is) cs h = all_after (next_of s i.tms) is (after_input cs i) (steps_in s cs i.tms i.tdi h)

tms-with_zero : (ms : List Bool) → tms_of (with_zero ms) ≡ ms
tms-with_zero [] = refl
tms-with_zero (m ∷ ms) = ap (λ z. m ∷ z) (tms-with_zero ms)

entry_walks : (at : Tap) (ir : Bool) → is_stable_state at ≡ true → walk at (tms_of (entry_inputs at ir)) ≡ shift_state ir
entry_walks at ir h = ap (walk at) (tms-with_zero (entry_tms at ir)) ∙ entry_leads at ir h

shift_walks : (ir : Bool) (bits : List Bool) → 0 < length bits → walk (shift_state ir) (tms_of (shift_inputs bits)) ≡ exit_state ir
shift_walks ir [] h = absurd (omega arith)
shift_walks true (b ∷ []) h = refl
shift_walks false (b ∷ []) h = refl
shift_walks true (b ∷ c ∷ bs) h = shift_walks true (c ∷ bs) (omega arith)
shift_walks false (b ∷ c ∷ bs) h = shift_walks false (c ∷ bs) (omega arith)

pause_walks : (ir : Bool) → walk (exit_state ir) (tms_of pause_inputs) ≡ pause_state ir
pause_walks true = refl
pause_walks false = refl

told_walked : (old new : Option (List Card)) (at to : Tap) (is : List Input) → walk at (tms_of is) ≡ to → new ≡ option_map (λ cs. board_after cs is) old →
    WhereTold old (AllIn at) → WhereTold new (AllIn to)
told_walked old new at to is w e h =
    told_then old new (λ cs. board_after cs is) (AllIn at) (AllIn to) e h (λ cs a. subst (λ t. AllIn t (board_after cs is)) w (all_after at is cs a))

-- the captured bits among all that was seen
cut_out : (front captured back : List Bool) (e p n : ℕ) → length front ≡ e + p → length captured ≡ n →
    captured ≡ take n (drop p (drop e (front ++ (captured ++ back))))
cut_out front captured back e p n h k =
    let X : List Bool = captured ++ back in
    let rest : List Bool = drop e front in
    let m : p ≡ length rest = omega (arith, length-drop e front, h) in
    sym (ap (λ z. take n (drop p z)) (drop-append-le e front X (omega (arith, h))) ∙ ap (λ j. take n (drop j (rest ++ X))) m
    ∙ ap (take n) (drop-append_seam rest X) ∙ ap (λ j. take j X) (sym k) ∙ take-append_seam captured back)

pub some_taken : (n : ℕ) (bits : List Bool) → 1 ≤ n → n ≤ length bits → 0 < length (take n bits)
some_taken n bits h k = omega (arith, length-take-le n bits k, h)

told_same : (o : Option (List Card)) (f h : List Card → List Card) → ((cs : List Card) → o ≡ Some cs → f cs ≡ h cs) → option_map f o ≡ option_map h o
told_same None f h e = refl
told_same (Some cs) f h e = ap Some (e cs refl)

-- the four calls of a scan
module _ {C : Type 0} (board : C → Option (List Card)) (makes : C → List Signal → C → Type 0)
    (both : (a b c : C) (front back : List Signal) → makes a front b → makes b back c → makes a (front ++ back) c)
    (at : Tap) (s : BoardScan) where
  abbrev Shift : List Input
  Shift = shift_inputs (scan_bits s)

  abbrev AfterShift : List Input
  AfterShift = pause_inputs ++ stop_inputs s.ir s.stop

  to_shift : (a b : C) (place : ℕ) (captured : List Bool) → HasSeen board makes a b (part_inputs true (scan_bits s)) place captured →
      HasSeen board makes a b Shift place captured
  to_shift a b place captured p = subst (λ z. HasSeen board makes a b z place captured) (sym (inputs_of_whole (scan_bits s))) p

  made_shift : (a b : C) (place : ℕ) (captured : List Bool) → HasSeen board makes a b (part_inputs true (scan_bits s)) place captured → HasMade board makes a b Shift
  made_shift a b place captured p = made_of_seen board makes a b Shift place captured (to_shift a b place captured p)

  pub scan_made : (a b c d f : C) (place : ℕ) (captured : List Bool) → HasMade board makes a b (entry_inputs at s.ir) →
      HasSeen board makes b c (part_inputs true (scan_bits s)) place captured → HasMade board makes c d pause_inputs → HasMade board makes d f (stop_inputs s.ir s.stop) →
      HasSeen board makes a f (inputs_of_scan at s) (length (entry_inputs at s.ir) + place) captured
  scan_made a b c d f place captured p1 p2 p3 p4 =
      seen_after board makes both a b f (entry_inputs at s.ir) (Shift ++ AfterShift) place captured p1
      (seen_before board makes both b c f Shift AfterShift place captured (to_shift b c place captured p2)
      (made_both board makes both c d f pause_inputs (stop_inputs s.ir s.stop) p3 p4))

  pub scan_failed_1 : (a b : C) → HasMadeFront board makes a b (entry_inputs at s.ir) → HasMadeFront board makes a b (inputs_of_scan at s)
  scan_failed_1 a b f1 = front_longer board makes a b (entry_inputs at s.ir) (Shift ++ AfterShift) f1

  pub scan_failed_2 : (a b c : C) → HasMade board makes a b (entry_inputs at s.ir) → HasMadeFront board makes b c (part_inputs true (scan_bits s)) →
      HasMadeFront board makes a c (inputs_of_scan at s)
  scan_failed_2 a b c p1 f2 =
      front_after board makes both a b c (entry_inputs at s.ir) (Shift ++ AfterShift) p1
      (front_longer board makes b c Shift AfterShift (subst (λ z. HasMadeFront board makes b c z) (sym (inputs_of_whole (scan_bits s))) f2))

  pub scan_failed_3 : (a b c d : C) (place : ℕ) (captured : List Bool) → HasMade board makes a b (entry_inputs at s.ir) →
      HasSeen board makes b c (part_inputs true (scan_bits s)) place captured → HasMadeFront board makes c d pause_inputs → HasMadeFront board makes a d (inputs_of_scan at s)
  scan_failed_3 a b c d place captured p1 p2 f3 =
      front_after board makes both a b d (entry_inputs at s.ir) (Shift ++ AfterShift) p1
      (front_after board makes both b c d Shift AfterShift (made_shift b c place captured p2) (front_longer board makes c d pause_inputs (stop_inputs s.ir s.stop) f3))

  pub scan_failed_4 : (a b c d f : C) (place : ℕ) (captured : List Bool) → HasMade board makes a b (entry_inputs at s.ir) →
      HasSeen board makes b c (part_inputs true (scan_bits s)) place captured → HasMade board makes c d pause_inputs → HasMadeFront board makes d f (stop_inputs s.ir s.stop) →
      HasMadeFront board makes a f (inputs_of_scan at s)
  scan_failed_4 a b c d f place captured p1 p2 p3 f4 =
      front_after board makes both a b f (entry_inputs at s.ir) (Shift ++ AfterShift) p1
      (front_after board makes both b c f Shift AfterShift (made_shift b c place captured p2)
      (front_after board makes both c d f pause_inputs (stop_inputs s.ir s.stop) p3 f4))

  -- before the last of them all controllers are in the pause state
  pub at_the_pause : (a b c d : C) (place : ℕ) (captured : List Bool) → is_stable_state at ≡ true → 0 < length s.bits → HasMade board makes a b (entry_inputs at s.ir) →
      HasSeen board makes b c (part_inputs true (scan_bits s)) place captured → HasMade board makes c d pause_inputs →
      WhereTold (board a) (AllIn at) → WhereTold (board d) (AllIn (pause_state s.ir))
  at_the_pause a b c d place captured st n p1 p2 p3 h =
      told_walked (board c) (board d) (exit_state s.ir) (pause_state s.ir) pause_inputs (pause_walks s.ir) p3.made.cards
      (told_walked (board b) (board c) (shift_state s.ir) (exit_state s.ir) Shift (shift_walks s.ir (scan_bits s) (some_bits s n)) (made_shift b c place captured p2).made.cards
      (told_walked (board a) (board b) at (shift_state s.ir) (entry_inputs at s.ir) (entry_walks at s.ir st) p1.made.cards h))

-- the scan of the line, where the board is told
module _ {C : Type 0} (board : C → Option (List Card)) (makes : C → List Signal → C → Type 0) (old : C) (at : Tap)
    (s : BoardScan)
    (st : is_stable_state at ≡ true) (n : 0 < length s.bits) (a : WhereTold (board old) (AllIn at)) (h : (cs : List Card) → board old ≡ Some cs → AllSound cs) where
  as_line : (cs : List Card) → board old ≡ Some cs → ScansAsLine at s.ir s.stop cs (scan_bits s)
  as_line cs t = scans_as_line at s.ir s.stop cs (scan_bits s) st (some_bits s n) (a cs t) (h cs t)

  pub scanned : (new : C) (place : ℕ) (captured : List Bool) → place ≡ s.paddings.base_pre + length s.paddings.pre → length captured ≡ length s.bits →
      HasSeen board makes old new (inputs_of_scan at s) (length (entry_inputs at s.ir) + place) captured → HasScanned board makes old new at s captured
  scanned new place captured e len k =
      let entry : length (entry_inputs at s.ir) ≡ length (entry_tms at s.ir) = length-map (entry_tms at s.ir) _ in
      record {
        clocks = k.clocks;
        made = k.made;
        captured_is = cut_out k.front captured k.back (length (entry_tms at s.ir)) (s.paddings.base_pre + length s.paddings.pre) (length s.bits)
            (k.at_place ∙ ap (λ i. i + place) entry ∙ ap (λ i. length (entry_tms at s.ir) + i) e) len
            ∙ ap (λ z. take (length s.bits) (drop (s.paddings.base_pre + length s.paddings.pre) (drop (length (entry_tms at s.ir)) z))) (sym k.parts);
        seen = λ cs t. k.made.seen cs t ∙ (as_line cs t).clocks;
        cards = k.made.cards ∙ told_same (board old) (λ cs. board_after cs (inputs_of_scan at s)) (board_after_scan at s) (λ cs t. (as_line cs t).board);
      }

  pub scanned_front : (new : C) → HasMadeFront board makes old new (inputs_of_scan at s) → HasScannedFront board makes old new at s
  scanned_front new f = record {
    front = f;
    seen = λ cs t. record {
      rest = clocks_of (board_after cs f.front) f.rest;
      parts = sym (as_line cs t).clocks ∙ ap (clocks_of cs) f.parts ∙ clocks-append f.front f.rest cs
          ∙ ap (λ z. z ++ clocks_of (board_after cs f.front) f.rest) (sym (f.made.seen cs t));
    };
  }

  pub captured_of_line : (new : C) (captured : List Bool) → HasScanned board makes old new at s captured → WhereTold (board old) (λ cs. captured ≡ captured_bits at s cs)
  captured_of_line new captured k cs t = k.captured_is ∙ ap (captured_from at s) (k.seen cs t) ∙ captured_is_seen at s cs

  pub captured_of_runs : (new : C) (captured : List Bool) → HasScanned board makes old new at s captured → WhereTold (board old) (IsScanOfEachRun at s captured)
  captured_of_runs new captured k cs t before run after e base =
      let all_in : AllIn at (before ++ (run ++ after)) = subst (λ z. AllIn at z) e (a cs t) in
      let sound : AllSound (before ++ (run ++ after)) = subst (λ z. AllSound z) e (h cs t) in
      subst (λ z. IsScanOfRun at before run after s z) (sym (captured_of_line new captured k cs t ∙ ap (captured_bits at s) e))
      (scan_of_run at before run after s st all_in sound base)
