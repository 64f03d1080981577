-- A watch over a scan: it takes off the bit by which the scan is told, clocks the board as the scan without base padding
-- does, and sees whether its length is right and an instruction was loaded.
use Rattle.std.proofs.Common.{◌≡◌, ◌+◌, ℕ, suc, Bool, true, false, List, [], ◌∷◌, ◌++◌, length, take, drop, replicate, refl, sym, ap, ◌∙◌, arith}
use Rattle.std.specs.Prelude.{Option, Some, None, ◌||◌}
use Rattle.std.proofs.lemmas.Bool.{false≢true}
use Rattle.std.proofs.lemmas.List.{append-nil, map-append}
use Rattle.tap_states.specs.declared.Tap.{Tap}
use Rattle.tap_states.specs.declared.Tap.TheVariants.{Reset, Idle, DrPause, IrPause}
use Rattle.tap_states.specs.Tap.{is_stable_state}
use Rattle.tap_states.specs.Path.{walk, path_of}
use Rattle.dev_card.specs.declared.desc.Desc.{Desc}
use Rattle.dev_card.specs.Card.{Card}
use Rattle.dev_card.specs.Board.{Input, Clock, board_tdo, board_step, board_after, clocks_of, tdos}
use Rattle.dev_card.specs.Line.{shift_state, exit_state, pause_state}
use Rattle.dev_card.specs.Padding.{program_bits, base_pre_of, base_post_of}
use Rattle.dev_card.specs.Clocks.{with_zero, entry_tms, entry_inputs, shift_inputs, pause_inputs, stop_inputs, at_shift}
use Rattle.dev_card.specs.Scans.{BoardScan, inputs_of_scan, captured_from}
use Rattle.dev_card.proofs.ScanLines.{after-append, clocks-append}
use Rattle.stapl_meaning.specs.Deeds.{based}
use Rattle.padded_plays.specs.QuietClocks.{loaded_after}
use Rattle.padded_plays.specs.QuietPlays.{no_base}
use Rattle.padded_plays.specs.declared.unquiet.Unquiet.{Unquiet}
use Rattle.quiet_watch.specs.HeardPlays.{watching}
use Rattle.quiet_watch.specs.Watches.{marks, Watched, lengths_by, or_else, scan_seen, watch_after, watch_answers}
use Rattle.quiet_watch.proofs.Walked.{path_there, after_both, answers_both, or_none, walks_seen, walk_after, walk_answers}

-- a watch while a scan is shifted
abbrev counting : List Desc → List Card → Bool → Bool → Option Unquiet → ℕ → ℕ → Watched
counting ds cs ir l s n registers =
    record { descs = ds; cards = cs; tap = shift_state ir; loaded = l; scan = Some (record { shifted = n; registers = registers }); seen = s }

-- ---- what goes in

abbrev pub bits_in : BoardScan → List Bool
bits_in scan = program_bits scan.paddings scan.bits

abbrev way : BoardScan → List Bool
way scan = path_of (pause_state scan.ir) scan.stop

-- the clock to the pause state, and the way to the stop state
abbrev rest_inputs : BoardScan → List Input
rest_inputs scan = with_zero (false ∷ way scan)

marks_pre : (ir : Bool) → base_pre_of ir marks ≡ 1
marks_pre true = refl
marks_pre false = refl

marks_post : (ir : Bool) → base_post_of ir marks ≡ 0
marks_post true = refl
marks_post false = refl

no_pre : (ir : Bool) → base_pre_of ir no_base ≡ 0
no_pre true = refl
no_pre false = refl

no_post : (ir : Bool) → base_post_of ir no_base ≡ 0
no_post true = refl
no_post false = refl

abbrev shifts : Tap → BoardScan → ℕ → ℕ → List Input
shifts at scan before after =
    entry_inputs at scan.ir ++ (shift_inputs (replicate before true ++ (bits_in scan ++ replicate after true)) ++ (pause_inputs ++ stop_inputs scan.ir scan.stop))

marked_inputs : (at : Tap) (scan : BoardScan) →
    inputs_of_scan at (based marks scan) ≡ entry_inputs at scan.ir ++ (shift_inputs (true ∷ bits_in scan) ++ rest_inputs scan)
marked_inputs at scan =
    ap (λ n. shifts at scan n (base_post_of scan.ir marks)) (marks_pre scan.ir)
    ∙ ap (λ n. shifts at scan 1 n) (marks_post scan.ir)
    ∙ ap (λ bs. entry_inputs at scan.ir ++ (shift_inputs (true ∷ bs) ++ rest_inputs scan)) (append-nil (bits_in scan))

alone_inputs : (at : Tap) (scan : BoardScan) →
    inputs_of_scan at (based no_base scan) ≡ entry_inputs at scan.ir ++ (shift_inputs (bits_in scan) ++ rest_inputs scan)
alone_inputs at scan =
    ap (λ n. shifts at scan n (base_post_of scan.ir no_base)) (no_pre scan.ir)
    ∙ ap (λ n. shifts at scan 0 n) (no_post scan.ir)
    ∙ ap (λ bs. entry_inputs at scan.ir ++ (shift_inputs bs ++ rest_inputs scan)) (append-nil (bits_in scan))

-- ---- the way to the shift

entry_leads : (at : Tap) (ir : Bool) → is_stable_state at ≡ true → walk at (entry_tms at ir) ≡ shift_state ir
entry_leads Reset true e = refl
entry_leads Reset false e = refl
entry_leads Idle true e = refl
entry_leads Idle false e = refl
entry_leads DrPause true e = refl
entry_leads DrPause false e = refl
entry_leads IrPause true e = refl
entry_leads IrPause false e = refl
entry_leads _ ir e = absurd (false≢true e)

entry_keeps : (at : Tap) (ir l : Bool) → is_stable_state at ≡ true → loaded_after at (entry_tms at ir) l ≡ l
entry_keeps Reset true l e = refl
entry_keeps Reset false l e = refl
entry_keeps Idle true l e = refl
entry_keeps Idle false l e = refl
entry_keeps DrPause true l e = refl
entry_keeps DrPause false l e = refl
entry_keeps IrPause true l e = refl
entry_keeps IrPause false l e = refl
entry_keeps _ ir l e = absurd (false≢true e)

entry_shows : (at : Tap) (ir : Bool) → is_stable_state at ≡ true → walks_seen at (entry_tms at ir) ≡ None
entry_shows Reset true e = refl
entry_shows Reset false e = refl
entry_shows Idle true e = refl
entry_shows Idle false e = refl
entry_shows DrPause true e = refl
entry_shows DrPause false e = refl
entry_shows IrPause true e = refl
entry_shows IrPause false e = refl
entry_shows _ ir e = absurd (false≢true e)

entry_after : (ds : List Desc) (cs : List Card) (at : Tap) (ir l : Bool) (s : Option Unquiet) → is_stable_state at ≡ true →
    watch_after (watching ds cs at l s) (entry_inputs at ir) ≡ watching ds (at_shift at ir cs) (shift_state ir) l s
entry_after ds cs at ir l s e =
    let ms = entry_tms at ir in
    let later = board_after cs (entry_inputs at ir) in
    walk_after ms ds cs at l s
    ∙ ap (λ t. watching ds later t (loaded_after at ms l) (or_else s (walks_seen at ms))) (entry_leads at ir e)
    ∙ ap (λ m. watching ds later (shift_state ir) m (or_else s (walks_seen at ms))) (entry_keeps at ir l e)
    ∙ ap (λ o. watching ds later (shift_state ir) l (or_else s o)) (entry_shows at ir e)
    ∙ ap (watching ds later (shift_state ir) l) (or_none s)

-- ---- the shift

shift_after : (ir : Bool) (b : Bool) (bs : List Bool) (ds : List Desc) (cs : List Card) (l : Bool) (s : Option Unquiet) (n r : ℕ) →
    watch_after (counting ds cs ir l s n r) (shift_inputs (b ∷ bs))
    ≡ watching ds (board_after cs (shift_inputs (b ∷ bs))) (exit_state ir) (ir || l) (or_else s (scan_seen ir l (n + length (b ∷ bs)) r))
shift_after true b [] ds cs l s n r =
    let e : n + 1 ≡ n + length (b ∷ []) = omega arith in
    ap (λ m. watching ds (board_step cs true b) (exit_state true) (true || l) (or_else s (scan_seen true l m r))) e
shift_after false b [] ds cs l s n r =
    let e : n + 1 ≡ n + length (b ∷ []) = omega arith in
    ap (λ m. watching ds (board_step cs true b) (exit_state false) (false || l) (or_else s (scan_seen false l m r))) e
shift_after true b (c ∷ bs) ds cs l s n r =
    let e : n + 1 + length (c ∷ bs) ≡ n + length (b ∷ c ∷ bs) = omega arith in
    shift_after true c bs ds (board_step cs false b) l s (n + 1) r
    ∙ ap (λ m. watching ds (board_after cs (shift_inputs (b ∷ c ∷ bs))) (exit_state true) (true || l) (or_else s (scan_seen true l m r))) e
shift_after false b (c ∷ bs) ds cs l s n r =
    let e : n + 1 + length (c ∷ bs) ≡ n + length (b ∷ c ∷ bs) = omega arith in
    shift_after false c bs ds (board_step cs false b) l s (n + 1) r
    ∙ ap (λ m. watching ds (board_after cs (shift_inputs (b ∷ c ∷ bs))) (exit_state false) (false || l) (or_else s (scan_seen false l m r))) e

shift_answers : (ir : Bool) (b : Bool) (bs : List Bool) (ds : List Desc) (cs : List Card) (l : Bool) (s : Option Unquiet) (n r : ℕ) →
    watch_answers (counting ds cs ir l s n r) (shift_inputs (b ∷ bs)) ≡ tdos (clocks_of cs (shift_inputs (b ∷ bs)))
shift_answers ir b [] ds cs l s n r = refl
shift_answers true b (c ∷ bs) ds cs l s n r = ap (λ t. board_tdo cs b ∷ t) (shift_answers true c bs ds (board_step cs false b) l s (n + 1) r)
shift_answers false b (c ∷ bs) ds cs l s n r = ap (λ t. board_tdo cs b ∷ t) (shift_answers false c bs ds (board_step cs false b) l s (n + 1) r)

-- the bit by which the scan is told is taken off
mark_after : (ir : Bool) (b : Bool) (bs : List Bool) (ds : List Desc) (cs : List Card) (l : Bool) (s : Option Unquiet) →
    watch_after (watching ds cs (shift_state ir) l s) (shift_inputs (true ∷ b ∷ bs))
    ≡ watch_after (counting ds cs ir l s 0 (lengths_by ir ds cs)) (shift_inputs (b ∷ bs))
mark_after true b bs ds cs l s = refl
mark_after false b bs ds cs l s = refl

mark_answers : (ir : Bool) (b : Bool) (bs : List Bool) (ds : List Desc) (cs : List Card) (l : Bool) (s : Option Unquiet) →
    watch_answers (watching ds cs (shift_state ir) l s) (shift_inputs (true ∷ b ∷ bs))
    ≡ false ∷ watch_answers (counting ds cs ir l s 0 (lengths_by ir ds cs)) (shift_inputs (b ∷ bs))
mark_answers true b bs ds cs l s = refl
mark_answers false b bs ds cs l s = refl

-- ---- the way to the stop state

rest_after : (ir : Bool) (p : List Bool) (ds : List Desc) (cs : List Card) (l : Bool) (s : Option Unquiet) →
    watch_after (watching ds cs (exit_state ir) l s) (with_zero (false ∷ p))
    ≡ watching ds (board_after cs (with_zero (false ∷ p))) (walk (pause_state ir) p) (loaded_after (pause_state ir) p l) (or_else s (walks_seen (pause_state ir) p))
rest_after true p ds cs l s = walk_after (false ∷ p) ds cs (exit_state true) l s
rest_after false p ds cs l s = walk_after (false ∷ p) ds cs (exit_state false) l s

-- ---- the whole scan

-- what comes after a front of a list
beyond : (n : ℕ) (xs ys : List Bool) → length xs ≡ n → drop n (xs ++ ys) ≡ ys
beyond n xs ys e = ap (λ m. drop m (xs ++ ys)) (sym e) ∙ dropped xs ys
  where
    dropped : (xs ys : List Bool) → drop (length xs) (xs ++ ys) ≡ ys
    dropped [] ys = refl
    dropped (x ∷ xs) ys = dropped xs ys

walk_length : (ms : List Bool) (cs : List Card) → length (tdos (clocks_of cs (with_zero ms))) ≡ length ms
walk_length [] cs = refl
walk_length (m ∷ ms) cs = ap (λ n. suc n) (walk_length ms (board_step cs m false))

module _ (ds : List Desc) (cs : List Card) (at : Tap) (l : Bool) (s : Option Unquiet) (scan : BoardScan) (stable : is_stable_state at ≡ true)
    (b : Bool) (bs : List Bool) (some : bits_in scan ≡ b ∷ bs) where
  abbrev ir : Bool
  ir = scan.ir

  abbrev shifted_cards : List Card
  shifted_cards = at_shift at scan.ir cs

  abbrev registers : ℕ
  registers = lengths_by scan.ir ds (at_shift at scan.ir cs)

  abbrev w0 : Watched
  w0 = watching ds cs at l s

  abbrev exit_cards : List Card
  exit_cards = board_after shifted_cards (shift_inputs (b ∷ bs))

  -- what the scan shows before its way to the stop state
  abbrev pub shown : Option Unquiet
  shown = or_else s (scan_seen scan.ir l (length (bits_in scan)) (lengths_by scan.ir ds (at_shift at scan.ir cs)))

  in_parts : inputs_of_scan at (based marks scan) ≡ entry_inputs at ir ++ (shift_inputs (true ∷ b ∷ bs) ++ rest_inputs scan)
  in_parts = marked_inputs at scan ∙ ap (λ t. entry_inputs at ir ++ (shift_inputs (true ∷ t) ++ rest_inputs scan)) some

  alone_parts : inputs_of_scan at (based no_base scan) ≡ entry_inputs at ir ++ (shift_inputs (b ∷ bs) ++ rest_inputs scan)
  alone_parts = alone_inputs at scan ∙ ap (λ t. entry_inputs at ir ++ (shift_inputs t ++ rest_inputs scan)) some

  shift_done : watch_after (watching ds shifted_cards (shift_state ir) l s) (shift_inputs (true ∷ b ∷ bs)) ≡ watching ds exit_cards (exit_state ir) (ir || l) shown
  shift_done =
      let count : 0 + length (b ∷ bs) ≡ length (b ∷ bs) = omega arith in
      mark_after ir b bs ds shifted_cards l s ∙ shift_after ir b bs ds shifted_cards l s 0 registers
      ∙ ap (λ m. watching ds exit_cards (exit_state ir) (ir || l) (or_else s (scan_seen ir l m registers))) (count ∙ sym (ap length some))

  cards_same : board_after exit_cards (rest_inputs scan) ≡ board_after cs (inputs_of_scan at (based no_base scan))
  cards_same =
      sym (after-append (shift_inputs (b ∷ bs)) (rest_inputs scan) shifted_cards)
      ∙ sym (after-append (entry_inputs at ir) (shift_inputs (b ∷ bs) ++ rest_inputs scan) cs)
      ∙ ap (board_after cs) (sym alone_parts)

  pub scan_after : watch_after w0 (inputs_of_scan at (based marks scan))
      ≡ watching ds (board_after cs (inputs_of_scan at (based no_base scan))) scan.stop (loaded_after (pause_state scan.ir) (way scan) (scan.ir || l))
      (or_else shown (walks_seen (pause_state scan.ir) (way scan)))
  scan_after =
      ap (watch_after w0) in_parts
      ∙ after_both (entry_inputs at ir) (shift_inputs (true ∷ b ∷ bs) ++ rest_inputs scan) w0
      ∙ ap (λ v. watch_after v (shift_inputs (true ∷ b ∷ bs) ++ rest_inputs scan)) (entry_after ds cs at ir l s stable)
      ∙ after_both (shift_inputs (true ∷ b ∷ bs)) (rest_inputs scan) (watching ds shifted_cards (shift_state ir) l s)
      ∙ ap (λ v. watch_after v (rest_inputs scan)) shift_done
      ∙ rest_after ir (way scan) ds exit_cards (ir || l) shown
      ∙ ap (λ k. watching ds k (walk (pause_state ir) (way scan)) (loaded_after (pause_state ir) (way scan) (ir || l)) (or_else shown (walks_seen (pause_state ir) (way scan)))) cards_same
      ∙ ap (λ t. watching ds (board_after cs (inputs_of_scan at (based no_base scan))) t (loaded_after (pause_state ir) (way scan) (ir || l))
      (or_else shown (walks_seen (pause_state ir) (way scan)))) (path_there (pause_state ir) scan.stop)

  -- what the watch answers, and what the board alone does
  answered : watch_answers w0 (inputs_of_scan at (based marks scan))
      ≡ tdos (clocks_of cs (entry_inputs at ir)) ++ (false ∷ (tdos (clocks_of shifted_cards (shift_inputs (b ∷ bs))) ++ tdos (clocks_of exit_cards (rest_inputs scan))))
  answered =
      ap (watch_answers w0) in_parts
      ∙ answers_both (entry_inputs at ir) (shift_inputs (true ∷ b ∷ bs) ++ rest_inputs scan) w0
      ∙ ap (λ t. t ++ watch_answers (watch_after w0 (entry_inputs at ir)) (shift_inputs (true ∷ b ∷ bs) ++ rest_inputs scan)) (walk_answers (entry_tms at ir) ds cs at l s)
      ∙ ap (λ v. tdos (clocks_of cs (entry_inputs at ir)) ++ watch_answers v (shift_inputs (true ∷ b ∷ bs) ++ rest_inputs scan)) (entry_after ds cs at ir l s stable)
      ∙ ap (λ t. tdos (clocks_of cs (entry_inputs at ir)) ++ t) (answers_both (shift_inputs (true ∷ b ∷ bs)) (rest_inputs scan) (watching ds shifted_cards (shift_state ir) l s)
      ∙ ap (λ t. t ++ watch_answers (watch_after (watching ds shifted_cards (shift_state ir) l s) (shift_inputs (true ∷ b ∷ bs))) (rest_inputs scan))
      (mark_answers ir b bs ds shifted_cards l s ∙ ap (λ t. false ∷ t) (shift_answers ir b bs ds shifted_cards l s 0 registers))
      ∙ ap (λ v. (false ∷ tdos (clocks_of shifted_cards (shift_inputs (b ∷ bs)))) ++ watch_answers v (rest_inputs scan)) shift_done
      ∙ ap (λ t. (false ∷ tdos (clocks_of shifted_cards (shift_inputs (b ∷ bs)))) ++ t) (walk_answers (false ∷ way scan) ds exit_cards (exit_state ir) (ir || l) shown))

  alone_answers : tdos (clocks_of cs (inputs_of_scan at (based no_base scan)))
      ≡ tdos (clocks_of cs (entry_inputs at ir)) ++ (tdos (clocks_of shifted_cards (shift_inputs (b ∷ bs))) ++ tdos (clocks_of exit_cards (rest_inputs scan)))
  alone_answers =
      ap (λ is. tdos (clocks_of cs is)) alone_parts
      ∙ ap tdos (clocks-append (entry_inputs at ir) (shift_inputs (b ∷ bs) ++ rest_inputs scan) cs)
      ∙ map-append (λ (k : Clock). k.tdo) (clocks_of cs (entry_inputs at ir)) (clocks_of shifted_cards (shift_inputs (b ∷ bs) ++ rest_inputs scan))
      ∙ ap (λ t. tdos (clocks_of cs (entry_inputs at ir)) ++ t)
      (ap tdos (clocks-append (shift_inputs (b ∷ bs)) (rest_inputs scan) shifted_cards)
      ∙ map-append (λ (k : Clock). k.tdo) (clocks_of shifted_cards (shift_inputs (b ∷ bs))) (clocks_of exit_cards (rest_inputs scan)))

  pub captures_same : (clocks : List Clock) → tdos clocks ≡ watch_answers w0 (inputs_of_scan at (based marks scan)) →
      captured_from at (based marks scan) clocks ≡ captured_from at (based no_base scan) (clocks_of cs (inputs_of_scan at (based no_base scan)))
  captures_same clocks e =
      let n : ℕ = length scan.bits in
      let pre : ℕ = length scan.paddings.pre in
      let front : List Bool = tdos (clocks_of cs (entry_inputs at ir)) in
      let rest : List Bool = tdos (clocks_of shifted_cards (shift_inputs (b ∷ bs))) ++ tdos (clocks_of exit_cards (rest_inputs scan)) in
      let long : length front ≡ length (entry_tms at ir) = walk_length (entry_tms at ir) cs in
      let one : 1 + pre ≡ suc pre = omega arith in
      let none : 0 + pre ≡ pre = omega arith in
      ap (λ m. take n (drop (m + pre) (drop (length (entry_tms at ir)) (tdos clocks)))) (marks_pre ir)
      ∙ ap (λ t. take n (drop (1 + pre) (drop (length (entry_tms at ir)) t))) (e ∙ answered)
      ∙ ap (λ t. take n (drop (1 + pre) t)) (beyond (length (entry_tms at ir)) front (false ∷ rest) long)
      ∙ ap (λ m. take n (drop m (false ∷ rest))) one
      ∙ sym (ap (λ m. take n (drop (m + pre) (drop (length (entry_tms at ir)) (tdos (clocks_of cs (inputs_of_scan at (based no_base scan))))))) (no_pre ir)
      ∙ ap (λ t. take n (drop (0 + pre) (drop (length (entry_tms at ir)) t))) alone_answers
      ∙ ap (λ t. take n (drop (0 + pre) t)) (beyond (length (entry_tms at ir)) front rest long)
      ∙ ap (λ m. take n (drop m rest)) none)
