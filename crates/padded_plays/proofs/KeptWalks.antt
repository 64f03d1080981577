-- One clock outside scans keeps a padded run, and so do walks, moves and stays.
use Rattle.std.proofs.Common.{◌≡◌, ◌≤◌, ◌-◌, ◌*◌, ◌^◌, ℕ, suc, zero, Bool, true, false, List, [], ◌∷◌, ◌++◌, replicate, refl, sym, ap, subst, ◌∙◌, arith}
use Rattle.std.proofs.Math.Nat.{pow-succ'}
use Rattle.std.proofs.lemmas.Bool.{false≢true}
use Rattle.base.specs.Bits.{number_of}
use Rattle.tap_states.specs.declared.Tap.{Tap}
use Rattle.tap_states.specs.declared.Tap.TheVariants.{Reset, Idle, DrSelect, DrCapture, DrShift, DrExit1, DrPause, DrExit2, DrUpdate, IrSelect, IrCapture, IrShift, IrExit1, IrPause, IrExit2, IrUpdate}
use Rattle.tap_states.specs.Tap.{next_of, is_stable_state}
use Rattle.tap_states.specs.Path.{walk}
use Rattle.tap_states.specs.Path.{path_of}
use Rattle.tap_states.proofs.Shortest.{is_path, path_leads}
use Rattle.dev_card.specs.declared.desc.Desc.{Desc}
use Rattle.dev_card.specs.Card.{Card, step, during, entered}
use Rattle.dev_card.specs.Board.{board_tdo, board_step, board_after, EachCard}
use Rattle.dev_card.specs.Clocks.{with_zero, rest_tms, move_inputs, stay_inputs}
use Rattle.dev_card.proofs.Reaching.{steps_in, rests}
use Rattle.dev_card.proofs.Soundness.{sound_board_step}
use Rattle.dev_card.proofs.OneScan.{is_shift, parts, descriptions_of_step}
use Rattle.padded_plays.specs.QuietClocks.{is_scan_state, IsQuietWalk, loaded_at, loaded_after}
use Rattle.padded_plays.specs.PaddedRuns.{is_between_scans, IsPassing, IsPaddedRun}

power_above : (n : ℕ) → 1 ≤ 2 ^ n
power_above zero = omega arith
power_above (suc n) =
    let rest = power_above n in
    let p : 2 ^ suc n ≡ 2 * 2 ^ n = pow-succ' 2 n in
    omega arith

-- the number of n ones
number_of_ones : (n : ℕ) → number_of (replicate n true) ≡ 2 ^ n - 1
number_of_ones zero = refl
number_of_ones (suc n) =
    let rest = number_of_ones n in
    let p : 2 ^ suc n ≡ 2 * 2 ^ n = pow-succ' 2 n in
    let some : 1 ≤ 2 ^ n = power_above n in
    omega arith

-- one clock of a device outside the run
passes_from : (loaded : Bool) (s : Tap) (m b : Bool) (c : Card) → is_between_scans s ≡ true → is_scan_state (next_of s m) ≡ false → IsPassing loaded s c
    → IsPassing (loaded_at (next_of s m) loaded) (next_of s m) (entered (next_of s m) (during s b c))
passes_from loaded Reset false b c e q h = record { state = refl; waiting = λ x. absurd (false≢true x); in_force = λ l x. h.in_force l refl }
passes_from loaded Reset true b c e q h = record { state = refl; waiting = λ x. absurd (false≢true x); in_force = λ l x. absurd (false≢true l) }
passes_from loaded Idle false b c e q h = record { state = refl; waiting = λ x. absurd (false≢true x); in_force = λ l x. h.in_force l refl }
passes_from loaded Idle true b c e q h = record { state = refl; waiting = λ x. absurd (false≢true x); in_force = λ l x. h.in_force l refl }
passes_from loaded DrSelect false b c e q h = record { state = refl; waiting = λ x. absurd (false≢true x); in_force = λ l x. h.in_force l refl }
passes_from loaded DrSelect true b c e q h = record { state = refl; waiting = λ x. absurd (false≢true x); in_force = λ l x. h.in_force l refl }
passes_from loaded DrCapture false b c e q h = absurd (false≢true (sym q))
passes_from loaded DrCapture true b c e q h = record { state = refl; waiting = λ x. absurd (false≢true x); in_force = λ l x. h.in_force l refl }
passes_from loaded DrShift false b c e q h = absurd (false≢true e)
passes_from loaded DrShift true b c e q h = absurd (false≢true e)
passes_from loaded DrExit1 false b c e q h = record { state = refl; waiting = λ x. absurd (false≢true x); in_force = λ l x. h.in_force l refl }
passes_from loaded DrExit1 true b c e q h = record { state = refl; waiting = λ x. absurd (false≢true x); in_force = λ l x. h.in_force l refl }
passes_from loaded DrPause false b c e q h = record { state = refl; waiting = λ x. absurd (false≢true x); in_force = λ l x. h.in_force l refl }
passes_from loaded DrPause true b c e q h = record { state = refl; waiting = λ x. absurd (false≢true x); in_force = λ l x. h.in_force l refl }
passes_from loaded DrExit2 false b c e q h = absurd (false≢true (sym q))
passes_from loaded DrExit2 true b c e q h = record { state = refl; waiting = λ x. absurd (false≢true x); in_force = λ l x. h.in_force l refl }
passes_from loaded DrUpdate false b c e q h = record { state = refl; waiting = λ x. absurd (false≢true x); in_force = λ l x. h.in_force l refl }
passes_from loaded DrUpdate true b c e q h = record { state = refl; waiting = λ x. absurd (false≢true x); in_force = λ l x. h.in_force l refl }
passes_from loaded IrSelect false b c e q h = absurd (false≢true (sym q))
passes_from loaded IrSelect true b c e q h = record { state = refl; waiting = λ x. absurd (false≢true x); in_force = λ l x. absurd (false≢true l) }
passes_from loaded IrCapture false b c e q h = absurd (false≢true e)
passes_from loaded IrCapture true b c e q h = absurd (false≢true e)
passes_from loaded IrShift false b c e q h = absurd (false≢true e)
passes_from loaded IrShift true b c e q h = absurd (false≢true e)
passes_from loaded IrExit1 false b c e q h = absurd (false≢true e)
passes_from loaded IrExit1 true b c e q h = absurd (false≢true e)
passes_from loaded IrPause false b c e q h = record { state = refl; waiting = λ x. h.waiting refl; in_force = λ l x. absurd (false≢true (sym x)) }
passes_from loaded IrPause true b c e q h = record { state = refl; waiting = λ x. h.waiting refl; in_force = λ l x. absurd (false≢true (sym x)) }
passes_from loaded IrExit2 false b c e q h = absurd (false≢true (sym q))
passes_from loaded IrExit2 true b c e q h = record { state = refl; waiting = λ x. absurd (false≢true x); in_force = λ l x. ap number_of (h.waiting refl) ∙ number_of_ones c.desc.ir_len }
passes_from loaded IrUpdate false b c e q h = record { state = refl; waiting = λ x. absurd (false≢true x); in_force = λ l x. h.in_force l refl }
passes_from loaded IrUpdate true b c e q h = record { state = refl; waiting = λ x. absurd (false≢true x); in_force = λ l x. h.in_force l refl }

passes_step : (loaded : Bool) (s : Tap) (m b : Bool) (c : Card) → is_between_scans s ≡ true → is_scan_state (next_of s m) ≡ false → IsPassing loaded s c
    → IsPassing (loaded_at (next_of s m) loaded) (next_of s m) (step c m b)
passes_step loaded s m b c w q h =
    let k : step c m b ≡ entered (next_of s m) (during s b c) = ap (λ t. entered (next_of t m) (during t b c)) h.state in
    rw k (passes_from loaded s m b c w q h)

pass_steps : (loaded : Bool) (s : Tap) (m b : Bool) (cs : List Card) → is_between_scans s ≡ true → is_scan_state (next_of s m) ≡ false
    → EachCard (IsPassing loaded s) cs → EachCard (IsPassing (loaded_at (next_of s m) loaded) (next_of s m)) (board_step cs m b)
pass_steps loaded s m b [] w q h = tt
pass_steps loaded s m b (c ∷ cs) w q h = (passes_step loaded s m (board_tdo cs b) c w q h.0, pass_steps loaded s m b cs w q h.1)

between_is_no_shift : (s : Tap) → is_between_scans s ≡ true → is_shift s ≡ false
between_is_no_shift DrShift e = absurd (false≢true e)
between_is_no_shift IrShift e = absurd (false≢true e)
between_is_no_shift _ e = refl

stays_between : (s : Tap) (m : Bool) → is_between_scans s ≡ true → is_scan_state (next_of s m) ≡ false → is_between_scans (next_of s m) ≡ true
stays_between Reset false e q = refl
stays_between Reset true e q = refl
stays_between Idle false e q = refl
stays_between Idle true e q = refl
stays_between DrSelect false e q = refl
stays_between DrSelect true e q = refl
stays_between DrCapture false e q = absurd (false≢true (sym q))
stays_between DrCapture true e q = refl
stays_between DrShift false e q = absurd (false≢true e)
stays_between DrShift true e q = absurd (false≢true e)
stays_between DrExit1 false e q = refl
stays_between DrExit1 true e q = refl
stays_between DrPause false e q = refl
stays_between DrPause true e q = refl
stays_between DrExit2 false e q = absurd (false≢true (sym q))
stays_between DrExit2 true e q = refl
stays_between DrUpdate false e q = refl
stays_between DrUpdate true e q = refl
stays_between IrSelect false e q = absurd (false≢true (sym q))
stays_between IrSelect true e q = refl
stays_between IrCapture false e q = absurd (false≢true e)
stays_between IrCapture true e q = absurd (false≢true e)
stays_between IrShift false e q = absurd (false≢true e)
stays_between IrShift true e q = absurd (false≢true e)
stays_between IrExit1 false e q = absurd (false≢true e)
stays_between IrExit1 true e q = absurd (false≢true e)
stays_between IrPause false e q = refl
stays_between IrPause true e q = refl
stays_between IrExit2 false e q = absurd (false≢true (sym q))
stays_between IrExit2 true e q = refl
stays_between IrUpdate false e q = refl
stays_between IrUpdate true e q = refl

module _ (before run after : List Desc) where
  -- one clock
  clock_keeps : (loaded : Bool) (s : Tap) (m : Bool) (board alone : List Card) → is_scan_state (next_of s m) ≡ false → IsPaddedRun before run after loaded s board alone
      → IsPaddedRun before run after (loaded_at (next_of s m) loaded) (next_of s m) (board_step board m false) (board_step alone m false)
  clock_keeps loaded s m board alone q h =
      let f : Bool = board_tdo (alone ++ h.back) false in
      record {
        front = board_step h.front m f;
        back = board_step h.back m false;
        whole = ap (λ k. board_step k m false) h.whole ∙ parts s m h.front alone h.back false false h.states (between_is_no_shift s h.between);
        front_is = descriptions_of_step h.front m f ∙ h.front_is;
        alone_is = descriptions_of_step alone m false ∙ h.alone_is;
        back_is = descriptions_of_step h.back m false ∙ h.back_is;
        between = stays_between s m h.between q;
        states = steps_in s alone m false h.states;
        sound = sound_board_step board m false h.sound;
        front_passes = pass_steps loaded s m f h.front h.between q h.front_passes;
        back_passes = pass_steps loaded s m false h.back h.between q h.back_passes;
      }

  pub walk_keeps : (loaded : Bool) (at : Tap) (board alone : List Card) (ms : List Bool) → IsQuietWalk at ms → IsPaddedRun before run after loaded at board alone
      → IsPaddedRun before run after (loaded_after at ms loaded) (walk at ms) (board_after board (with_zero ms)) (board_after alone (with_zero ms))
  walk_keeps loaded at board alone [] q h = h
  walk_keeps loaded at board alone (m ∷ ms) q h =
      walk_keeps (loaded_at (next_of at m) loaded) (next_of at m) (board_step board m false) (board_step alone m false) ms q.1 (clock_keeps loaded at m board alone q.0 h)

  pub move_keeps : (loaded : Bool) (at to : Tap) (board alone : List Card) → IsQuietWalk at (path_of at to) → IsPaddedRun before run after loaded at board alone
      → IsPaddedRun before run after (loaded_after at (path_of at to) loaded) to (board_after board (move_inputs at to)) (board_after alone (move_inputs at to))
  move_keeps loaded at to board alone q h =
      let ms : List Bool = path_of at to in
      subst (λ t. IsPaddedRun before run after (loaded_after at ms loaded) t (board_after board (with_zero ms)) (board_after alone (with_zero ms)))
      (path_leads at to ms (is_path at to)) (walk_keeps loaded at board alone ms q h)

stable_is_no_scan_state : (s : Tap) → is_stable_state s ≡ true → is_scan_state s ≡ false
stable_is_no_scan_state Reset e = refl
stable_is_no_scan_state Idle e = refl
stable_is_no_scan_state DrPause e = refl
stable_is_no_scan_state IrPause e = refl
stable_is_no_scan_state _ e = absurd (false≢true e)

stay_is_quiet : (s : Tap) (n : ℕ) → is_stable_state s ≡ true → IsQuietWalk s (replicate n (rest_tms s))
stay_is_quiet s zero e = tt
stay_is_quiet s (suc n) e =
    (ap is_scan_state (rests s e) ∙ stable_is_no_scan_state s e, subst (λ t. IsQuietWalk t (replicate n (rest_tms s))) (sym (rests s e)) (stay_is_quiet s n e))

stay_leads : (s : Tap) (n : ℕ) → is_stable_state s ≡ true → walk s (replicate n (rest_tms s)) ≡ s
stay_leads s zero e = refl
stay_leads s (suc n) e = ap (λ t. walk t (replicate n (rest_tms s))) (rests s e) ∙ stay_leads s n e

pub stay_keeps : (before run after : List Desc) (loaded : Bool) (at : Tap) (n : ℕ) (board alone : List Card) → is_stable_state at ≡ true
    → IsPaddedRun before run after loaded at board alone
    → IsPaddedRun before run after (loaded_after at (replicate n (rest_tms at)) loaded) at (board_after board (stay_inputs at n)) (board_after alone (stay_inputs at n))
stay_keeps before run after loaded at n board alone e h =
    let ms : List Bool = replicate n (rest_tms at) in
    subst (λ t. IsPaddedRun before run after (loaded_after at ms loaded) t (board_after board (with_zero ms)) (board_after alone (with_zero ms)))
    (stay_leads at n e) (walk_keeps before run after loaded at board alone ms (stay_is_quiet at n e) h)
