-- A watch over walks: it clocks the board as it is, and sees a walk that leads into a state into which only scans lead.
use Rattle.std.proofs.Common.{◌≡◌, Bool, true, false, List, [], ◌∷◌, ◌++◌, refl, sym, ap, ◌∙◌}
use Rattle.std.specs.Prelude.{Option, Some, None, if◌then◌else◌}
use Rattle.std.proofs.lemmas.Bool.{false≢true}
use Rattle.tap_states.specs.declared.Tap.{Tap}
use Rattle.tap_states.specs.declared.Tap.TheVariants.{DrShift, IrCapture, IrShift}
use Rattle.tap_states.specs.Tap.{next_of}
use Rattle.tap_states.specs.Path.{walk, path_of}
use Rattle.tap_states.proofs.Shortest.{is_path, path_leads}
use Rattle.dev_card.specs.declared.desc.Desc.{Desc}
use Rattle.dev_card.specs.Card.{Card}
use Rattle.dev_card.specs.Board.{Input, board_tdo, board_step, board_after, clocks_of, tdos}
use Rattle.dev_card.specs.Clocks.{with_zero}
use Rattle.padded_plays.specs.QuietClocks.{is_scan_state, IsQuietWalk, loaded_at, loaded_after}
use Rattle.padded_plays.specs.declared.unquiet.Unquiet.{Unquiet}
use Rattle.padded_plays.specs.declared.unquiet.Unquiet.TheVariants.{ScanState}
use Rattle.quiet_watch.specs.HeardPlays.{watching}
use Rattle.quiet_watch.specs.Watches.{Watched, or_else, walk_seen, watch_step, watch_tdo, watch_after, watch_answers, ends_in}

-- a path leads there
pub path_there : (at to : Tap) → walk at (path_of at to) ≡ to
path_there at to = path_leads at to (path_of at to) (is_path at to)

-- ---- inputs one after another

pub after_both : (xs ys : List Input) (w : Watched) → watch_after w (xs ++ ys) ≡ watch_after (watch_after w xs) ys
after_both [] ys w = refl
after_both (i ∷ xs) ys w = after_both xs ys (watch_step w i.tms i.tdi)

pub answers_both : (xs ys : List Input) (w : Watched) → watch_answers w (xs ++ ys) ≡ watch_answers w xs ++ watch_answers (watch_after w xs) ys
answers_both [] ys w = refl
answers_both (i ∷ xs) ys w = ap (λ t. watch_tdo w i.tdi ∷ t) (answers_both xs ys (watch_step w i.tms i.tdi))

-- ---- what is seen

pub or_none : (s : Option Unquiet) → or_else s None ≡ s
or_none (Some why) = refl
or_none None = refl

pub or_assoc : (a b c : Option Unquiet) → or_else (or_else a b) c ≡ or_else a (or_else b c)
or_assoc (Some why) b c = refl
or_assoc None b c = refl

-- what the clocks of a walk show
abbrev pub walks_seen : Tap → List Bool → Option Unquiet
walks_seen at [] = None
walks_seen at (m ∷ ms) = or_else (walk_seen at m) (walks_seen (next_of at m) ms)

pub walk_after : (ms : List Bool) (ds : List Desc) (cs : List Card) (at : Tap) (l : Bool) (s : Option Unquiet) →
    watch_after (watching ds cs at l s) (with_zero ms)
    ≡ watching ds (board_after cs (with_zero ms)) (walk at ms) (loaded_after at ms l) (or_else s (walks_seen at ms))
walk_after [] ds cs at l s = ap (watching ds cs at l) (sym (or_none s))
walk_after (m ∷ ms) ds cs at l s =
    walk_after ms ds (board_step cs m false) (next_of at m) (loaded_at (next_of at m) l) (or_else s (walk_seen at m))
    ∙ ap (watching ds (board_after (board_step cs m false) (with_zero ms)) (walk (next_of at m) ms) (loaded_after (next_of at m) ms (loaded_at (next_of at m) l)))
    (or_assoc s (walk_seen at m) (walks_seen (next_of at m) ms))

pub walk_answers : (ms : List Bool) (ds : List Desc) (cs : List Card) (at : Tap) (l : Bool) (s : Option Unquiet) →
    watch_answers (watching ds cs at l s) (with_zero ms) ≡ tdos (clocks_of cs (with_zero ms))
walk_answers [] ds cs at l s = refl
walk_answers (m ∷ ms) ds cs at l s =
    ap (λ t. board_tdo cs false ∷ t) (walk_answers ms ds (board_step cs m false) (next_of at m) (loaded_at (next_of at m) l) (or_else s (walk_seen at m)))

none_seen : (at : Tap) (m : Bool) → is_scan_state at ≡ false → walk_seen at m ≡ None
none_seen DrShift m e = absurd (false≢true (sym e))
none_seen IrShift m e = absurd (false≢true (sym e))
none_seen IrCapture m e = absurd (false≢true (sym e))
none_seen _ m e = refl

-- a walk from such a state shows it, also if it ends there
pub scan_sees : (ms : List Bool) (at : Tap) → is_scan_state at ≡ true → or_else (walks_seen at ms) (ends_in (walk at ms)) ≡ Some ScanState
scan_sees [] at e = ap (λ b. if b then Some ScanState else None) e
scan_sees (m ∷ ms) DrShift e = refl
scan_sees (m ∷ ms) IrShift e = refl
scan_sees (true ∷ ms) IrCapture e = refl
scan_sees (false ∷ ms) IrCapture e = scan_sees ms IrShift refl
scan_sees (m ∷ ms) _ e = absurd (false≢true e)

pub unquiet_sees : (ms : List Bool) (at : Tap) → is_scan_state at ≡ false → ¬ IsQuietWalk at ms →
    or_else (walks_seen at ms) (ends_in (walk at ms)) ≡ Some ScanState
unquiet_sees [] at e n = absurd (n tt)
unquiet_sees (m ∷ ms) at e n =
    ap (λ x. or_else (or_else x (walks_seen (next_of at m) ms)) (ends_in (walk (next_of at m) ms))) (none_seen at m e)
    ∙ by (is_scan_state (next_of at m)) refl (λ h q. unquiet_sees ms (next_of at m) h q)
  where
    by : (b : Bool) → is_scan_state (next_of at m) ≡ b →
        (is_scan_state (next_of at m) ≡ false → ¬ IsQuietWalk (next_of at m) ms →
        or_else (walks_seen (next_of at m) ms) (ends_in (walk (next_of at m) ms)) ≡ Some ScanState) → or_else (walks_seen (next_of at m) ms) (ends_in (walk (next_of at m) ms)) ≡ Some ScanState
    by true h rest = scan_sees ms (next_of at m) h
    by false h rest = rest h (λ q. n (h, q))

pub quiet_sees : (ms : List Bool) (at : Tap) → is_scan_state at ≡ false → IsQuietWalk at ms → walks_seen at ms ≡ None
quiet_sees [] at e q = refl
quiet_sees (m ∷ ms) at e q =
    ap (λ x. or_else x (walks_seen (next_of at m) ms)) (none_seen at m e) ∙ quiet_sees ms (next_of at m) q.0 q.1

pub quiet_ends : (ms : List Bool) (at : Tap) → is_scan_state at ≡ false → IsQuietWalk at ms → is_scan_state (walk at ms) ≡ false
quiet_ends [] at e q = e
quiet_ends (m ∷ ms) at e q = quiet_ends ms (next_of at m) q.0 q.1

-- what was seen stays seen
pub walk_keeps_seen : (ms : List Bool) (at : Tap) (s : Option Unquiet) (why : Unquiet) → or_else s (ends_in at) ≡ Some why →
    or_else (or_else s (walks_seen at ms)) (ends_in (walk at ms)) ≡ Some why
walk_keeps_seen ms at (Some other) why e = e
walk_keeps_seen ms at None why e = by (is_scan_state at) refl
  where
    by : (b : Bool) → is_scan_state at ≡ b → or_else (walks_seen at ms) (ends_in (walk at ms)) ≡ Some why
    by true h =
        let same : Some ScanState ≡ Some why = sym (ap (λ b. if b then Some ScanState else None) h) ∙ e in
        scan_sees ms at h ∙ same
    by false h =
        let never : None ≡ Some why = sym (ap (λ b. if b then Some ScanState else None) h) ∙ e in
        absurd cc
