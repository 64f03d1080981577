-- A watch over deeds: it clocks the board as the deeds do without base padding, and has seen the first that is not quiet.
use Rattle.std.proofs.Common.{◌≡◌, ◌≢◌, ◌⊎◌, ℕ, zero, suc, ◌+◌, Bool, true, false, List, [], ◌∷◌, replicate, refl, sym, ap, subst, ◌∙◌, inl, inr, eq-eqb}
use Rattle.std.specs.Prelude.{Option, Some, None, if◌then◌else◌, ◌||◌}
use Rattle.std.proofs.lemmas.Bool.{false≢true, ne_eqb, cases_eq}
use Rattle.tap_states.specs.declared.Tap.{Tap}
use Rattle.tap_states.specs.declared.Tap.TheVariants.{Reset, Idle, DrPause, IrPause}
use Rattle.tap_states.specs.Tap.{next_of, is_stable_state}
use Rattle.tap_states.specs.Path.{walk, path_of}
use Rattle.dev_card.specs.declared.desc.Desc.{Desc}
use Rattle.dev_card.specs.Card.{Card, selected, selected_length}
use Rattle.dev_card.specs.Board.{board_after}
use Rattle.dev_card.specs.Line.{pause_state}
use Rattle.dev_card.specs.Clocks.{with_zero, rest_tms, move_inputs, stay_inputs, at_shift, entry_inputs}
use Rattle.dev_card.specs.Scans.{BoardScan, inputs_of_scan}
use Rattle.dev_card.specs.Sound.{register_lengths}
use Rattle.dev_card.specs.PaddedScan.{descriptions_of}
use Rattle.dev_card.proofs.OneScan.{descriptions_after}
use Rattle.stapl_meaning.specs.declared.events.Event.{Event}
use Rattle.stapl_meaning.specs.Deeds.{Deed, Says, Goes, Stays, Scans, Chain, based, deed_chain}
use Rattle.padded_plays.specs.QuietClocks.{is_scan_state, IsQuietWalk, loaded_after}
use Rattle.padded_plays.specs.QuietPlays.{no_base, IsQuietDeed, loaded_by_deed}
use Rattle.padded_plays.proofs.SameDeeds.{chain_alone}
use Rattle.padded_plays.specs.declared.unquiet.Unquiet.{Unquiet}
use Rattle.padded_plays.specs.declared.unquiet.Unquiet.TheVariants.{NotLoaded, ScanState}
use Rattle.padded_plays.specs.Reasons.{IsReason, shifted_count, register_count, length_reason}
use Rattle.padded_plays.proofs.Reasoned.{no_reason, one_reason, wrong_length, none_loaded, wrong_way, moves_wrong, stays_wrong}
use Rattle.quiet_watch.specs.HeardPlays.{watching, tap_by}
use Rattle.quiet_watch.specs.Watches.{marks, Watched, lengths_by, or_else, scan_seen, watch_after, ends_in}
use Rattle.quiet_watch.proofs.Walked.{path_there, walks_seen, walk_after, unquiet_sees, quiet_sees, quiet_ends, walk_keeps_seen}
use Rattle.quiet_watch.proofs.Scanned.{bits_in, scan_after}

-- the lengths of registers by the descriptions of their devices
pub lengths_told : (ir : Bool) (cs : List Card) → lengths_by ir (descriptions_of cs) cs ≡ register_lengths ir cs
lengths_told ir [] = refl
lengths_told true (c ∷ cs) = ap (λ n. c.desc.ir_len + n) (lengths_told true cs)
lengths_told false (c ∷ cs) = ap (λ n. selected_length (selected c) + n) (lengths_told false cs)

-- nothing was seen, and the controllers are not in a state into which only scans lead
pub record IsClean (s : Option Unquiet) (at : Tap) : Type 0 where
  pub none : s ≡ None
  pub out : is_scan_state at ≡ false

-- the cards after a deed of a run alone
abbrev pub cards_by : Tap → List Card → Deed → List Card
cards_by at cs (Says event) = cs
cards_by at cs (Goes to) = board_after cs (move_inputs at to)
cards_by at cs (Stays n) = board_after cs (stay_inputs at n)
cards_by at cs (Scans scan) = board_after cs (inputs_of_scan at (based no_base scan))

pub alone_then : (at : Tap) (cs : List Card) (d : Deed) → deed_chain (chain_alone at cs) d ≡ chain_alone (tap_by at d) (cards_by at cs d)
alone_then at cs (Says event) = refl
alone_then at cs (Goes to) = refl
alone_then at cs (Stays n) = refl
alone_then at cs (Scans scan) = refl

-- A watch after a deed: it clocked the board as the deed does without base padding. What was seen stays seen. After a
-- quiet deed nothing is seen, and after one that is not the reason is.
pub record IsWatched (ds : List Desc) (cs : List Card) (at : Tap) (l : Bool) (s : Option Unquiet) (d : Deed) (w : Watched) : Type 0 where
  pub loaded : Bool
  pub seen : Option Unquiet
  pub is : w ≡ watching ds (cards_by at cs d) (tap_by at d) loaded seen
  pub described : descriptions_of (cards_by at cs d) ≡ ds
  pub kept : (why : Unquiet) → or_else s (ends_in at) ≡ Some why → or_else seen (ends_in (tap_by at d)) ≡ Some why
  pub quiet : IsClean s at → IsQuietDeed l (chain_alone at cs) d → IsClean seen (tap_by at d) × (loaded ≡ loaded_by_deed l (chain_alone at cs) d)
  pub unquiet : IsClean s at → (why : Unquiet) → IsReason l (chain_alone at cs) d why → or_else seen (ends_in (tap_by at d)) ≡ Some why

-- ---- walks

-- a walk of a deed that leads to a state
module _ (ds : List Desc) (cs : List Card) (at to : Tap) (l : Bool) (s : Option Unquiet) (ms : List Bool) (leads : walk at ms ≡ to) where
  walk_is : watch_after (watching ds cs at l s) (with_zero ms)
      ≡ watching ds (board_after cs (with_zero ms)) to (loaded_after at ms l) (or_else s (walks_seen at ms))
  walk_is =
      walk_after ms ds cs at l s
      ∙ ap (λ t. watching ds (board_after cs (with_zero ms)) t (loaded_after at ms l) (or_else s (walks_seen at ms))) leads

  walk_kept : (why : Unquiet) → or_else s (ends_in at) ≡ Some why → or_else (or_else s (walks_seen at ms)) (ends_in to) ≡ Some why
  walk_kept why e =
      subst (λ (t : Tap). or_else (or_else s (walks_seen at ms)) (ends_in t) ≡ Some why) leads (walk_keeps_seen ms at s why e)

  walk_quiet : IsClean s at → IsQuietWalk at ms → IsClean (or_else s (walks_seen at ms)) to
  walk_quiet c q = record {
    none = ap (λ o. or_else o (walks_seen at ms)) c.none ∙ quiet_sees ms at c.out q;
    out = subst (λ (t : Tap). is_scan_state t ≡ false) leads (quiet_ends ms at c.out q);
  }

  walk_unquiet : IsClean s at → ¬ IsQuietWalk at ms → or_else (or_else s (walks_seen at ms)) (ends_in to) ≡ Some ScanState
  walk_unquiet c n =
      ap (λ o. or_else (or_else o (walks_seen at ms)) (ends_in to)) c.none
      ∙ subst (λ (t : Tap). or_else (walks_seen at ms) (ends_in t) ≡ Some ScanState) leads (unquiet_sees ms at c.out n)

-- a stay leads to no other state, if the state is stable
rests : (at : Tap) → is_stable_state at ≡ true → next_of at (rest_tms at) ≡ at
rests Reset e = refl
rests Idle e = refl
rests DrPause e = refl
rests IrPause e = refl
rests _ e = absurd (false≢true e)

stays_there : (at : Tap) (n : ℕ) → is_stable_state at ≡ true → walk at (replicate n (rest_tms at)) ≡ at
stays_there at zero e = refl
stays_there at (suc n) e = ap (λ t. walk t (replicate n (rest_tms at))) (rests at e) ∙ stays_there at n e

pub watched_says : (ds : List Desc) (cs : List Card) (at : Tap) (l : Bool) (s : Option Unquiet) (event : Event) → descriptions_of cs ≡ ds →
    IsWatched ds cs at l s (Says event) (watching ds cs at l s)
watched_says ds cs at l s event told = record {
  loaded = l;
  seen = s;
  is = refl;
  described = told;
  kept = λ why e. e;
  quiet = λ c q. (c, refl);
  unquiet = λ c why r. absurd (no_reason l (chain_alone at cs) (Says event) why tt r.holds);
}

pub watched_goes : (ds : List Desc) (cs : List Card) (at : Tap) (l : Bool) (s : Option Unquiet) (to : Tap) → descriptions_of cs ≡ ds →
    IsWatched ds cs at l s (Goes to) (watch_after (watching ds cs at l s) (move_inputs at to))
watched_goes ds cs at l s to told =
    let ms : List Bool = path_of at to in
    let leads : walk at ms ≡ to = path_there at to in
    record {
      loaded = loaded_after at ms l;
      seen = or_else s (walks_seen at ms);
      is = walk_is ds cs at to l s ms leads;
      described = descriptions_after (move_inputs at to) cs ∙ told;
      kept = walk_kept ds cs at to l s ms leads;
      quiet = λ c q. (walk_quiet ds cs at to l s ms leads c q, refl);
      unquiet = λ c why r.
          (let n : ¬ IsQuietWalk at ms = λ q. no_reason l (chain_alone at cs) (Goes to) why q r.holds in
          walk_unquiet ds cs at to l s ms leads c n
          ∙ ap Some (one_reason l (chain_alone at cs) (Goes to) ScanState why (moves_wrong l (chain_alone at cs) to n) r));
    }

pub watched_stays : (ds : List Desc) (cs : List Card) (at : Tap) (l : Bool) (s : Option Unquiet) (n : ℕ) → descriptions_of cs ≡ ds → is_stable_state at ≡ true →
    IsWatched ds cs at l s (Stays n) (watch_after (watching ds cs at l s) (stay_inputs at n))
watched_stays ds cs at l s n told stable =
    let ms : List Bool = replicate n (rest_tms at) in
    let leads : walk at ms ≡ at = stays_there at n stable in
    record {
      loaded = loaded_after at ms l;
      seen = or_else s (walks_seen at ms);
      is = walk_is ds cs at at l s ms leads;
      described = descriptions_after (stay_inputs at n) cs ∙ told;
      kept = walk_kept ds cs at at l s ms leads;
      quiet = λ c q. (walk_quiet ds cs at at l s ms leads c q, refl);
      unquiet = λ c why r.
          (let out : ¬ IsQuietWalk at ms = λ q. no_reason l (chain_alone at cs) (Stays n) why q r.holds in
          walk_unquiet ds cs at at l s ms leads c out
          ∙ ap Some (one_reason l (chain_alone at cs) (Stays n) ScanState why (stays_wrong l (chain_alone at cs) n out) r));
    }

-- ---- scans

stable_is_out : (at : Tap) → is_stable_state at ≡ true → is_scan_state at ≡ false
stable_is_out Reset e = refl
stable_is_out Idle e = refl
stable_is_out DrPause e = refl
stable_is_out IrPause e = refl
stable_is_out _ e = absurd (false≢true e)

pause_is_out : (ir : Bool) → is_scan_state (pause_state ir) ≡ false
pause_is_out true = refl
pause_is_out false = refl

-- what a scan of the right length shows, and one of a wrong length
right_seen : (ir l : Bool) (n r : ℕ) → n ≡ r → scan_seen ir l n r ≡ (if ir || l then None else Some NotLoaded)
right_seen ir l n r e = ap (λ b. if b then (if ir || l then None else Some NotLoaded) else Some (length_reason ir n r)) (eq-eqb n r e)

wrong_seen : (ir l : Bool) (n r : ℕ) → n ≢ r → scan_seen ir l n r ≡ Some (length_reason ir n r)
wrong_seen ir l n r ne = ap (λ b. if b then (if ir || l then None else Some NotLoaded) else Some (length_reason ir n r)) (ne_eqb n r ne)

module _ (ds : List Desc) (cs : List Card) (at : Tap) (l : Bool) (s : Option Unquiet) (scan : BoardScan) (told : descriptions_of cs ≡ ds)
    (stable : is_stable_state at ≡ true) where
  abbrev alone : Chain
  alone = chain_alone at cs

  abbrev way : List Bool
  way = path_of (pause_state scan.ir) scan.stop

  abbrev asked : ℕ
  asked = shifted_count scan

  abbrev there : ℕ
  there = register_count (chain_alone at cs) scan

  abbrev counted : ℕ
  counted = lengths_by scan.ir ds (at_shift at scan.ir cs)

  abbrev shows : Option Unquiet
  shows = scan_seen scan.ir l asked counted

  abbrev seen_then : Option Unquiet
  seen_then = or_else (or_else s shows) (walks_seen (pause_state scan.ir) way)

  counts : counted ≡ there
  counts =
      ap (λ d. lengths_by scan.ir d (at_shift at scan.ir cs)) (sym (descriptions_after (entry_inputs at scan.ir) cs ∙ told))
      ∙ lengths_told scan.ir (at_shift at scan.ir cs)

  clean_then : (o : Option Unquiet) → IsClean s at → shows ≡ o → seen_then ≡ or_else o (walks_seen (pause_state scan.ir) way)
  clean_then o c e =
      ap (λ x. or_else (or_else x shows) (walks_seen (pause_state scan.ir) way)) c.none
      ∙ ap (λ x. or_else x (walks_seen (pause_state scan.ir) way)) e

  shows_right : asked ≡ there → (scan.ir ≡ false → l ≡ true) → shows ≡ None
  shows_right e loaded = right_seen scan.ir l asked counted (e ∙ sym counts) ∙ by scan.ir refl
    where
      by : (ir : Bool) → scan.ir ≡ ir → (if scan.ir || l then None else Some NotLoaded) ≡ None
      by true i = ap (λ b. if b || l then None else Some NotLoaded) i
      by false i = ap (λ b. if b || l then None else Some NotLoaded) i ∙ ap (λ b. if b then None else Some NotLoaded) (loaded i)

  shows_unloaded : asked ≡ there → scan.ir ≡ false → l ≡ false → shows ≡ Some NotLoaded
  shows_unloaded e i out =
      right_seen scan.ir l asked counted (e ∙ sym counts)
      ∙ ap (λ b. if b || l then None else Some NotLoaded) i ∙ ap (λ b. if b then None else Some NotLoaded) out

  scan_kept : (why : Unquiet) → or_else s (ends_in at) ≡ Some why → or_else seen_then (ends_in scan.stop) ≡ Some why
  scan_kept why e = by s refl
    where
      by : (o : Option Unquiet) → s ≡ o → or_else seen_then (ends_in scan.stop) ≡ Some why
      by (Some other) h =
          ap (λ x. or_else (or_else (or_else x shows) (walks_seen (pause_state scan.ir) way)) (ends_in scan.stop)) h
          ∙ ap (λ x. or_else x (ends_in at)) (sym h) ∙ e
      by None h =
          let none : None ≡ Some why =
          ap (λ b. if b then Some ScanState else None) (sym (stable_is_out at stable)) ∙ ap (λ x. or_else x (ends_in at)) (sym h) ∙ e in
          absurd cc

  scan_quiet : IsClean s at → IsQuietDeed l alone (Scans scan) → IsClean seen_then scan.stop
  scan_quiet c q = record {
    none = clean_then None c (shows_right q.as_long q.loaded_before) ∙ quiet_sees way (pause_state scan.ir) (pause_is_out scan.ir) q.quiet_stop;
    out = subst (λ (t : Tap). is_scan_state t ≡ false) (path_there (pause_state scan.ir) scan.stop)
        (quiet_ends way (pause_state scan.ir) (pause_is_out scan.ir) q.quiet_stop);
  }

  told_so : IsClean s at → (why : Unquiet) → shows ≡ Some why → or_else seen_then (ends_in scan.stop) ≡ Some why
  told_so c why e = ap (λ x. or_else x (ends_in scan.stop)) (clean_then (Some why) c e)

  way_unquiet : IsClean s at → asked ≡ there → (scan.ir ≡ false → l ≡ true) → ¬ IsQuietWalk (pause_state scan.ir) way →
      or_else seen_then (ends_in scan.stop) ≡ Some ScanState
  way_unquiet c e loaded n =
      ap (λ x. or_else x (ends_in scan.stop)) (clean_then None c (shows_right e loaded))
      ∙ ap (λ t. or_else (walks_seen (pause_state scan.ir) way) (ends_in t)) (sym (path_there (pause_state scan.ir) scan.stop))
      ∙ unquiet_sees way (pause_state scan.ir) (pause_is_out scan.ir) n

  -- the reason that the watch has seen is the reason of the scan
  scan_unquiet : IsClean s at → (why : Unquiet) → IsReason l alone (Scans scan) why → or_else seen_then (ends_in scan.stop) ≡ Some why
  scan_unquiet c why r = by_length (cases_eq asked there)
    where
      same : (other : Unquiet) → IsReason l alone (Scans scan) other → or_else seen_then (ends_in scan.stop) ≡ Some other → or_else seen_then (ends_in scan.stop) ≡ Some why
      same other q e = e ∙ ap Some (one_reason l alone (Scans scan) other why q r)

      wrong_way_if : asked ≡ there → (scan.ir ≡ false → l ≡ true) → or_else seen_then (ends_in scan.stop) ≡ Some why
      wrong_way_if e loaded =
          let n : ¬ IsQuietWalk (pause_state scan.ir) way =
          λ q. no_reason l alone (Scans scan) why (record { as_long = e; loaded_before = loaded; quiet_stop = q }) r.holds in
          same ScanState (wrong_way l alone scan e loaded n) (way_unquiet c e loaded n)

      by_loaded : asked ≡ there → (ir loaded : Bool) → scan.ir ≡ ir → l ≡ loaded → or_else seen_then (ends_in scan.stop) ≡ Some why
      by_loaded e true loaded i h = wrong_way_if e (λ f. absurd (false≢true (sym f ∙ i)))
      by_loaded e false true i h = wrong_way_if e (λ f. h)
      by_loaded e false false i h = same NotLoaded (none_loaded l alone scan i h e) (told_so c NotLoaded (shows_unloaded e i h))

      by_length : (asked ≡ there) ⊎ (asked ≢ there) → or_else seen_then (ends_in scan.stop) ≡ Some why
      by_length (inl e) = by_loaded e scan.ir l refl refl
      by_length (inr ne) =
          same (length_reason scan.ir asked there) (wrong_length l alone scan scan.ir refl ne)
          (told_so c (length_reason scan.ir asked there)
          (wrong_seen scan.ir l asked counted (λ e. ne (e ∙ counts)) ∙ ap (λ m. Some (length_reason scan.ir asked m)) counts))

  pub watched_scan : (b : Bool) (bs : List Bool) → bits_in scan ≡ b ∷ bs →
      IsWatched ds cs at l s (Scans scan) (watch_after (watching ds cs at l s) (inputs_of_scan at (based marks scan)))
  watched_scan b bs some = record {
    loaded = loaded_after (pause_state scan.ir) way (scan.ir || l);
    seen = seen_then;
    is = scan_after ds cs at l s scan stable b bs some;
    described = descriptions_after (inputs_of_scan at (based no_base scan)) cs ∙ told;
    kept = scan_kept;
    quiet = λ c q. (scan_quiet c q, refl);
    unquiet = scan_unquiet;
  }
