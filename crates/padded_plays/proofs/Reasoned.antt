-- A deed is quiet, or there is one reason why it is not.
use Rattle.std.proofs.Common.{◌≡◌, ◌≢◌, ◌≤◌, ◌⊎◌, ℕ, zero, suc, Bool, true, false, List, [], ◌∷◌, replicate, refl, sym, ap, ◌∙◌, inl, inr, arith}
use Rattle.std.proofs.lemmas.Bool.{false≢true, cases_eq}
use Rattle.tap_states.specs.declared.Tap.{Tap}
use Rattle.tap_states.specs.Tap.{next_of}
use Rattle.tap_states.specs.Path.{path_of}
use Rattle.dev_card.specs.Line.{pause_state}
use Rattle.dev_card.specs.Clocks.{rest_tms}
use Rattle.dev_card.specs.Scans.{BoardScan}
use Rattle.stapl_meaning.specs.Deeds.{Deed, Says, Goes, Stays, Scans, Chain}
use Rattle.padded_plays.specs.QuietClocks.{is_scan_state, IsQuietWalk}
use Rattle.padded_plays.specs.QuietPlays.{IsQuietDeed}
use Rattle.padded_plays.specs.declared.unquiet.Unquiet.{Unquiet}
use Rattle.padded_plays.specs.declared.unquiet.Unquiet.TheVariants.{Instruction, Data, NotLoaded, ScanState}
use Rattle.padded_plays.specs.Reasons.{shifted_count, register_count, IsUnquiet, wrong_instruction, wrong_data, not_loaded, way_to_stop, move, stay, length_reason, number_of_reason, IsReason, HasReason}

pub walk_decided : (at : Tap) (ms : List Bool) → IsQuietWalk at ms ⊎ ¬ IsQuietWalk at ms
walk_decided at [] = inl tt
walk_decided at (m ∷ ms) = by (is_scan_state (next_of at m)) refl (walk_decided (next_of at m) ms)
  where
    by : (b : Bool) → is_scan_state (next_of at m) ≡ b → IsQuietWalk (next_of at m) ms ⊎ ¬ IsQuietWalk (next_of at m) ms →
        IsQuietWalk at (m ∷ ms) ⊎ ¬ IsQuietWalk at (m ∷ ms)
    by true e r = inr (λ q. false≢true (sym q.0 ∙ e))
    by false e (inl q) = inl (e, q)
    by false e (inr n) = inr (λ q. n q.1)

pub no_reason : (loaded : Bool) (k : Chain) (d : Deed) (why : Unquiet) → IsQuietDeed loaded k d → IsUnquiet loaded k d why → ⊥
no_reason loaded k _ _ q (wrong_instruction s i ne) = ne q.as_long
no_reason loaded k _ _ q (wrong_data s i ne) = ne q.as_long
no_reason loaded k _ _ q (not_loaded s i out) = false≢true (sym out ∙ q.loaded_before i)
no_reason loaded k _ _ q (way_to_stop s n) = n q.quiet_stop
no_reason loaded k _ _ q (move to n) = n q
no_reason loaded k _ _ q (stay c n) = n q

-- ---- one reason

-- the reason of a deed that has this number
reason_with : Chain → Deed → ℕ → Unquiet
reason_with k (Says event) n = ScanState
reason_with k (Goes to) n = ScanState
reason_with k (Stays clocks) n = ScanState
reason_with k (Scans s) zero = Instruction (shifted_count s) (register_count k s)
reason_with k (Scans s) (suc zero) = Data (shifted_count s) (register_count k s)
reason_with k (Scans s) (suc (suc zero)) = NotLoaded
reason_with k (Scans s) (suc (suc (suc n))) = ScanState

by_number : (loaded : Bool) (k : Chain) (d : Deed) (why : Unquiet) → IsUnquiet loaded k d why → why ≡ reason_with k d (number_of_reason why)
unfolding reason_with
by_number loaded k _ _ (wrong_instruction s i ne) = refl
by_number loaded k _ _ (wrong_data s i ne) = refl
by_number loaded k _ _ (not_loaded s i out) = refl
by_number loaded k _ _ (way_to_stop s n) = refl
by_number loaded k _ _ (move to n) = refl
by_number loaded k _ _ (stay c n) = refl

pub one_reason : (loaded : Bool) (k : Chain) (d : Deed) (why other : Unquiet) → IsReason loaded k d why → IsReason loaded k d other → why ≡ other
one_reason loaded k d why other r q =
    let below : number_of_reason why ≤ number_of_reason other = r.first other q.holds in
    let above : number_of_reason other ≤ number_of_reason why = q.first why r.holds in
    let same : number_of_reason why ≡ number_of_reason other = omega arith in
    by_number loaded k d why r.holds ∙ ap (reason_with k d) same ∙ sym (by_number loaded k d other q.holds)

-- ---- the first reason

-- moves and stays have one number of reasons
last_of_walk : (loaded : Bool) (k : Chain) (to : Tap) (why : Unquiet) → IsUnquiet loaded k (Goes to) why → 3 ≤ number_of_reason why
last_of_walk loaded k to _ (move _ n) = omega arith

last_of_stay : (loaded : Bool) (k : Chain) (c : ℕ) (why : Unquiet) → IsUnquiet loaded k (Stays c) why → 3 ≤ number_of_reason why
last_of_stay loaded k c _ (stay _ n) = omega arith

module _ (loaded : Bool) (k : Chain) (s : BoardScan) where
  after_lengths : s.ir ≡ false → (why : Unquiet) → IsUnquiet loaded k (Scans s) why → 1 ≤ number_of_reason why
  after_lengths e _ (wrong_instruction _ i ne) = absurd (false≢true (sym e ∙ i))
  after_lengths e _ (wrong_data _ i ne) = omega arith
  after_lengths e _ (not_loaded _ i out) = omega arith
  after_lengths e _ (way_to_stop _ n) = omega arith

  after_data : shifted_count s ≡ register_count k s → (why : Unquiet) → IsUnquiet loaded k (Scans s) why → 2 ≤ number_of_reason why
  after_data e _ (wrong_instruction _ i ne) = absurd (ne e)
  after_data e _ (wrong_data _ i ne) = absurd (ne e)
  after_data e _ (not_loaded _ i out) = omega arith
  after_data e _ (way_to_stop _ n) = omega arith

  after_loaded : shifted_count s ≡ register_count k s → (s.ir ≡ false → loaded ≡ true) → (why : Unquiet) → IsUnquiet loaded k (Scans s) why →
      3 ≤ number_of_reason why
  after_loaded e l _ (wrong_instruction _ i ne) = absurd (ne e)
  after_loaded e l _ (wrong_data _ i ne) = absurd (ne e)
  after_loaded e l _ (not_loaded _ i out) = absurd (false≢true (sym out ∙ l i))
  after_loaded e l _ (way_to_stop _ n) = omega arith

  -- a scan whose length is wrong, one that shifts data while no instruction is loaded, and one whose way is wrong
  pub wrong_length : (ir : Bool) → s.ir ≡ ir → shifted_count s ≢ register_count k s → IsReason loaded k (Scans s) (length_reason ir (shifted_count s) (register_count k s))
  wrong_length true i ne = record { holds = wrong_instruction s i ne; first = λ other u. omega arith }
  wrong_length false i ne = record { holds = wrong_data s i ne; first = after_lengths i }

  pub none_loaded : s.ir ≡ false → loaded ≡ false → shifted_count s ≡ register_count k s → IsReason loaded k (Scans s) NotLoaded
  none_loaded i out e = record { holds = not_loaded s i out; first = after_data e }

  pub wrong_way : shifted_count s ≡ register_count k s → (s.ir ≡ false → loaded ≡ true) →
      ¬ IsQuietWalk (pause_state s.ir) (path_of (pause_state s.ir) s.stop) → IsReason loaded k (Scans s) ScanState
  wrong_way e l n = record { holds = way_to_stop s n; first = after_loaded e l }

  by_way : shifted_count s ≡ register_count k s → (s.ir ≡ false → loaded ≡ true) →
      IsQuietWalk (pause_state s.ir) (path_of (pause_state s.ir) s.stop) ⊎ ¬ IsQuietWalk (pause_state s.ir) (path_of (pause_state s.ir) s.stop) →
      IsQuietDeed loaded k (Scans s) ⊎ HasReason loaded k (Scans s)
  by_way e l (inl q) = inl (record { as_long = e; loaded_before = l; quiet_stop = q })
  by_way e l (inr n) = inr (record { why = ScanState; is = wrong_way e l n })

  by_loaded : shifted_count s ≡ register_count k s → (ir l : Bool) → s.ir ≡ ir → loaded ≡ l → IsQuietDeed loaded k (Scans s) ⊎ HasReason loaded k (Scans s)
  by_loaded e true l i h = by_way e (λ f. absurd (false≢true (sym f ∙ i))) (walk_decided (pause_state s.ir) (path_of (pause_state s.ir) s.stop))
  by_loaded e false true i h = by_way e (λ f. h) (walk_decided (pause_state s.ir) (path_of (pause_state s.ir) s.stop))
  by_loaded e false false i h = inr (record { why = NotLoaded; is = none_loaded i h e })

  by_length : (shifted_count s ≡ register_count k s) ⊎ (shifted_count s ≢ register_count k s) → IsQuietDeed loaded k (Scans s) ⊎ HasReason loaded k (Scans s)
  by_length (inl e) = by_loaded e s.ir loaded refl refl
  by_length (inr ne) = inr (record { why = length_reason s.ir (shifted_count s) (register_count k s); is = wrong_length s.ir refl ne })

pub moves_wrong : (loaded : Bool) (k : Chain) (to : Tap) → ¬ IsQuietWalk k.tap (path_of k.tap to) → IsReason loaded k (Goes to) ScanState
moves_wrong loaded k to n = record { holds = move to n; first = last_of_walk loaded k to }

pub stays_wrong : (loaded : Bool) (k : Chain) (c : ℕ) → ¬ IsQuietWalk k.tap (replicate c (rest_tms k.tap)) → IsReason loaded k (Stays c) ScanState
stays_wrong loaded k c n = record { holds = stay c n; first = last_of_stay loaded k c }

pub deed_decided : (loaded : Bool) (k : Chain) (d : Deed) → IsQuietDeed loaded k d ⊎ HasReason loaded k d
deed_decided loaded k (Says event) = inl tt
deed_decided loaded k (Goes to) = by (walk_decided k.tap (path_of k.tap to))
  where
    by : IsQuietWalk k.tap (path_of k.tap to) ⊎ ¬ IsQuietWalk k.tap (path_of k.tap to) → IsQuietDeed loaded k (Goes to) ⊎ HasReason loaded k (Goes to)
    by (inl q) = inl q
    by (inr n) = inr (record { why = ScanState; is = moves_wrong loaded k to n })
deed_decided loaded k (Stays c) = by (walk_decided k.tap (replicate c (rest_tms k.tap)))
  where
    by : IsQuietWalk k.tap (replicate c (rest_tms k.tap)) ⊎ ¬ IsQuietWalk k.tap (replicate c (rest_tms k.tap)) → IsQuietDeed loaded k (Stays c) ⊎ HasReason loaded k (Stays c)
    by (inl q) = inl q
    by (inr n) = inr (record { why = ScanState; is = stays_wrong loaded k c n })
deed_decided loaded k (Scans s) = by_length loaded k s (cases_eq (shifted_count s) (register_count k s))
