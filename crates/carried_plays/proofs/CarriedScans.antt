-- What a turn comes to on a chain with base padding is what it comes to on a chain without it, with the paddings of the
-- base in its scans.
use Rattle.std.proofs.Common.{◌≡◌, ℕ, ◌+◌, Bool, true, false, cond, List, [], ◌∷◌, ◌++◌, length, take, drop, refl, sym, ap, subst, ◌∙◌, arith, append-nil}
use Rattle.std.proofs.lemmas.List.{length-replicate}
use Rattle.tap_states.specs.Tap.{is_stable_state}
use Rattle.dev_card.specs.Board.{tdos}
use Rattle.dev_card.specs.Clocks.{scan_inputs, entry_tms}
use Rattle.dev_card.specs.Padding.{BaseLengths, base_pre_of, base_post_of, between_ones, at_data}
use Rattle.dev_card.specs.Scans.{BoardScan, scan_bits, inputs_of_scan}
use Rattle.dev_card.specs.FarEnds.{far_clocks, far_after}
use Rattle.stapl_meaning.specs.declared.events.Event.{Event}
use Rattle.stapl_meaning.specs.Deeds.{Deed, Says, Goes, Stays, Scans, Chain, based, pulses, deed_events, deed_chain, deeds_events, deeds_chain, captured_on}
use Rattle.stapl_meaning.specs.States.{Turned, Leads, Over, Broken, Scanning, NoTurn, Happened, Led, Finished, Broke, Lacks, with_events, scanned_on, happens}
use Rattle.padded_plays.specs.QuietPlays.{no_base}
use Rattle.carried_plays.specs.CarriedRuns.{ones, padded_state, unbased}
use Rattle.carried_plays.proofs.CarriedTurns.{HaveNoScan, AreBare, Fits, padded_scan, padded_turned, KeptTurned}

-- ---- moves and stays

pub same_events : (ds : List Deed) (k : Chain) → HaveNoScan ds → deeds_events (unbased k) ds ≡ deeds_events k ds
same_events [] k h = refl
same_events (Says event ∷ ds) k h = ap (λ t. event ∷ t) (same_events ds k h)
same_events (Goes to ∷ ds) k h = ap (λ t. deed_events k (Goes to) ++ t) (same_events ds (deed_chain k (Goes to)) h)
same_events (Stays n ∷ ds) k h = ap (λ t. deed_events k (Stays n) ++ t) (same_events ds (deed_chain k (Stays n)) h)
same_events (Scans job ∷ ds) k h = absurd h

pub same_chain : (ds : List Deed) (k : Chain) → HaveNoScan ds → deeds_chain (unbased k) ds ≡ unbased (deeds_chain k ds)
same_chain [] k h = refl
same_chain (Says event ∷ ds) k h = same_chain ds k h
same_chain (Goes to ∷ ds) k h = same_chain ds (deed_chain k (Goes to)) h
same_chain (Stays n ∷ ds) k h = same_chain ds (deed_chain k (Stays n)) h
same_chain (Scans job ∷ ds) k h = absurd h

pub same_base : (ds : List Deed) (k : Chain) → (deeds_chain k ds).base ≡ k.base
same_base [] k = refl
same_base (Says event ∷ ds) k = same_base ds k
same_base (Goes to ∷ ds) k = same_base ds (deed_chain k (Goes to))
same_base (Stays n ∷ ds) k = same_base ds (deed_chain k (Stays n))
same_base (Scans job ∷ ds) k = same_base ds (deed_chain k (Scans job))

-- ---- scans

no_ones : (ir : Bool) (bits : List Bool) → between_ones (base_pre_of ir no_base) bits (base_post_of ir no_base) ≡ bits
no_ones true bits = append-nil bits
no_ones false bits = append-nil bits

bare_bits : (a b : ℕ) (pre bits post : List Bool) → AreBare pre post → between_ones a (pre ++ (bits ++ post)) b ≡ ones a ++ (bits ++ ones b)
bare_bits a b pre bits post h =
    ap (λ t. between_ones a (t ++ (bits ++ post)) b) h.0 ∙ ap (λ t. between_ones a (bits ++ t) b) h.1 ∙ ap (λ t. between_ones a t b) (append-nil bits)

pub same_bits : (base : BaseLengths) (job : BoardScan) → AreBare job.paddings.pre job.paddings.post
    → scan_bits (based no_base (padded_scan base 0 job)) ≡ scan_bits (based base job)
same_bits base job h =
    no_ones job.ir (ones (base_pre_of job.ir base) ++ (job.bits ++ ones (base_post_of job.ir base)))
    ∙ sym (bare_bits (base_pre_of job.ir base) (base_post_of job.ir base) job.paddings.pre job.bits job.paddings.post h)

no_pre : (ir : Bool) (n : ℕ) → base_pre_of ir no_base + n ≡ n
no_pre true n = omega arith
no_pre false n = omega arith

same_place : (base : BaseLengths) (job : BoardScan) → AreBare job.paddings.pre job.paddings.post
    → base_pre_of job.ir no_base + length (ones (base_pre_of job.ir base)) ≡ base_pre_of job.ir base + length job.paddings.pre
same_place base job h =
    let a : ℕ = base_pre_of job.ir base in
    let n : length (ones a) ≡ a = length-replicate a true in
    let m : length job.paddings.pre ≡ 0 = ap (λ (t : List Bool). length t) h.0 in
    no_pre job.ir (length (ones a)) ∙ add_none a (length (ones a)) (length job.paddings.pre) n m
  where
    add_none : (a x y : ℕ) → x ≡ a → y ≡ 0 → x ≡ a + y
    add_none a x y e f = omega arith

module _ (base : BaseLengths) (count : ℕ) (k : Chain) (job : BoardScan) (own : k.base ≡ base) (bare : AreBare job.paddings.pre job.paddings.post) where
  abbrev other : BoardScan
  other = padded_scan base count job

  inputs_same : inputs_of_scan k.tap (based no_base other) ≡ inputs_of_scan k.tap (based k.base job)
  inputs_same = ap (scan_inputs k.tap job.ir job.stop) (same_bits base job bare) ∙ ap (λ b. inputs_of_scan k.tap (based b job)) (sym own)

  pub scan_events_same : deed_events (unbased k) (Scans other) ≡ deed_events k (Scans job)
  scan_events_same = ap (λ is. pulses (far_clocks k.far is)) inputs_same

  pub scan_chain_same : deed_chain (unbased k) (Scans other) ≡ unbased (deed_chain k (Scans job))
  scan_chain_same = ap (λ is. unbased (record k { tap = job.stop; far = far_after k.far is })) inputs_same

  pub captured_same : captured_on (unbased k) other ≡ captured_on k job
  captured_same =
      ap (λ is. at_data (based no_base other).paddings (length job.bits) (drop (length (entry_tms k.tap job.ir)) (tdos (far_clocks k.far is)))) inputs_same
      ∙ ap (λ n. take (length job.bits) (drop n (drop (length (entry_tms k.tap job.ir)) (tdos (far_clocks k.far (inputs_of_scan k.tap (based k.base job)))))))
      (same_place base job bare ∙ ap (λ b. base_pre_of job.ir b + length job.paddings.pre) (sym own))

-- ---- turns

module _ (base : BaseLengths) (count : ℕ) where
  abbrev pub padded_happened : Happened → Happened
  padded_happened (Led events place s k) = Led events place (padded_state base s) (unbased k)
  padded_happened (Finished events ending s k) = Finished events ending (padded_state base s) (unbased k)
  padded_happened (Broke events f s k) = Broke events f (padded_state base s) (unbased k)
  padded_happened (Lacks events) = Lacks events

  -- what of a state and a chain is kept
  abbrev pub HappenedFits : Happened → Type 0
  HappenedFits (Led events place s k) = Fits base count s × (k.base ≡ base)
  HappenedFits (Finished events ending s k) = Unit {0}
  HappenedFits (Broke events f s k) = Unit {0}
  HappenedFits (Lacks events) = Unit {0}

  pub record SameHappened (g h : Happened) : Type 0 where
    pub same : h ≡ padded_happened g
    pub kept : HappenedFits g

  with_same : (xs : List Event) (g : Happened) → with_events xs (padded_happened g) ≡ padded_happened (with_events xs g)
  with_same xs (Led events place s k) = refl
  with_same xs (Finished events ending s k) = refl
  with_same xs (Broke events f s k) = refl
  with_same xs (Lacks events) = refl

  with_fits : (xs : List Event) (g : Happened) → HappenedFits g → HappenedFits (with_events xs g)
  with_fits xs (Led events place s k) h = h
  with_fits xs (Finished events ending s k) h = tt
  with_fits xs (Broke events f s k) h = tt
  with_fits xs (Lacks events) h = tt

  with_both : (xs : List Event) (g h : Happened) → SameHappened g h → SameHappened (with_events xs g) (with_events xs h)
  with_both xs g h p = record { same = ap (with_events xs) p.same ∙ with_same xs g; kept = with_fits xs g p.kept }

  either_both : (b : Bool) (g h : Happened) → SameHappened g h → SameHappened (cond b g (Lacks [])) (cond b h (Lacks []))
  either_both true g h p = p
  either_both false g h p = record { same = refl; kept = tt }

  pub happens_same : (t : Turned) (k : Chain) → k.base ≡ base → KeptTurned base count t → SameHappened (happens k t) (happens (unbased k) (padded_turned base count t))
  happens_same (Leads ds place s) k own h = record {
    same = ap (λ es. Led es place (padded_state base s) (deeds_chain (unbased k) ds)) (same_events ds k h.0)
        ∙ ap (λ l. Led (deeds_events k ds) place (padded_state base s) l) (same_chain ds k h.0);
    kept = (h.1, same_base ds k ∙ own);
  }
  happens_same (Over ds ending s) k own h = record {
    same = ap (λ es. Finished es ending (padded_state base s) (deeds_chain (unbased k) ds)) (same_events ds k h.0)
        ∙ ap (λ l. Finished (deeds_events k ds) ending (padded_state base s) l) (same_chain ds k h.0);
    kept = tt;
  }
  happens_same (Broken ds f s) k own h = record {
    same = ap (λ es. Broke es f (padded_state base s) (deeds_chain (unbased k) ds)) (same_events ds k h.0)
        ∙ ap (λ l. Broke (deeds_events k ds) f (padded_state base s) l) (same_chain ds k h.0);
    kept = tt;
  }
  happens_same (NoTurn ds) k own h = record { same = ap Lacks (same_events ds k h); kept = tt }
  happens_same (Scanning ds job rest) k own h =
      let l : Chain = deeds_chain k ds in
      let lo : l.base ≡ base = same_base ds k ∙ own in
      let other : BoardScan = padded_scan base count job in
      let go : List Bool → Chain → Happened = λ bits c. happens c (rest bits) in
      let go2 : List Bool → Chain → Happened = λ bits c. happens c (padded_turned base count (rest bits)) in
      let bits : List Bool = captured_on l job in
      let m : Chain = deed_chain l (Scans job) in
      let r : SameHappened (go bits m) (go2 bits (unbased m)) = happens_same (rest bits) m lo (h.2 bits) in
      let x : Happened = with_events (deed_events l (Scans job)) (go2 bits (unbased m)) in
      let y : Happened = with_events (deed_events (unbased l) (Scans other)) (go2 (captured_on (unbased l) other) (deed_chain (unbased l) (Scans other))) in
      let e : y ≡ x =
      ap (λ es. with_events es (go2 (captured_on (unbased l) other) (deed_chain (unbased l) (Scans other)))) (scan_events_same base count l job lo h.1)
      ∙ ap (λ bs. with_events (deed_events l (Scans job)) (go2 bs (deed_chain (unbased l) (Scans other)))) (captured_same base count l job lo h.1)
      ∙ ap (λ c. with_events (deed_events l (Scans job)) (go2 bits c)) (scan_chain_same base count l job lo h.1) in
      let one : SameHappened (with_events (deed_events l (Scans job)) (go bits m)) y =
      subst (λ z. SameHappened (with_events (deed_events l (Scans job)) (go bits m)) z) (sym e) (with_both (deed_events l (Scans job)) (go bits m) (go2 bits (unbased m)) r) in
      let two : SameHappened (scanned_on l job go) (scanned_on (unbased l) other go2) =
      either_both (is_stable_state l.tap) (with_events (deed_events l (Scans job)) (go bits m)) y one in
      subst (λ z. SameHappened (happens k (Scanning ds job rest)) z)
      (sym (ap (λ es. with_events es (scanned_on (deeds_chain (unbased k) ds) other go2)) (same_events ds k h.0)
      ∙ ap (λ c. with_events (deeds_events k ds) (scanned_on c other go2)) (same_chain ds k h.0)))
      (with_both (deeds_events k ds) (scanned_on l job go) (scanned_on (unbased l) other go2) two)
