-- Between the turns of a program the controllers stand in a stable state, and so they do at its first turn.
use Rattle.std.proofs.Common.{◌≡◌, ℕ, Bool, true, false, cond, List, [], ◌∷◌, ◌++◌, map, refl, ap, ◌∙◌}
use Rattle.stapl_lexer.specs.declared.terminal.Padding.{Padding}
use Rattle.stapl_lexer.specs.declared.terminal.Padding.TheVariants as paddings
use Rattle.stapl_syntax.specs.Rules.{last_of}
use Rattle.tap_states.specs.Tap.{is_stable_state}
use Rattle.dev_card.specs.Scans.{BoardScan}
use Rattle.stapl_meaning.specs.declared.events.Event.{Event}
use Rattle.stapl_meaning.specs.Deeds.{Deed, Says, Goes, Stays, Scans, Chain, deed_chain, deeds_chain, deed_events, deeds_events, captured_on}
use Rattle.stapl_meaning.specs.States.{State, Turned, Leads, Over, Broken, Scanning, NoTurn, Happened, Led, Finished, Broke, Lacks, with_events, scanned_on, happens}
use Rattle.stapl_meaning.specs.Scans.{with_padding, scan_of}
use Rattle.stapl_meaning.specs.Scopes.{Played}
use Rattle.stapl_meaning.specs.Turns.{tap_of, turn}
use Rattle.stapl_meaning.specs.Plays.{beginning}
use Rattle.stapl_meaning.specs.Typed.{IsTyped}
use Rattle.stapl_meaning.proofs.Walks.{WalkRule, plain_rule, Fits, KeptTurned}
use Rattle.stapl_meaning.proofs.KeptTurns.{turn_kept, beginning_kept}
use Rattle.scan_accounts.specs.MadeTurns.{scans_at, happened_events}
use Rattle.scan_accounts.proofs.RowWalks.{AreStable, last_stable, RowRule, plain_rows, StatementRule}
use Rattle.scan_accounts.proofs.TurnWalks.{TurnOk, moves_at, turn_ok, beginning_ok}

-- whether the controllers stand in a stable state after deeds, by whether they did before them
abbrev pub stable_after : Bool → List Deed → Bool
stable_after b [] = b
stable_after b (Says event ∷ ds) = stable_after b ds
stable_after b (Goes to ∷ ds) = stable_after (is_stable_state to) ds
stable_after b (Stays n ∷ ds) = stable_after b ds
stable_after b (Scans job ∷ ds) = stable_after (is_stable_state job.stop) ds

-- deeds end in a stable state, and so does what is done, as far as no scan decides it
abbrev pub EndStable : List Deed → Type 0
EndStable ds = stable_after true ds ≡ true

-- deeds one after another

stable_both : (b : Bool) (xs ys : List Deed) → stable_after b (xs ++ ys) ≡ stable_after (stable_after b xs) ys
stable_both b [] ys = refl
stable_both b (Says event ∷ xs) ys = stable_both b xs ys
stable_both b (Goes to ∷ xs) ys = stable_both (is_stable_state to) xs ys
stable_both b (Stays n ∷ xs) ys = stable_both b xs ys
stable_both b (Scans scan ∷ xs) ys = stable_both (is_stable_state scan.stop) xs ys

pub both_end : (xs ys : List Deed) → EndStable xs → EndStable ys → EndStable (xs ++ ys)
both_end xs ys p q = stable_both true xs ys ∙ ap (λ b. stable_after b ys) p ∙ q

deeds_lead : (ds : List Deed) (k : Chain) → is_stable_state (deeds_chain k ds).tap ≡ stable_after (is_stable_state k.tap) ds
deeds_lead [] k = refl
deeds_lead (Says event ∷ ds) k = deeds_lead ds k
deeds_lead (Goes to ∷ ds) k = deeds_lead ds (deed_chain k (Goes to))
deeds_lead (Stays n ∷ ds) k = deeds_lead ds (deed_chain k (Stays n))
deeds_lead (Scans scan ∷ ds) k = deeds_lead ds (deed_chain k (Scans scan))

pub deeds_end : (ds : List Deed) (k : Chain) → EndStable ds → is_stable_state k.tap ≡ true → is_stable_state (deeds_chain k ds).tap ≡ true
deeds_end ds k h e = deeds_lead ds k ∙ ap (λ b. stable_after b ds) e ∙ h

-- the state in which deeds end

states_end : (b : Bool) (x : ℕ) (xs : List ℕ) → AreStable (last_of (x ∷ xs)) →
    stable_after b (map Goes (map tap_of (x ∷ xs))) ≡ true
states_end b x [] h = last_stable x h
states_end b x (y ∷ xs) h = states_end (is_stable_state (tap_of x)) y xs h

moves_end : (states : List ℕ) → AreStable (last_of states) → EndStable (map Goes (map tap_of states))
moves_end [] h = refl
moves_end (x ∷ xs) h = states_end true x xs h

-- the rule: something holds of each scan, and other deeds end in a stable state
abbrev pub ending : (BoardScan → Type 0) → RowRule
ending J = record plain_rows { DeedsOk = EndStable; JobOk = J; none_ok = refl; both_ok = both_end }

statements_end : (J : BoardScan → Type 0) (moves scans : Bool) → (scans ≡ true → (job : BoardScan) → J job) →
    StatementRule (ending J) moves scans
statements_end J moves scans all = record {
  says_ok = λ m n event ds e h. h;
  goes_ok = λ m n to ds e h. ap (λ b. stable_after b ds) e ∙ h;
  stays_ok = λ m n c ds h. h;
  moves_ok = λ m states last. moves_end states last;
  scans_ok = λ e register x bits h few. all e (scan_of register x bits);
}

-- each turn of a program ends in a stable state, if its last scan does
abbrev pub TurnEnds : (BoardScan → Type 0) → Turned → Type 0
TurnEnds J t = TurnOk (ending J) t

module _ (program : Played) (typed : IsTyped program) where
  -- only the turn of a statement that scans has a scan
  abbrev pub Scanned : ℕ → BoardScan → Type 0
  Scanned i job = scans_at program i ≡ true

  pub turn_ends : (i : ℕ) (s : State) → TurnEnds (Scanned i) (turn program i s)
  turn_ends i s =
      turn_ok program typed (ending (Scanned i)) i s
      (statements_end (Scanned i) (moves_at program i) (scans_at program i) (λ e job. e)) (tt, tt)

-- ---- the beginning of a play makes no deeds

abbrev pub NoDeeds : List Deed → Type 0
NoDeeds ds = ds ≡ []

abbrev pub NoScan : BoardScan → Type 0
NoScan job = ⊥

pub no_deeds_both : (xs ys : List Deed) → NoDeeds xs → NoDeeds ys → NoDeeds (xs ++ ys)
no_deeds_both xs ys p q = ap (λ t. t ++ ys) p ∙ q

abbrev pub making_none : RowRule
making_none = record plain_rows { DeedsOk = NoDeeds; JobOk = NoScan; none_ok = refl; both_ok = no_deeds_both }

abbrev pub TurnMakesNone : Turned → Type 0
TurnMakesNone t = TurnOk making_none t

pub beginning_makes_none : (program : Played) (s : State) → IsTyped program → TurnMakesNone (beginning program s)
beginning_makes_none program s typed = beginning_ok program typed making_none s (tt, tt)

-- the events of a turn without deeds, and the state to which it leads
pub no_events : (t : Turned) (k : Chain) → TurnMakesNone t → happened_events (happens k t) ≡ []
no_events (Leads ds place s) k h = ap (deeds_events k) h.0
no_events (Over ds ending s) k h = ap (deeds_events k) h
no_events (Broken ds f s) k h = ap (deeds_events k) h
no_events (Scanning ds job rest) k h = absurd h.1
no_events (NoTurn ds) k h = ap (deeds_events k) h

pub none_end : (J : BoardScan → Type 0) (t : Turned) → TurnMakesNone t → TurnEnds J t
none_end J (Leads ds place s) h = (ap (stable_after true) h.0, (tt, tt))
none_end J (Over ds ending s) h = ap (stable_after true) h
none_end J (Broken ds f s) h = ap (stable_after true) h
none_end J (Scanning ds job rest) h = absurd h.1
none_end J (NoTurn ds) h = ap (stable_after true) h

-- ---- scans end in a stable state, too

abbrev pub stopping : WalkRule
stopping = record plain_rule {
  IrOk = λ x. is_stable_state x.stop ≡ true;
  DrOk = λ x. is_stable_state x.stop ≡ true;
  JobOk = λ job. is_stable_state job.stop ≡ true;
  ir_stop_ok = λ x t e h. e;
  dr_stop_ok = λ x t e h. e;
  ir_job = λ x bits h. refl;
  dr_job = λ x bits h. refl;
  ir_job_ok = λ x bits h some. h;
  dr_job_ok = λ x bits h some. h;
}

-- the states in which scans end are stable
abbrev pub HasStableStops : State → Type 0
HasStableStops s = Fits stopping s

pub pads_stop : (which : Padding) (bits : List Bool) (s : State) → HasStableStops s → HasStableStops (with_padding which bits s)
pads_stop paddings.PreData bits s h = h
pads_stop paddings.PostData bits s h = h
pads_stop paddings.PreInstruction bits s h = h
pads_stop paddings.PostInstruction bits s h = h

-- something holds of the state and the chain to which what happened leads
abbrev pub LeadsTo : (State → Chain → Type 0) → Happened → Type 0
LeadsTo I (Led es place s l) = I s l
LeadsTo I _ = Unit {0}

-- where what happened leads, the controllers stand in a stable state
abbrev pub Stands : State → Chain → Type 0
Stands s l = (is_stable_state l.tap ≡ true) × HasStableStops s

abbrev pub StandsStable : Happened → Type 0
StandsStable h = LeadsTo Stands h

pub leads_after : (I : State → Chain → Type 0) (xs : List Event) (h : Happened) → LeadsTo I h →
    LeadsTo I (with_events xs h)
leads_after I xs (Led es place s l) h = h
leads_after I xs (Finished es ending s l) h = tt
leads_after I xs (Broke es f s l) h = tt
leads_after I xs (Lacks es) h = tt

pub leads_if : (I : State → Chain → Type 0) (b : Bool) (h : Happened) → LeadsTo I h → LeadsTo I (cond b h (Lacks []))
leads_if I true h p = p
leads_if I false h p = tt

stands : (J : BoardScan → Type 0) (t : Turned) (k : Chain) → TurnEnds J t → KeptTurned stopping t → is_stable_state k.tap ≡ true → StandsStable (happens k t)
stands J (Leads ds place s) k h kept e = (deeds_end ds k h.0 e, kept.1)
stands J (Over ds ending s) k h kept e = tt
stands J (Broken ds f s) k h kept e = tt
stands J (Scanning ds job rest) k h kept e =
    let l : Chain = deeds_chain k ds in
    let l1 : Chain = deed_chain l (Scans job) in
    let bits : List Bool = captured_on l job in
    leads_after Stands (deeds_events k ds) (scanned_on l job (λ bits c. happens c (rest bits)))
    (leads_if Stands (is_stable_state l.tap) (with_events (deed_events l (Scans job)) (happens l1 (rest bits)))
    (leads_after Stands (deed_events l (Scans job)) (happens l1 (rest bits))
    (stands J (rest bits) l1 (h.2 bits) (kept.2 bits) kept.1)))
stands J (NoTurn ds) k h kept e = tt

module _ (program : Played) (typed : IsTyped program) where
  pub turn_stands : (i : ℕ) (s : State) (k : Chain) → HasStableStops s → is_stable_state k.tap ≡ true → StandsStable (happens k (turn program i s))
  turn_stands i s k fits e =
      stands (Scanned program typed i) (turn program i s) k (turn_ends program typed i s) (turn_kept stopping pads_stop (λ p ps h. tt) program i s fits) e

  pub beginning_stands : (s : State) (k : Chain) → HasStableStops s → is_stable_state k.tap ≡ true → StandsStable (happens k (beginning program s))
  beginning_stands s k fits e =
      stands NoScan (beginning program s) k (none_end NoScan (beginning program s) (beginning_makes_none program s typed))
      (beginning_kept stopping pads_stop (λ p ps h. tt) program s fits) e
