-- A quiet play has the same account on a run of devices alone and at its place in a board.
use Rattle.std.proofs.Common.{◌≡◌, ◌<◌, ◌≤◌, ℕ, zero, suc, ◌+◌, Bool, true, false, cond, All, List, [], ◌∷◌, ◌++◌, length, map, replicate, Some, ◌-◌, refl, sym, ap, subst, ◌∙◌, append-nil, arith}
use Rattle.std.specs.Prelude.{flat_map}
use Rattle.std.proofs.lemmas.List.{map-append}
use Rattle.std.proofs.lemmas.Bool.{false≢true}
use Rattle.tap_states.specs.declared.Tap.{Tap}
use Rattle.tap_states.specs.declared.Tap.TheVariants.{Reset}
use Rattle.tap_states.specs.Tap.{next_of, is_stable_state}
use Rattle.tap_states.specs.Path.{walk, path_of, five_ones}
use Rattle.tap_states.proofs.Shortest.{is_path, path_leads}
use Rattle.dev_card.specs.declared.desc.Desc.{Desc}
use Rattle.dev_card.specs.Descriptions.{IsGood}
use Rattle.dev_card.specs.Card.{Card}
use Rattle.dev_card.specs.Board.{board_after, clocks_of}
use Rattle.dev_card.specs.Clocks.{with_zero, rest_tms, move_inputs, stay_inputs}
use Rattle.dev_card.specs.Padding.{BaseLengths, base_around, program_bits, Neighbours, in_run, before_run, after_run, base_lengths}
use Rattle.dev_card.proofs.RunsOfNeighbours.{around_run, run_counted}
use Rattle.dev_card.specs.FarEnds.{FarEnd, Told, far_clocks, far_after}
use Rattle.dev_card.specs.Scans.{BoardScan, inputs_of_scan}
use Rattle.stapl_meaning.specs.declared.events.Event.{Event}
use Rattle.stapl_meaning.specs.declared.events.Event.TheVariants.{Print, Export, Usec, Hertz}
use Rattle.stapl_meaning.specs.declared.events.Event.TheVariants as events
use Rattle.stapl_meaning.specs.Texts.{event_line, events_text}
use Rattle.stapl_meaning.specs.Deeds.{Deed, Says, Goes, Stays, Scans, Chain, based, pulses, deed_events, deed_chain, deeds_events, deeds_chain, captured_on}
use Rattle.stapl_meaning.specs.SaidEvents.{SayNoClock, TurnSaysNoClock}
use Rattle.stapl_meaning.specs.States.{State, Turned, Leads, Over, Broken, Scanning, NoTurn, Happened, Led, Finished, Broke, Lacks, with_events, scanned_on, happens}
use Rattle.stapl_meaning.specs.Scopes.{Played, zeros_of}
use Rattle.stapl_meaning.specs.Turns.{turn}
use Rattle.stapl_meaning.specs.Plays.{start, beginning, reset_events, reset_inputs, chain_reset}
use Rattle.stapl_meaning.specs.Typed.{IsTyped}
use Rattle.stapl_meaning.proofs.SaidEvents.{turn_says, beginning_says}
use Rattle.stapl_meaning.proofs.Walks.{KeptTurned}
use Rattle.stapl_meaning.proofs.KeptTurns.{turn_kept, beginning_kept}
use Rattle.padded_plays.specs.QuietClocks.{IsQuietWalk, IsQuietScan, loaded_after, loaded_by_scan}
use Rattle.padded_plays.specs.PaddedRuns.{IsPaddedRun, fresh_board}
use Rattle.padded_plays.specs.QuietPlays.{no_base, told_cards, AreQuietDeeds, loaded_by_deeds, deeds_of_run, IsQuietPlay}
use Rattle.padded_plays.specs.SamePlays.{without_clocks}
use Rattle.padded_plays.proofs.FirstRuns.{reset_is_padded}
use Rattle.padded_plays.proofs.QuietTurns.{IsQuietTurn, IsQuietRun, quiet_turn_of, quiet_run_of}
use Rattle.padded_plays.proofs.StableStays.{StayInStable, TurnStays, turn_stays, beginning_stays}
use Rattle.padded_plays.proofs.SameDeeds.{same_both, same_pulses, chain_alone, padded_chain, scans_are_same, AreSameDeeds, deeds_are_same}
use Rattle.scan_accounts.specs.ShiftRuns.{ShiftRun, shift_runs}
use Rattle.scan_accounts.specs.MadeTurns.{MadeTurn, MadePlay, scans_at, happened_events, turns_after, made_turns, begins, made_play, made_events, clocks_among, usec_among}
use Rattle.scan_accounts.specs.Accounts.{Passage, said_run, unpadded, passages_of, passages, scans_among, account_of}
use Rattle.scan_accounts.specs.AccountTexts.{CutText, passage_line, turn_lines}
use Rattle.scan_accounts.specs.SameAccounts.{IsSameAccount}
use Rattle.scan_accounts.proofs.MadeEvents.{turn_events}
use Rattle.scan_accounts.proofs.OtherLines.{text_is}
use Rattle.scan_accounts.proofs.JoinedRuns.{tms_of, shifts, runs_joined}
use Rattle.scan_accounts.proofs.WalkedTurns.{tms_both, clocks_both, tms_among, tms_of_pulses, tms_with_zero, scan_walks, deeds_walk, stays, clock_not_said}
use Rattle.scan_accounts.proofs.ScanRuns.{RunsNone, no_runs, quiet_has_none, quiet_rests}
use Rattle.scan_accounts.proofs.ScanPassages.{as_data, scan_run, one_run, shifted_alone, seen_as_data}
use Rattle.scan_accounts.proofs.StableTurns.{TurnEnds, deeds_end, stopping, pads_stop, HasStableStops, turn_ends, none_end, beginning_makes_none}
use Rattle.scan_accounts.proofs.PinRuns.{stable_rests}

-- ---- quiet deeds have no runs

none_both : (xs ys : List Bool) (at : Tap) → RunsNone at xs → RunsNone (walk at xs) ys → RunsNone at (xs ++ ys)
none_both [] ys at p q = q
none_both (x ∷ xs) ys at p q = (p.0, none_both xs ys (next_of at x) p.1 q)

quiet_ends : (ms : List Bool) (at : Tap) → shifts at ≡ false → IsQuietWalk at ms → shifts (walk at ms) ≡ false
quiet_ends [] at e q = e
quiet_ends (m ∷ ms) at e q = quiet_ends ms (next_of at m) (quiet_rests (next_of at m) q.0) q.1

-- a walk, and then others
walk_none : (far : FarEnd) (ms : List Bool) (es : List Event) (at to : Tap) → walk at ms ≡ to → shifts at ≡ false → IsQuietWalk at ms → RunsNone to (tms_among es)
    → RunsNone at (tms_among (pulses (far_clocks far (with_zero ms)) ++ es))
walk_none far ms es at to leads e q h =
    let own : tms_among (pulses (far_clocks far (with_zero ms))) ≡ ms = tms_of_pulses far (with_zero ms) ∙ tms_with_zero ms in
    subst (RunsNone at) (sym (tms_both (pulses (far_clocks far (with_zero ms))) es ∙ ap (λ t. t ++ tms_among es) own))
    (none_both ms (tms_among es) at (quiet_has_none ms at e q) (subst (λ t. RunsNone t (tms_among es)) (sym leads) h))

deeds_none : (ds : List Deed) (loaded b : Bool) (at : Tap) (base : BaseLengths) (far : FarEnd) (cards : List Card) → (b ≡ true → is_stable_state at ≡ true) → shifts at ≡ false
    → StayInStable b ds → SayNoClock ds → AreQuietDeeds loaded (chain_alone at cards) ds
    → RunsNone at (tms_among (deeds_events (record { tap = at; base = base; far = far }) ds))
deeds_none [] loaded b at base far cards st e w said q = tt
deeds_none (Says event ∷ ds) loaded b at base far cards st e w said q =
    let rest : List Event = deeds_events (record { tap = at; base = base; far = far }) ds in
    subst (RunsNone at) (sym (tms_both (event ∷ []) rest ∙ ap (λ ks. tms_of ks ++ tms_among rest) (clock_not_said event said.0)))
    (deeds_none ds loaded b at base far cards st e w said.1 q.1)
deeds_none (Goes to ∷ ds) loaded b at base far cards st e w said q =
    let leads : walk at (path_of at to) ≡ to = path_leads at to (path_of at to) (is_path at to) in
    let out : shifts to ≡ false = ap shifts (sym leads) ∙ quiet_ends (path_of at to) at e q.0 in
    walk_none far (path_of at to) (deeds_events (record { tap = to; base = base; far = far_after far (move_inputs at to) }) ds) at to leads e q.0
    (deeds_none ds (loaded_after at (path_of at to) loaded) (is_stable_state to) to base (far_after far (move_inputs at to)) (board_after cards (move_inputs at to)) (λ x. x) out w said q.1)
deeds_none (Stays n ∷ ds) loaded b at base far cards st e w said q =
    walk_none far (replicate n (rest_tms at)) (deeds_events (record { tap = at; base = base; far = far_after far (stay_inputs at n) }) ds) at at
    (stays at n (st w.0)) e q.0
    (deeds_none ds (loaded_after at (replicate n (rest_tms at)) loaded) b at base (far_after far (stay_inputs at n)) (board_after cards (stay_inputs at n)) st e w.1 said q.1)
deeds_none (Scans scan ∷ ds) loaded b at base far cards st e w said q = absurd w

-- ---- what is said of events from a state on, true if the statement scans

abbrev said : BaseLengths → Bool → Tap → List Event → List ShiftRun
said base f at es = map (said_run base f) (shift_runs at (clocks_among es))

said_both : (base : BaseLengths) (f : Bool) (at to : Tap) (xs ys : List Event) → walk at (tms_among xs) ≡ to → shifts to ≡ false
    → said base f at (xs ++ ys) ≡ said base f at xs ++ said base f to ys
said_both base f at to xs ys leads out =
    ap (λ ks. map (said_run base f) (shift_runs at ks)) (clocks_both xs ys)
    ∙ ap (map (said_run base f)) (runs_joined (clocks_among xs) (clocks_among ys) at (ap shifts leads ∙ out))
    ∙ ap (λ t. map (said_run base f) (shift_runs at (clocks_among xs) ++ shift_runs t (clocks_among ys))) leads
    ∙ map-append (said_run base f) (shift_runs at (clocks_among xs)) (shift_runs to (clocks_among ys))

-- ---- the same turns

module _ (base : BaseLengths) where
  pub record IsSameTurn (t u : MadeTurn) : Type 0 where
    pub passages : passages_of base t ≡ passages_of no_base u
    pub others : without_clocks t.events ≡ without_clocks u.events

  abbrev pub AreSameTurns : List MadeTurn → List MadeTurn → Type 0
  AreSameTurns [] [] = Unit {0}
  AreSameTurns (t ∷ ts) (u ∷ us) = IsSameTurn t u × AreSameTurns ts us
  AreSameTurns _ _ = ⊥

  module _ (f : Bool) (go : ℕ → State → Chain → List MadeTurn) where
    record Same (at : Tap) (x y : Happened) : Type 0 where
      said_so : said base f at (happened_events x) ≡ said no_base f at (happened_events y)
      others : without_clocks (happened_events x) ≡ without_clocks (happened_events y)
      later : AreSameTurns (turns_after x go) (turns_after y go)

    events_with : (xs : List Event) (x : Happened) → happened_events (with_events xs x) ≡ xs ++ happened_events x
    events_with xs (Led es place s k) = refl
    events_with xs (Finished es ending s k) = refl
    events_with xs (Broke es fault s k) = refl
    events_with xs (Lacks es) = refl

    later_with : (xs : List Event) (x : Happened) → turns_after (with_events xs x) go ≡ turns_after x go
    later_with xs (Led es place s k) = refl
    later_with xs (Finished es ending s k) = refl
    later_with xs (Broke es fault s k) = refl
    later_with xs (Lacks es) = refl

    same_with : (at to : Tap) (xs ys : List Event) (x y : Happened) → walk at (tms_among xs) ≡ to → walk at (tms_among ys) ≡ to → shifts to ≡ false
        → said base f at xs ≡ said no_base f at ys → without_clocks xs ≡ without_clocks ys → Same to x y → Same at (with_events xs x) (with_events ys y)
    same_with at to xs ys x y lx ly out e o h = record {
      said_so = ap (said base f at) (events_with xs x) ∙ said_both base f at to xs (happened_events x) lx out
          ∙ ap (λ t. t ++ said base f to (happened_events x)) e ∙ ap (λ t. said no_base f at ys ++ t) h.said_so
          ∙ sym (ap (said no_base f at) (events_with ys y) ∙ said_both no_base f at to ys (happened_events y) ly out);
      others = ap without_clocks (events_with xs x) ∙ same_both xs ys (happened_events x) (happened_events y) o h.others ∙ ap without_clocks (sym (events_with ys y));
      later = subst (λ l. AreSameTurns l (turns_after (with_events ys y) go)) (sym (later_with xs x))
          (subst (λ l. AreSameTurns (turns_after x go) l) (sym (later_with ys y)) h.later);
    }

    same_if : (b : Bool) (at : Tap) (x y : Happened) → (b ≡ true → Same at x y) → Same at (cond b x (Lacks [])) (cond b y (Lacks []))
    same_if true at x y h = h refl
    same_if false at x y h = record { said_so = refl; others = refl; later = tt }

-- ---- the accounts of such turns

lines_without : (es : List Event) → flat_map event_line es ≡ flat_map event_line (without_clocks es)
lines_without [] = refl
lines_without (events.Clock tms tdi tdo ∷ es) = lines_without es
lines_without (Print bytes ∷ es) = ap (λ t. event_line (Print bytes) ++ t) (lines_without es)
lines_without (Export key value ∷ es) = ap (λ t. event_line (Export key value) ++ t) (lines_without es)
lines_without (Usec n ∷ es) = ap (λ t. event_line (Usec n) ++ t) (lines_without es)
lines_without (Hertz n ∷ es) = ap (λ t. event_line (Hertz n) ++ t) (lines_without es)

usec_without : (es : List Event) → usec_among es ≡ usec_among (without_clocks es)
usec_without [] = refl
usec_without (events.Clock tms tdi tdo ∷ es) = usec_without es
usec_without (Print bytes ∷ es) = usec_without es
usec_without (Export key value ∷ es) = usec_without es
usec_without (Usec n ∷ es) = ap (λ t. n + t) (usec_without es)
usec_without (Hertz n ∷ es) = usec_without es

same_text : (es fs : List Event) → without_clocks es ≡ without_clocks fs → events_text false [] es ≡ events_text false [] fs
same_text es fs e = text_is es ∙ lines_without es ∙ ap (flat_map event_line) e ∙ sym (text_is fs ∙ lines_without fs)

module _ (base : BaseLengths) where
  same_lines : (cut : CutText) (ts us : List MadeTurn) → AreSameTurns base ts us → map (turn_lines cut base) ts ≡ map (turn_lines cut no_base) us
  same_lines cut [] [] h = refl
  same_lines cut [] (u ∷ us) h = absurd h
  same_lines cut (t ∷ ts) [] h = absurd h
  same_lines cut (t ∷ ts) (u ∷ us) h =
      ap (λ p. (flat_map (passage_line cut) p ++ events_text false [] t.events) ∷ map (turn_lines cut base) ts) h.0.passages
      ∙ ap (λ x. (flat_map (passage_line cut) (passages_of no_base u) ++ x) ∷ map (turn_lines cut base) ts) (same_text t.events u.events h.0.others)
      ∙ ap (λ l. turn_lines cut no_base u ∷ l) (same_lines cut ts us h.1)

  same_count : (ts us : List MadeTurn) → AreSameTurns base ts us → length ts ≡ length us
  same_count [] [] h = refl
  same_count [] (u ∷ us) h = absurd h
  same_count (t ∷ ts) [] h = absurd h
  same_count (t ∷ ts) (u ∷ us) h = ap suc (same_count ts us h.1)

  same_passages : (ts us : List MadeTurn) → AreSameTurns base ts us → flat_map (passages_of base) ts ≡ flat_map (passages_of no_base) us
  same_passages [] [] h = refl
  same_passages [] (u ∷ us) h = absurd h
  same_passages (t ∷ ts) [] h = absurd h
  same_passages (t ∷ ts) (u ∷ us) h =
      ap (λ p. p ++ flat_map (passages_of base) ts) h.0.passages ∙ ap (λ l. passages_of no_base u ++ l) (same_passages ts us h.1)

  same_others : (ts us : List MadeTurn) → AreSameTurns base ts us → without_clocks (turn_events ts) ≡ without_clocks (turn_events us)
  same_others [] [] h = refl
  same_others [] (u ∷ us) h = absurd h
  same_others (t ∷ ts) [] h = absurd h
  same_others (t ∷ ts) (u ∷ us) h = same_both t.events u.events (turn_events ts) (turn_events us) h.0.others (same_others ts us h.1)

account_of_same : (padded alone : MadePlay) → without_clocks padded.first ≡ without_clocks alone.first → alone.base ≡ no_base → AreSameTurns padded.base padded.turns alone.turns → IsSameAccount padded alone
account_of_same padded alone first none h =
    let ts : List MadeTurn = padded.turns in
    let us : List MadeTurn = alone.turns in
    let events_same : without_clocks (made_events padded) ≡ without_clocks (made_events alone) =
    same_both padded.first alone.first (turn_events ts) (turn_events us) first (same_others padded.base ts us h) in
    let usec : usec_among (made_events padded) ≡ usec_among (made_events alone) =
    usec_without (made_events padded) ∙ ap usec_among events_same ∙ sym (usec_without (made_events alone)) in
    let p : passages padded ≡ passages alone =
    same_passages padded.base ts us h ∙ ap (λ b. flat_map (passages_of b) us) (sym none) in
    record {
      first = same_text padded.first alone.first first;
      lines = λ cut. same_lines padded.base cut ts us h ∙ ap (λ b. map (turn_lines cut b) us) (sym none);
      sums = ap (λ m. record (account_of padded) { clocks = (account_of alone).clocks; turns = m }) (same_count padded.base ts us h)
          ∙ ap (λ m. record (account_of padded) { clocks = (account_of alone).clocks; turns = length us; usec = m }) usec
          ∙ ap (λ said. record (account_of alone) { ir_scans = scans_among true said; dr_scans = scans_among false said }) p;
    }

-- ---- turns on both chains

module _ (before run_devices after_run : List Desc) (some : 0 < length run_devices) where
  abbrev base : BaseLengths
  base = base_around before after_run

  abbrev on_board : Tap → List Card → Chain
  on_board at board = padded_chain before run_devices after_run at board

  abbrev Padded : Bool → Tap → List Card → List Card → Type 0
  Padded loaded at board alone = IsPaddedRun before run_devices after_run loaded at board alone

  -- a quiet scan
  scan_same : (loaded : Bool) (at : Tap) (board alone : List Card) (scan : BoardScan) → is_stable_state at ≡ true → is_stable_state scan.stop ≡ true → 0 < length scan.bits
      → IsQuietScan loaded at alone scan → Padded loaded at board alone
      → said base true at (deed_events (on_board at board) (Scans scan)) ≡ said no_base true at (deed_events (chain_alone at alone) (Scans scan))
  scan_same loaded at board alone scan stable stops bits q h =
      let K : Chain = on_board at board in
      let L : Chain = chain_alone at alone in
      let own : List Bool = program_bits scan.paddings scan.bits in
      let whole : length (own ++ []) ≡ length own = ap (λ b. length b) (append-nil own) in
      let quiet : IsQuietScan loaded at alone (as_data scan) =
      record { as_long = whole ∙ q.as_long; loaded_before = q.loaded_before; quiet_stop = q.quiet_stop } in
      let same : captured_on K (as_data scan) ≡ captured_on L (as_data scan) =
      (scans_are_same before run_devices after_run loaded at board alone (as_data scan) some stable quiet h).same_captured in
      let a : ShiftRun = unpadded base (scan_run K scan stable stops bits) in
      let b : ShiftRun = unpadded no_base (scan_run L scan stable stops bits) in
      let in_same : a.bits_in ≡ b.bits_in = shifted_alone K scan stable stops bits ∙ sym (shifted_alone L scan stable stops bits) in
      let out_same : a.bits_out ≡ b.bits_out = seen_as_data K scan stable stops bits ∙ same ∙ sym (seen_as_data L scan stable stops bits) in
      ap (map (said_run base true)) (one_run K scan stable stops bits)
      ∙ ap (λ x. record { ir = scan.ir; bits_in = x; bits_out = a.bits_out } ∷ []) in_same
      ∙ ap (λ x. record { ir = scan.ir; bits_in = b.bits_in; bits_out = x } ∷ []) out_same
      ∙ ap (map (said_run no_base true)) (sym (one_run L scan stable stops bits))

  module _ (f : Bool) (go : ℕ → State → Chain → List MadeTurn) (next : Bool → ℕ → State → Chain → Type 0)
      (follows : (loaded : Bool) (place : ℕ) (s : State) (at : Tap) (board alone : List Card) → Padded loaded at board alone → next loaded place s (chain_alone at alone)
      → is_stable_state at ≡ true → HasStableStops s → AreSameTurns base (go place s (on_board at board)) (go place s (chain_alone at alone))) where
    abbrev SameTurn : Tap → Happened → Happened → Type 0
    SameTurn at x y = Same base f go at x y

    -- deeds before whatever follows them
    record AreSaidAlike (loaded : Bool) (at : Tap) (board alone : List Card) (ds : List Deed) : Type 0 where
      same : AreSameDeeds before run_devices after_run loaded at board alone ds
      on_board_leads : walk at (tms_among (deeds_events (on_board at board) ds)) ≡ same.tap_then
      alone_leads : walk at (tms_among (deeds_events (chain_alone at alone) ds)) ≡ same.tap_then
      stable : is_stable_state same.tap_then ≡ true
      said_so : said base f at (deeds_events (on_board at board) ds) ≡ said no_base f at (deeds_events (chain_alone at alone) ds)

    said_alike : (loaded : Bool) (at : Tap) (board alone : List Card) (ds : List Deed) → is_stable_state at ≡ true → StayInStable false ds → SayNoClock ds
        → is_stable_state (deeds_chain (chain_alone at alone) ds).tap ≡ true → AreQuietDeeds loaded (chain_alone at alone) ds → Padded loaded at board alone
        → AreSaidAlike loaded at board alone ds
    said_alike loaded at board alone ds stable w said_none ends q h =
        let never : false ≡ true → is_stable_state at ≡ true = λ e. absurd (false≢true e) in
        let K : Chain = on_board at board in
        let L : Chain = chain_alone at alone in
        let d = deeds_are_same before run_devices after_run ds false loaded at board alone never w q h in
        let rests : shifts at ≡ false = stable_rests at stable in
        record {
          same = d;
          on_board_leads = deeds_walk ds false K never w said_none ∙ ap (λ (k : Chain). k.tap) d.board_is;
          alone_leads = deeds_walk ds false L never w said_none ∙ ap (λ (k : Chain). k.tap) d.alone_is;
          stable = ap (λ (k : Chain). is_stable_state k.tap) (sym d.alone_is) ∙ ends;
          said_so = ap (map (said_run base f)) (no_runs (clocks_among (deeds_events K ds)) at
              (deeds_none ds loaded false at base (Told board) alone never rests w said_none q))
              ∙ ap (map (said_run no_base f)) (sym (no_runs (clocks_among (deeds_events L ds)) at
              (deeds_none ds loaded false at no_base (Told alone) alone never rests w said_none q)));
        }

    same_turn : (t : Turned) (loaded : Bool) (at : Tap) (board alone : List Card) → is_stable_state at ≡ true → TurnStays t → TurnSaysNoClock t → TurnEnds (λ job. f ≡ true) t
        → KeptTurned stopping t → Padded loaded at board alone → IsQuietTurn next loaded (chain_alone at alone) t
        → SameTurn at (happens (on_board at board) t) (happens (chain_alone at alone) t)
    same_turn (Leads ds place s) loaded at board alone stable w n e kept h q =
        let L : Chain = chain_alone at alone in
        let a = said_alike loaded at board alone ds stable w n (deeds_end ds L e.0 stable) q.0 h in
        let d = a.same in
        let m : Bool = loaded_by_deeds loaded L ds in
        let after_it : next m place s (chain_alone d.tap_then d.alone_then) = subst (λ l. next m place s l) d.alone_is q.1 in
        record {
          said_so = a.said_so;
          others = d.same_events;
          later = subst (λ k. AreSameTurns base (go place s k) (go place s (deeds_chain L ds))) (sym d.board_is)
              (subst (λ l. AreSameTurns base (go place s (on_board d.tap_then d.board_then)) (go place s l)) (sym d.alone_is)
              (follows m place s d.tap_then d.board_then d.alone_then d.kept after_it a.stable kept.1));
        }
    same_turn (Over ds ending s) loaded at board alone stable w n e kept h q =
        let a = said_alike loaded at board alone ds stable w n (deeds_end ds (chain_alone at alone) e stable) q h in
        record { said_so = a.said_so; others = a.same.same_events; later = tt }
    same_turn (Broken ds fault s) loaded at board alone stable w n e kept h q =
        let a = said_alike loaded at board alone ds stable w n (deeds_end ds (chain_alone at alone) e stable) q h in
        record { said_so = a.said_so; others = a.same.same_events; later = tt }
    same_turn (Scanning ds scan rest) loaded at board alone stable w n e kept h q =
        let K : Chain = on_board at board in
        let L : Chain = chain_alone at alone in
        let a = said_alike loaded at board alone ds stable w.0 n.0 (deeds_end ds L e.0 stable) q.0 h in
        let d = a.same in
        let m : Bool = loaded_by_deeds loaded L ds in
        let t1 : Tap = d.tap_then in
        let K1 : Chain = on_board t1 d.board_then in
        let L1 : Chain = chain_alone t1 d.alone_then in
        let q1 = (subst (λ l. is_stable_state l.tap ≡ true → IsQuietScan m l.tap (told_cards l.far) scan
        × IsQuietTurn next (loaded_by_scan m scan) (deed_chain l (Scans scan)) (rest (captured_on l scan))) d.alone_is q.1) a.stable in
        let then : List Bool → Chain → Happened = λ bits l. happens l (rest bits) in
        let s = scans_are_same before run_devices after_run m t1 d.board_then d.alone_then scan some a.stable q1.0 d.kept in
        let K2 : Chain = on_board scan.stop s.board_then in
        let L2 : Chain = chain_alone scan.stop s.alone_then in
        let bits : List Bool = captured_on L1 scan in
        let q2 : IsQuietTurn next (loaded_by_scan m scan) L2 (rest bits) = subst (λ l. IsQuietTurn next (loaded_by_scan m scan) l (rest bits)) s.alone_is q1.1 in
        let r : SameTurn scan.stop (then bits K2) (then bits L2) =
        same_turn (rest bits) (loaded_by_scan m scan) scan.stop s.board_then s.alone_then kept.1 (w.2 bits) (n.1 bits) (e.2 bits) (kept.2 bits) s.kept q2 in
        let r1 : SameTurn scan.stop (then (captured_on K1 scan) (deed_chain K1 (Scans scan))) (then bits (deed_chain L1 (Scans scan))) =
        subst (λ l. SameTurn scan.stop (then (captured_on K1 scan) (deed_chain K1 (Scans scan))) (then bits l)) (sym s.alone_is)
        (subst (λ k. SameTurn scan.stop (then (captured_on K1 scan) k) (then bits L2)) (sym s.board_is)
        (subst (λ c. SameTurn scan.stop (then c K2) (then bits L2)) (sym s.same_captured) r)) in
        let said_scan : said base f t1 (deed_events K1 (Scans scan)) ≡ said no_base f t1 (deed_events L1 (Scans scan)) =
        subst (λ g. said base g t1 (deed_events K1 (Scans scan)) ≡ said no_base g t1 (deed_events L1 (Scans scan))) (sym e.1)
        (scan_same m t1 d.board_then d.alone_then scan a.stable kept.1 w.1 q1.0 d.kept) in
        let scanned : SameTurn t1 (with_events (deed_events K1 (Scans scan)) (then (captured_on K1 scan) (deed_chain K1 (Scans scan))))
        (with_events (deed_events L1 (Scans scan)) (then bits (deed_chain L1 (Scans scan)))) =
        same_with base f go t1 scan.stop (deed_events K1 (Scans scan)) (deed_events L1 (Scans scan)) (then (captured_on K1 scan) (deed_chain K1 (Scans scan)))
        (then bits (deed_chain L1 (Scans scan))) (scan_walks K1 scan a.stable w.1) (scan_walks L1 scan a.stable w.1) (stable_rests scan.stop kept.1) said_scan
        (same_pulses (clocks_of d.board_then (inputs_of_scan t1 (based base scan))) (clocks_of d.alone_then (inputs_of_scan t1 (based no_base scan)))) r1 in
        let all : SameTurn t1 (scanned_on K1 scan then) (scanned_on L1 scan then) =
        same_if base f go (is_stable_state t1) t1 _ _ (λ st. scanned) in
        same_with base f go at t1 (deeds_events K ds) (deeds_events L ds) (scanned_on (deeds_chain K ds) scan then) (scanned_on (deeds_chain L ds) scan then)
        a.on_board_leads a.alone_leads (stable_rests t1 a.stable) a.said_so d.same_events
        (subst (λ k. SameTurn t1 (scanned_on k scan then) (scanned_on (deeds_chain L ds) scan then)) (sym d.board_is)
        (subst (λ l. SameTurn t1 (scanned_on K1 scan then) (scanned_on l scan then)) (sym d.alone_is) all))
    same_turn (NoTurn ds) loaded at board alone stable w n e kept h q =
        let a = said_alike loaded at board alone ds stable w n (deeds_end ds (chain_alone at alone) e stable) q h in
        record { said_so = a.said_so; others = a.same.same_events; later = tt }

  -- ---- runs and plays

  abbrev said_as : ℕ → Bool → List ShiftRun → List Passage
  said_as place f runs = map (λ run. record { place = place; scan = f; run = run }) runs

  passages_are : (base_lengths : BaseLengths) (place : ℕ) (f : Bool) (runs : List ShiftRun) →
      map (λ run. record { place = place; scan = f; run = said_run base_lengths f run }) runs ≡ said_as place f (map (said_run base_lengths f) runs)
  passages_are base_lengths place f [] = refl
  passages_are base_lengths place f (run ∷ runs) =
      ap (λ x. record { place = place; scan = f; run = said_run base_lengths f run } ∷ x) (passages_are base_lengths place f runs)

  module _ (program : Played) (typed : IsTyped program) where
    same_runs : (n : ℕ) (loaded : Bool) (i : ℕ) (s : State) (at : Tap) (board alone : List Card) → Padded loaded at board alone
        → IsQuietRun program n loaded i s (chain_alone at alone) → is_stable_state at ≡ true → HasStableStops s
        → AreSameTurns base (made_turns program n i s (on_board at board)) (made_turns program n i s (chain_alone at alone))
    same_runs zero loaded i s at board alone h q stable stops = tt
    same_runs (suc n) loaded i s at board alone h q stable stops =
        let f : Bool = scans_at program i in
        let t : Turned = turn program i s in
        let r = same_turn f (made_turns program n) (IsQuietRun program n) (λ l place u to b a p w st k. same_runs n l place u to b a p w st k) t loaded at board alone stable
        (turn_stays program i s) (turn_says program i s) (turn_ends program typed i s) (turn_kept stopping pads_stop (λ p ps x. tt) program i s stops) h q in (
          record {
            passages = passages_are base i f (shift_runs at (clocks_among (happened_events (happens (on_board at board) t))))
                ∙ ap (said_as i f) r.said_so
                ∙ sym (passages_are no_base i f (shift_runs at (clocks_among (happened_events (happens (chain_alone at alone) t)))));
            others = r.others;
          },
          r.later,
        )

    module _ (chosen : List ℕ) (n : ℕ) (good : All IsGood (before ++ (run_devices ++ after_run))) (q : IsQuietPlay program chosen n run_devices) where
      abbrev board_cards : List Card
      board_cards = fresh_board (before ++ (run_devices ++ after_run))

      abbrev alone_cards : List Card
      alone_cards = fresh_board run_devices

      abbrev pub on_whole : MadePlay
      on_whole = made_play program chosen n base (Told board_cards)

      abbrev pub on_run : MadePlay
      on_run = made_play program chosen n no_base (Told alone_cards)

      same_beginning : Same base false (made_turns program n) Reset (begins program chosen (chain_reset base (Told board_cards)))
          (begins program chosen (chain_reset no_base (Told alone_cards)))
      same_beginning =
          let board : List Card = board_after board_cards (with_zero five_ones) in
          let alone : List Card = board_after alone_cards (with_zero five_ones) in
          let s : State = start chosen (zeros_of program) in
          let t : Turned = beginning program s in
          let h : Padded false Reset board alone = reset_is_padded before run_devices after_run good in
          let quiet : IsQuietTurn (IsQuietRun program n) false (chain_alone Reset alone) t =
          quiet_turn_of (IsQuietRun program n) (deeds_of_run program n) (quiet_run_of program n) t false (chain_alone Reset alone) q in
          same_turn false (made_turns program n) (IsQuietRun program n) (λ l place u to b a p w st k. same_runs n l place u to b a p w st k) t false Reset board alone refl
          (beginning_stays program s) (beginning_says program s) (none_end (λ job. false ≡ true) t (beginning_makes_none program s typed))
          (beginning_kept stopping pads_stop (λ p ps x. tt) program s (refl, refl, tt)) h quiet

      same_first : without_clocks on_whole.first ≡ without_clocks on_run.first
      same_first =
          same_both (reset_events (Told board_cards)) (reset_events (Told alone_cards)) (happened_events (begins program chosen (chain_reset base (Told board_cards))))
          (happened_events (begins program chosen (chain_reset no_base (Told alone_cards))))
          (same_pulses (clocks_of board_cards reset_inputs) (clocks_of alone_cards reset_inputs)) same_beginning.others

      pub same_account : IsSameAccount on_whole on_run
      same_account = account_of_same on_whole on_run same_first refl same_beginning.later

-- the same of a run of a board, by its places
module _ (program : Played) (typed : IsTyped program) (chosen : List ℕ) (n : ℕ) (devices : List Desc) (run : Neighbours) (good : All IsGood devices) (one : 1 ≤ run.first)
    (order : run.first ≤ run.last) (within : run.last ≤ length devices) (quiet : IsQuietPlay program chosen n (in_run run devices)) where
  pub same_account_of_run : IsSameAccount (made_play program chosen n (base_lengths devices (Some run)) (Told (fresh_board devices)))
      (made_play program chosen n no_base (Told (fresh_board (in_run run devices))))
  same_account_of_run =
      let count : length (in_run run devices) ≡ suc run.last - run.first = run_counted run devices one order within in
      let whole = around_run run devices one order in
      subst (λ ds. IsSameAccount (made_play program chosen n (base_lengths devices (Some run)) (Told (fresh_board ds)))
      (made_play program chosen n no_base (Told (fresh_board (in_run run devices))))) (sym whole)
      (same_account (before_run run devices) (in_run run devices) (after_run run devices) (omega (arith, count, order)) program typed chosen n
      (subst (λ ds. All IsGood ds) whole good) quiet)
