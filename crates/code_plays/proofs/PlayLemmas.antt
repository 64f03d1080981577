-- On plays of a code.
use Rattle.std.proofs.Common.{◌≡◌, ◌≢◌, ◌≤◌, ◌-◌, ◌&&◌, nat_le, true, Bool, ℕ, zero, suc, List, [], ◌∷◌, ◌++◌, length, take, drop, map, refl, sym, ap, ap₂, ◌∙◌, subst, arith, ◌<◌, ◌⊎◌, inl, inr, Option, None, Some}
use Rattle.std.specs.Prelude.{IsSomeAnd, IsErr, IsErrAnd, Result, Ok, Err, OnOk}
use Rattle.std.specs.Option.{option_map}
use Rattle.std.proofs.lemmas.Bool.{and_parts}
use Rattle.std.proofs.lemmas.Bool.Decides.{nat_tests}
use Rattle.std.proofs.lemmas.List.{take-map, drop-map}
use Rattle.std.proofs.lemmas.Option.{same_Some}
use Rattle.tool_io.specs.declared.lines.Lines.{Lines}
use Rattle.tool_io.specs.declared.outside.Sink.{Ghosts as SinkOf}
use Rattle.tool_io.specs.Lines.{Puts, PutsFront, PutsBroken}
use Rattle.tool_io.proofs.PutLemmas.{put_then, put_then_front, front_with, front_more}
use Rattle.tool_frame.specs.declared.no_answer.NoAnswer.{NoAnswer}
use Rattle.tool_frame.specs.declared.no_answer.NoAnswer.TheVariants.{Write}
use Rattle.tool_frame.specs.Answers.{Said, SaidFront, Says}
use Rattle.tool_frame.proofs.AnswerLemmas.{IsWithin}
use Rattle.stapl_meaning.specs.declared.events.Event.{Event}
use Rattle.stapl_meaning.specs.declared.events.Ending.{Ending}
use Rattle.stapl_meaning.specs.declared.events.Ending.TheVariants.{Spent}
use Rattle.stapl_meaning.specs.declared.events.Ending.TheVariants as endings
use Rattle.stapl_meaning.specs.Choices.{Choice}
use Rattle.stapl_meaning.specs.Plays.{Outcome, Ended, Going, Stopped, Run, ending_of}
use Rattle.stapl_meaning.specs.Texts.{ending_line, events_text, far_report, asked_report}
use Rattle.dev_card.specs.declared.desc.Desc.{Desc}
use Rattle.dev_card.specs.declared.desc.Kind.{Kind}
use Rattle.dev_card.specs.Card.{Card, fresh}
use Rattle.dev_card.specs.Board.{Clock, board_after}
use Rattle.dev_card.specs.FarEnds.{FarEnd, Told, far_end}
use Rattle.dev_card.specs.PaddedScan.{descriptions_of}
use Rattle.dev_card.specs.Sound.{SoundCard}
use Rattle.dev_card.proofs.OneScan.{descriptions_after}
use Rattle.scan_paths.specs.Cables.{input_of, cable_faults, IsCableLast}
use Rattle.chain_sim.specs.Places.{card_at, joined, cards_at}
use Rattle.chain_sim.specs.Reports.{report_in}
use Rattle.chain_sim.specs.Runs.{HasRun}
use Rattle.chain_sim.proofs.Fitting.{fresh_described}
use Rattle.written_cable.specs.declared.trouble.Trouble.{Trouble}
use Rattle.written_cable.specs.declared.trouble.Trouble.TheVariants.{CableFault, WriteFault}
use Rattle.written_cable.specs.Ports.{IfFault}
use Rattle.play_words.specs.declared.status.Status.{Status}
use Rattle.play_words.specs.Statuses.{IsOfPlay, ComesBeforeFitting}
use Rattle.command_words.specs.declared.place_run.PlaceRun.{PlaceRun}
use Rattle.play_words.specs.declared.requests.PlayRequest.{PlayRequest}
use Rattle.code_plays.specs.Plays.{done_with, has_place, reported_far, asked_text, Plays, played}
use Rattle.code_plays.specs.CodePlays.{PlaysRun, NeverRises, HasEnding, line_of, run_lines, Ends, IsPlayOf}
use Rattle.code_plays.specs.Racks.{far_at, AreLeft, KeepsRack}

-- A run that does not stop comes to an ending.
pub has_ending : (run : Run) → run.outcome ≢ Stopped → HasEnding run
has_ending run goes = of_outcome run.outcome refl
  where
    of_outcome : (outcome : Outcome) → run.outcome ≡ outcome → HasEnding run
    of_outcome (Ended ending) e = record { ending = ending; comes = ap ending_of e }
    of_outcome (Going place) e = record { ending = Spent; comes = ap ending_of e }
    of_outcome Stopped e = absurd (goes e)

-- With a choice, the text of a run is that of the play.
plays_so : {choice : Choice} {placed : Bool} {plays : List ℕ → Run} (request : PlayRequest) (run : Run) (ending : Ending) → IsPlayOf choice placed plays run →
    ending_of run.outcome ≡ Some ending → Plays choice placed plays request (asked_text request run.events run.chain.far ending) (done_with ending)
plays_so {choice = choice} {placed = placed} {plays = plays} request run ending p e =
    subst (λ (events : List Event). Plays choice placed plays request (asked_text request events run.chain.far ending) (done_with ending)) (sym p.same_events)
    (subst (λ (far : FarEnd). Plays choice placed plays request (asked_text request (plays p.procedures).events far ending) (done_with ending)) (sym p.same_far)
    (played p.procedures ending p.are_chosen p.is_placed (sym p.same_ending ∙ e)))

-- With a choice, what a run comes to is what is written of the play.
pub ends_played : {choice : Choice} {placed : Bool} {plays : List ℕ → Run} (request : PlayRequest) (run : Run) → IsPlayOf choice placed plays run →
    IsWithin (Ends request run) (Plays choice placed plays request)
ends_played request run p = record { to = λ text status e. rw (e.text_is, e.status_is) (plays_so request run e.ending p e.comes) }

-- The lines of a run.

lines_are : (request : PlayRequest) (run : Run) (ending : Ending) → ending_of run.outcome ≡ Some ending →
    run_lines request run ≡ asked_text request run.events run.chain.far ending
lines_are request run ending e =
    ap (λ (o : Option Ending). events_text request.pins [] run.events ++ asked_report request.report (reported_far request.place run.chain.far) ++ line_of o) e

-- at the exit of a `?`
pub run_failed : {K E : Type 0} {sink : SinkOf K} {text : List ℕ} {a b : Lines K} (run : Run) (Left : Type 0) (r : Result Ending E) → IsErr r → PutsFront sink a text b →
    PlaysRun sink run text Left a b r
run_failed run Left (Ok x) is front = absurd cc
run_failed run Left (Err e) is front = front

-- the same play, and what it leaves in other words
pub left_as : {K E P Q : Type 0} (sink : SinkOf K) (run : Run) (text : List ℕ) (a b : Lines K) (r : Result Ending E) → (P → Q) → PlaysRun sink run text P a b r →
    PlaysRun sink run text Q a b r
left_as sink run text a b (Ok x) f p = record { put = p.put; ended = p.ended; left = f p.left }
left_as sink run text a b (Err e) f p = p

-- those of the events failed, or the report, or the line of the ending; or all were put
pub events_failed : {K : Type 0} {sink : SinkOf K} {a b : Lines K} (request : PlayRequest) (run : Run) →
    PutsFront sink a (events_text request.pins [] run.events) b → PutsFront sink a (run_lines request run) b
events_failed request run front = front_more (line_of (ending_of run.outcome)) (front_more (asked_report request.report (reported_far request.place run.chain.far)) front)

pub report_failed : {K : Type 0} {sink : SinkOf K} {a b c : Lines K} (request : PlayRequest) (run : Run) → Puts sink a (events_text request.pins [] run.events) b →
    PutsBroken sink b (asked_report request.report (reported_far request.place run.chain.far)) c → PutsFront sink a (run_lines request run) c
report_failed request run puts front = (front_with (line_of (ending_of run.outcome)) (put_then_front puts front)).put

pub ending_failed : {K : Type 0} {sink : SinkOf K} {a b c d : Lines K} (request : PlayRequest) (run : Run) (ending : Ending) → ending_of run.outcome ≡ Some ending →
    Puts sink a (events_text request.pins [] run.events) b → Puts sink b (asked_report request.report (reported_far request.place run.chain.far)) c →
    PutsBroken sink c (ending_line ending) d → PutsFront sink a (run_lines request run) d
ending_failed {sink = sink} {c = c} {d = d} request run ending e puts reported front =
    (put_then_front (put_then puts reported) (subst (λ (o : Option Ending). PutsBroken sink c (line_of o) d) (sym e) front)).put

pub run_put : {K : Type 0} {sink : SinkOf K} {a b c d : Lines K} (request : PlayRequest) (run : Run) (ending : Ending) → ending_of run.outcome ≡ Some ending →
    Puts sink a (events_text request.pins [] run.events) b → Puts sink b (asked_report request.report (reported_far request.place run.chain.far)) c →
    Puts sink c (ending_line ending) d → Puts sink a (run_lines request run) d
run_put {sink = sink} {c = c} {d = d} request run ending e puts reported ended =
    put_then (put_then puts reported) (subst (λ (o : Option Ending). Puts sink c (line_of o) d) (sym e) ended)

-- What was put of a run is its text.

pub run_said : {K : Type 0} {sink : SinkOf K} {a b : Lines K} (request : PlayRequest) (run : Run) (ending : Ending) (status : Status) →
    ending_of run.outcome ≡ Some ending → status ≡ done_with ending → Puts sink a (run_lines request run) b → Said sink (Ends request run) a b status
run_said {sink = sink} {a = a} {b = b} request run ending status e is puts = record {
  text = asked_text request run.events run.chain.far ending;
  answer = record { ending = ending; comes = e; text_is = refl; status_is = is };
  puts = subst (λ (text : List ℕ). Puts sink a text b) (lines_are request run ending e) puts;
}

pub run_said_front : {K : Type 0} {sink : SinkOf K} {a b : Lines K} (request : PlayRequest) (run : Run) → HasEnding run →
    PutsFront sink a (run_lines request run) b → SaidFront sink (Ends request run) a b
run_said_front {sink = sink} {a = a} {b = b} request run h front = record {
  text = asked_text request run.events run.chain.far h.ending;
  status = done_with h.ending;
  answer = record { ending = h.ending; comes = h.comes; text_is = refl; status_is = refl };
  puts = subst (λ (text : List ℕ). PutsFront sink a text b) (lines_are request run h.ending h.comes) front;
}

-- What a call leaves of the rack.

not_early : (ending : Ending) → ComesBeforeFitting (done_with ending) → ⊥
not_early (endings.Exit code) p = p
not_early (endings.Fault k piece) p = p
not_early endings.Spent p = p

-- a play was played
pub rack_played : {D Kind K : Type 0} {kind_of : D → Kind} {fitted : D → Option SoundCard} {final : List (Option SoundCard) → Type 0} {before after : List D} {L : Type 0}
    (sink : SinkOf K) (request : PlayRequest) (run : Run) (old new : Lines K) (r : Result Status NoAnswer) → Says sink (Ends request run) ⊥ old new r →
    map kind_of after ≡ map kind_of before → OnOk r L → (L → final (map fitted after)) → KeepsRack kind_of fitted (Unit {0}) final before after r
rack_played sink request run old new (Ok status) says kinds left f = record {
  kinds = kinds;
  early = λ p. absurd (not_early says.answer.ending (subst ComesBeforeFitting says.answer.status_is p));
  leaves = λ e p. f left;
  other = λ never. absurd (never tt);
}
rack_played sink request run old new (Err e) says kinds left f = record { kinds = kinds; early = tt; leaves = λ e. tt; other = λ never. absurd (never tt) }

-- nothing was played
pub rack_failed : {D Kind P : Type 0} {kind_of : D → Kind} {fitted : D → Option SoundCard} {final : List (Option SoundCard) → Type 0} {items : List D}
    (r : Result Status NoAnswer) → IsErrAnd r (λ e. e ≡ Write) → KeepsRack kind_of fitted P final items items r
rack_failed (Ok status) is = absurd is
rack_failed (Err e) is = record { kinds = refl; early = tt; leaves = λ e. tt; other = λ e. refl }

pub rack_refused : {D Kind P : Type 0} {kind_of : D → Kind} {fitted : D → Option SoundCard} {final : List (Option SoundCard) → Type 0} {items : List D}
    (status : Status) → (IsOfPlay status → ⊥) → KeepsRack kind_of fitted P final items items (Ok status)
rack_refused status never = record { kinds = refl; early = λ p. refl; leaves = λ e p. absurd (never p); other = λ e. refl }

pub rack_unread : {D Kind P : Type 0} {kind_of : D → Kind} {fitted : D → Option SoundCard} {final : List (Option SoundCard) → Type 0} {items : List D}
    (e : NoAnswer) → KeepsRack kind_of fitted P final items items (Err e)
rack_unread e = record { kinds = refl; early = tt; leaves = λ e. tt; other = λ e. refl }

-- the rack is left as a play leaves it, by another name
pub rack_as : {D Kind P Q : Type 0} {kind_of : D → Kind} {fitted : D → Option SoundCard} {A B : List (Option SoundCard) → Type 0} {before after : List D}
    (r : Result Status NoAnswer) → (P → Q) → (Q → P) → ((rack : List (Option SoundCard)) → A rack → B rack) → KeepsRack kind_of fitted P A before after r →
    KeepsRack kind_of fitted Q B before after r
rack_as {fitted = fitted} {after = after} (Ok status) to back f k = record {
  kinds = k.kinds;
  early = k.early;
  leaves = λ q p. f (map fitted after) (k.leaves (back q) p);
  other = λ never. k.other (λ p. never (to p));
}
rack_as (Err e) to back f k = record { kinds = k.kinds; early = tt; leaves = λ q. tt; other = λ never. k.other (λ p. never (to p)) }

-- What the devices are after a play: the board at its far end.

-- the chain stood over a rack where the board was fitted, at the same places
pub are_left : {X : Type 0} {fitted : X → Option SoundCard} {kind_of : X → Kind} (old new : List X) (places new_places : List ℕ) (clocks : List Clock) (devices : List Desc)
    (far : FarEnd) → cards_at (map fitted old) places ≡ Some (map fresh devices) → HasRun fitted kind_of old new places new_places clocks →
    far ≡ far_end (cards_at (map fitted new) new_places) [] → AreLeft (map fitted new) places devices far
are_left {fitted = fitted} old new places new_places clocks devices far before r e =
    let there = r.cards ∙ ap (option_map (λ (cs : List Card). board_after cs (map input_of clocks))) before in
    record {
      cards = board_after (map fresh devices) (map input_of clocks);
      there = there;
      told = e ∙ ap (λ (ps : List ℕ). far_end (cards_at (map fitted new) ps) []) r.same_places ∙ ap (λ (o : Option (List Card)). far_end o []) there;
      described = descriptions_after (map input_of clocks) (map fresh devices) ∙ fresh_described devices;
    }

-- they are a board of these descriptions, and the report of the board is that of the far end
pub left_described : {rack : List (Option SoundCard)} {places : List ℕ} {devices : List Desc} {far : FarEnd} → AreLeft rack places devices far →
    IsSomeAnd (cards_at rack places) (λ cs. descriptions_of cs ≡ devices)
left_described {devices = devices} l = subst (λ (o : Option (List Card)). IsSomeAnd o (λ cs. descriptions_of cs ≡ devices)) (sym l.there) l.described

pub left_far : {rack : List (Option SoundCard)} {places : List ℕ} {devices : List Desc} {far : FarEnd} → AreLeft rack places devices far → far_at rack places ≡ far
left_far l = ap (λ (o : Option (List Card)). far_end o []) l.there ∙ sym l.told

-- The report of a run is that of the cards there.

cards_taken : (rack : List (Option SoundCard)) (places : List ℕ) (cards : List Card) (n : ℕ) → cards_at rack places ≡ Some cards →
    cards_at rack (take n places) ≡ Some (take n cards)
cards_taken rack places cards zero e = refl
cards_taken rack [] cards (suc n) e = let same = same_Some [] cards e in ap (λ (l : List Card). Some (take (suc n) l)) same
cards_taken rack (p ∷ ps) cards (suc n) e = by (λ cs b. cards_taken rack ps cs n b) (card_at rack p) (cards_at rack ps) refl refl e
  where
    by : ((cs : List Card) → cards_at rack ps ≡ Some cs → cards_at rack (take n ps) ≡ Some (take n cs)) →
        (o : Option Card) (rest : Option (List Card)) → card_at rack p ≡ o → cards_at rack ps ≡ rest → joined o rest ≡ Some cards →
        cards_at rack (take (suc n) (p ∷ ps)) ≡ Some (take (suc n) cards)
    by more None rest a b e = absurd cc
    by more (Some c) None a b e = absurd cc
    by more (Some c) (Some cs) a b e =
        ap₂ joined a (more cs b) ∙ ap (λ (l : List Card). Some (take (suc n) l)) (same_Some (c ∷ cs) cards e)

cards_dropped : (rack : List (Option SoundCard)) (places : List ℕ) (cards : List Card) (i : ℕ) → cards_at rack places ≡ Some cards →
    cards_at rack (drop i places) ≡ Some (drop i cards)
cards_dropped rack places cards zero e = e
cards_dropped rack [] cards (suc i) e = let same = same_Some [] cards e in ap (λ (l : List Card). Some (drop (suc i) l)) same
cards_dropped rack (p ∷ ps) cards (suc i) e = by (λ cs b. cards_dropped rack ps cs i b) (card_at rack p) (cards_at rack ps) refl refl e
  where
    by : ((cs : List Card) → cards_at rack ps ≡ Some cs → cards_at rack (drop i ps) ≡ Some (drop i cs)) →
        (o : Option Card) (rest : Option (List Card)) → card_at rack p ≡ o → cards_at rack ps ≡ rest → joined o rest ≡ Some cards →
        cards_at rack (drop (suc i) (p ∷ ps)) ≡ Some (drop (suc i) cards)
    by more None rest a b e = absurd cc
    by more (Some c) None a b e = absurd cc
    by more (Some c) (Some cs) a b e = more cs b ∙ ap (λ (l : List Card). Some (drop (suc i) l)) (same_Some (c ∷ cs) cards e)

-- so many places from one on
cards_from : (rack : List (Option SoundCard)) (places : List ℕ) (cards : List Card) (i n : ℕ) → cards_at rack places ≡ Some cards →
    cards_at rack (take n (drop i places)) ≡ Some (take n (drop i cards))
cards_from rack places cards i n e = cards_taken rack (drop i places) (drop i cards) n (cards_dropped rack places cards i e)

described_from : (cards : List Card) (i n : ℕ) → descriptions_of (take n (drop i cards)) ≡ take n (drop i (descriptions_of cards))
described_from cards i n =
    sym (take-map (λ (c : Card). c.desc) n (drop i cards)) ∙ ap (take n) (sym (drop-map (λ (c : Card). c.desc) i cards))

pub run_described : (rack : List (Option SoundCard)) (places : List ℕ) (devices : List Desc) (i n : ℕ) →
    IsSomeAnd (cards_at rack places) (λ cs. descriptions_of cs ≡ devices) →
    IsSomeAnd (cards_at rack (take n (drop i places))) (λ cs. descriptions_of cs ≡ take n (drop i devices))
run_described rack places devices i n described = by (cards_at rack places) refl described
  where
    by : (o : Option (List Card)) → cards_at rack places ≡ o → IsSomeAnd o (λ cs. descriptions_of cs ≡ devices) →
        IsSomeAnd (cards_at rack (take n (drop i places))) (λ cs. descriptions_of cs ≡ take n (drop i devices))
    by None is h = absurd h
    by (Some cs) is h =
        subst (λ (o : Option (List Card)). IsSomeAnd o (λ ks. descriptions_of ks ≡ take n (drop i devices))) (sym (cards_from rack places cs i n is))
        (described_from cs i n ∙ ap (λ (ds : List Desc). take n (drop i ds)) h)

pub run_begins : (place : Option PlaceRun) (run : PlaceRun) (devices : List Desc) → has_place place devices ≡ true → place ≡ Some run → 1 ≤ run.first
run_begins place run devices h e =
    let p = subst (λ (o : Option PlaceRun). has_place o devices ≡ true) e h in
    let ends = and_parts (nat_le 1 run.first && nat_le run.first run.last) (nat_le run.last (length devices)) p in
    let least = (and_parts (nat_le 1 run.first) (nat_le run.first run.last) ends.0).0 in
    grind (arith, nat_tests, least)

pub run_reported : (rack : List (Option SoundCard)) (places : List ℕ) (devices : List Desc) (run : PlaceRun) (n : ℕ) → n ≡ suc run.last - run.first →
    IsSomeAnd (cards_at rack places) (λ cs. descriptions_of cs ≡ devices) →
    report_in (cards_at rack (take n (drop (run.first - 1) places))) ≡ far_report (reported_far (Some run) (far_at rack places))
run_reported rack places devices run n e described = by (cards_at rack places) refl described
  where
    by : (o : Option (List Card)) → cards_at rack places ≡ o → IsSomeAnd o (λ cs. descriptions_of cs ≡ devices) →
        report_in (cards_at rack (take n (drop (run.first - 1) places))) ≡ far_report (reported_far (Some run) (far_at rack places))
    by None is h = absurd h
    by (Some cs) is h =
        ap (λ (k : ℕ). report_in (cards_at rack (take k (drop (run.first - 1) places)))) e
        ∙ ap report_in (cards_from rack places cs (run.first - 1) (suc run.last - run.first) is)
        ∙ sym (ap (λ (o : Option (List Card)). far_report (reported_far (Some run) (far_end o []))) is)

-- each place has its device
described_count : (cards : List Card) → length (descriptions_of cards) ≡ length cards
described_count [] = refl
described_count (c ∷ cs) = ap suc (described_count cs)

cards_count : (rack : List (Option SoundCard)) (places : List ℕ) (cards : List Card) → cards_at rack places ≡ Some cards → length places ≡ length cards
cards_count rack [] cards e = ap length (same_Some [] cards e)
cards_count rack (p ∷ ps) cards e = by (λ cs b. cards_count rack ps cs b) (card_at rack p) (cards_at rack ps) refl e
  where
    by : ((cs : List Card) → cards_at rack ps ≡ Some cs → length ps ≡ length cs) → (o : Option Card) (rest : Option (List Card)) →
        cards_at rack ps ≡ rest → joined o rest ≡ Some cards → length (p ∷ ps) ≡ length cards
    by more None rest b e = absurd cc
    by more (Some c) None b e = absurd cc
    by more (Some c) (Some cs) b e = ap suc (more cs b) ∙ ap length (same_Some (c ∷ cs) cards e)

pub left_count : {rack : List (Option SoundCard)} {places : List ℕ} {devices : List Desc} {far : FarEnd} → AreLeft rack places devices far → length places ≡ length devices
left_count {rack = rack} {places = places} l = cards_count rack places l.cards l.there ∙ sym (described_count l.cards) ∙ ap length l.described

-- A cable that tells its board, and never fails.

-- what stands at its far end
pub on_board : {board : Option (List Card)} {cards : List Card} → board ≡ Some cards → (heard : List Bool) → far_end board heard ≡ Told cards
on_board e heard = ap (λ (o : Option (List Card)). far_end o heard) e

-- a count that stays 0, and has no last value, never rises
pub zero_never : (C : Type 0) → NeverRises {C = C} (cable_faults (λ (c : C). 0) (λ (c : C). 0)) (IsCableLast (λ (c : C). ⊥) (λ (c : C). ⊥))
zero_never C before after r = by r.risen
  where
    by : (0 < 0) ⊎ (⊥ ⊎ ⊥) → ⊥
    by (inl h) = omega arith
    by (inr (inl h)) = h
    by (inr (inr h)) = h

pub no_cable_fault : (cable lines : Type 0) (trouble : Trouble) → (cable → ⊥) → IfFault trouble cable lines → trouble ≢ CableFault
no_cable_fault cable lines CableFault never h e = never h
no_cable_fault cable lines WriteFault never h e = cc

pub write_cause : (cable lines : Type 0) (trouble : Trouble) → trouble ≡ WriteFault → IfFault trouble cable lines → lines
write_cause cable lines CableFault e h = absurd cc
write_cause cable lines WriteFault e h = h
