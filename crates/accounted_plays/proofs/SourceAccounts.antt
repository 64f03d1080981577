-- The account of a play of a code is that of the play of its program.
use Rattle.std.proofs.Common.{◌≡◌, ◌≤◌, ◌+◌, ◌⊎◌, inl, inr, ℕ, zero, suc, true, false, List, [], ◌∷◌, ◌++◌, map, length, Some, refl, sym, ap, ap₂, subst, ◌∙◌, arith, append_assoc}
use Rattle.std.specs.Prelude.{flat_map}
use Rattle.std.proofs.lemmas.Grind.{flat_map-append}
use Rattle.std.proofs.lemmas.List.{append-nil}
use Rattle.tap_states.specs.declared.Tap.TheVariants.{Reset}
use Rattle.tool_io.specs.declared.lines.Lines.{Lines}
use Rattle.tool_io.specs.declared.outside.Sink.{Ghosts as SinkOf}
use Rattle.tool_io.specs.Lines.{PutsFront}
use Rattle.tool_io.proofs.PutLemmas.{front_more}
use Rattle.tool_frame.specs.Answers.{Said, SaidFront}
use Rattle.tool_frame.proofs.AnswerLemmas.{IsWithin, said_within, front_within}
use Rattle.dev_card.specs.declared.desc.Desc.{Desc}
use Rattle.dev_card.specs.Card.{fresh}
use Rattle.dev_card.specs.Board.{Clock}
use Rattle.dev_card.specs.FarEnds.{FarEnd, Told, far_clocks}
use Rattle.dev_card.specs.Padding.{BaseLengths}
use Rattle.stapl_syntax.specs.Trees.{StmtTree}
use Rattle.stapl_meaning.specs.declared.events.Event.{Event}
use Rattle.stapl_meaning.specs.declared.events.Ending.{Ending}
use Rattle.stapl_meaning.specs.Deeds.{Chain, pulses}
use Rattle.stapl_meaning.specs.States.{State, Happened, Led, Finished, Broke, Lacks, happens}
use Rattle.stapl_meaning.specs.Scopes.{Played, as_played, zeros_of}
use Rattle.stapl_meaning.specs.Turns.{turn}
use Rattle.stapl_meaning.specs.Typed.{IsTyped}
use Rattle.stapl_meaning.specs.Plays.{Outcome, Ended, Going, Stopped, Run, goes_on, run, start, beginning, procedures_run, play, reset_inputs, reset_events, chain_reset, ending_of}
use Rattle.stapl_meaning.specs.Texts.{events_text, ending_line}
use Rattle.stapl_code.specs.declared.raw.CodeLists.{CodeLists}
use Rattle.stapl_codegen.specs.Emit.{start_of}
use Rattle.stapl_codegen.specs.Correct.{placed_outcome, placed_run}
use Rattle.stapl_codegen.specs.Generated.{IsCodeOf}
use Rattle.written_cable.proofs.ResetLemmas.{keeps_text}
use Rattle.quiet_runs.proofs.FirstZeros.{same_zeros}
use Rattle.scan_accounts.specs.ShiftRuns.{shift_runs}
use Rattle.scan_accounts.specs.MadeTurns.{MadeTurn, MadePlay, happened_events, turns_after, made_turns, begins, made_play, made_events, clocks_among, usec_among}
use Rattle.scan_accounts.specs.Accounts.{Account, account_of}
use Rattle.scan_accounts.specs.AccountTexts.{CutText, turn_lines, account_line, account_text}
use Rattle.scan_accounts.specs.Rooms.{FitIn}
use Rattle.scan_accounts.proofs.MadeEvents.{play_events}
use Rattle.scan_accounts.proofs.StableTurns.{beginning_makes_none, no_events}
use Rattle.account_lines.specs.declared.lines.TurnPlace.{TurnPlace}
use Rattle.run_cable.specs.KeptRuns.{Kept}
use Rattle.account_plays.specs.AccountedTurns.{HasRoomFor}
use Rattle.play_words.specs.declared.requests.PlayRequest.{PlayRequest}
use Rattle.code_plays.specs.Plays.{base_at}
use Rattle.accounted_plays.specs.Accounted.{IsAccounted}
use Rattle.accounted_plays.specs.CodeAccounts.{first_chain, plays_at, turns_put, account_in_turns, AreAllTurns, PutsTurnsFront, IsCodeAccount, TellsProgram}

-- What comes before the turns.

-- a run of no turn has the events of the beginning
begun_events : (program : Played) (h : Happened) (s : State) (k : Chain) → (goes_on h s k (run program 0)).events ≡ happened_events h
begun_events program (Led events place u l) s k = append-nil events
begun_events program (Finished events ending u l) s k = refl
begun_events program (Broke events f u l) s k = refl
begun_events program (Lacks events) s k = refl

-- the clocks and the microseconds after the first clocks
clocks_after : (ks : List Clock) (es : List Event) → length (clocks_among (pulses ks ++ es)) ≡ length ks + length (clocks_among es)
clocks_after [] es = omega arith
clocks_after (k ∷ ks) es = omega (arith, clocks_after ks es)

usec_after : (ks : List Clock) (es : List Event) → usec_among (pulses ks ++ es) ≡ usec_among es
usec_after [] es = refl
usec_after (k ∷ ks) es = usec_after ks es

ending_placed : (place : ℕ → ℕ) (o : Outcome) → ending_of (placed_outcome place o) ≡ ending_of o
ending_placed place (Ended ending) = refl
ending_placed place (Going i) = refl
ending_placed place Stopped = refl

-- The turns of a play for fewer turns are the first ones.

abbrev Begins : List MadeTurn → List MadeTurn → Type 0
Begins xs ys = (rest : List MadeTurn) × (ys ≡ xs ++ rest)

turns_begin : (h : Happened) (few many : ℕ → State → Chain → List MadeTurn) → ((i : ℕ) (s : State) (k : Chain) → Begins (few i s k) (many i s k)) →
    Begins (turns_after h few) (turns_after h many)
turns_begin (Led events place u l) few many all = all place u l
turns_begin (Finished events ending u l) few many all = ([], refl)
turns_begin (Broke events f u l) few many all = ([], refl)
turns_begin (Lacks events) few many all = ([], refl)

one_more : (t : MadeTurn) (xs ys : List MadeTurn) → Begins xs ys → Begins (t ∷ xs) (t ∷ ys)
one_more t xs ys b = (b.0, ap (λ (zs : List MadeTurn). t ∷ zs) b.1)

fewer_turns : (program : Played) (n m : ℕ) → n ≤ m → (i : ℕ) (s : State) (k : Chain) → Begins (made_turns program n i s k) (made_turns program m i s k)
fewer_turns program zero m le i s k = (made_turns program m i s k, refl)
fewer_turns program (suc n) zero le i s k = absurd (omega (arith, le))
fewer_turns program (suc n) (suc m) le i s k =
    one_more _ _ _ (turns_begin (happens k (turn program i s)) (made_turns program n) (made_turns program m)
    (λ j u l. fewer_turns program n m (omega (arith, le)) j u l))

fewer_made : (program : Played) (chosen : List ℕ) (n m : ℕ) (base : BaseLengths) (far : FarEnd) → n ≤ m →
    Begins (made_play program chosen n base far).turns (made_play program chosen m base far).turns
fewer_made program chosen n m base far le =
    turns_begin (made_play_begun program chosen base far) (made_turns program n) (made_turns program m) (λ i s k. fewer_turns program n m le i s k)
  where
    made_play_begun : Played → List ℕ → BaseLengths → FarEnd → Happened
    made_play_begun program chosen base far = begins program chosen (chain_reset base far)

module _ (program : List StmtTree) (code : CodeLists) (chosen : List ℕ) (base : BaseLengths) (devices : List Desc) (is : IsCodeOf (as_played program) code) where
  abbrev played : Played
  played = as_played program

  abbrev far : FarEnd
  far = Told (map fresh devices)

  abbrev made : ℕ → MadePlay
  made n = made_play played chosen n base far

  same_run : (n : ℕ) → plays_at code chosen base devices n ≡ placed_run (start_of played) (procedures_run played chosen n (first_chain base devices))
  same_run n = rw (same_zeros played code is) (is.stands chosen n (first_chain base devices))

  first_events : (plays_at code chosen base devices 0).events ≡ happened_events (begins played chosen (first_chain base devices))
  first_events =
      ap (λ (r : Run). r.events) (same_run 0)
      ∙ begun_events played (begins played chosen (first_chain base devices)) (start chosen (zeros_of played)) (first_chain base devices)

  -- they need no room
  pub first_fits : (runs : Kept) → IsTyped played → HasRoomFor runs Reset (plays_at code chosen base devices 0).events
  first_fits runs typed =
      let none : (plays_at code chosen base devices 0).events ≡ [] =
      first_events ∙ no_events (beginning played (start chosen (zeros_of played))) (first_chain base devices) (beginning_makes_none played (start chosen (zeros_of played)) typed) in
      subst (λ (es : List Event). FitIn runs.room.bits runs.room.runs (shift_runs Reset (clocks_among es))) (sym none)
      (record { together = omega arith; few = omega arith })

  -- their text has no word of the first clocks
  first_text : (n : ℕ) → events_text false [] (plays_at code chosen base devices 0).events ≡ events_text false [] (made n).first
  first_text n = ap (events_text false []) first_events ∙ keeps_text false far (happened_events (begins played chosen (first_chain base devices)))

  all_events : (n : ℕ) → made_events (made n) ≡ reset_events far ++ (plays_at code chosen base devices n).events
  all_events n =
      play_events played chosen n base far ∙ ap (λ (r : Run). reset_events far ++ r.events) (sym (same_run n))

  same_ending : (n : ℕ) → ending_of (plays_at code chosen base devices n).outcome ≡ ending_of (play played chosen n base far).outcome
  same_ending n =
      ap (λ (r : Run). ending_of r.outcome) (same_run n)
      ∙ ending_placed (start_of played) (procedures_run played chosen n (first_chain base devices)).outcome

module _ (bytes : List ℕ) (program : List StmtTree) (code : CodeLists) (table : List TurnPlace) (chosen : List ℕ) (base : BaseLengths) (devices : List Desc)
    (t : TellsProgram bytes program code table chosen base devices) where
  abbrev cut_text : CutText
  cut_text = record { text = bytes; pieces = t.pieces }

  abbrev made_for_turns : ℕ → MadePlay
  made_for_turns n = made program code chosen base devices t.of_program n

  account_same : (n : ℕ) (turns : List MadeTurn) → AreAllTurns code table chosen base devices n turns →
      account_in_turns code table chosen base devices n turns ≡ account_of (made_for_turns n)
  account_same n turns all =
      let events = all_events program code chosen base devices t.of_program n in
      let first = far_clocks (Told (map fresh devices)) reset_inputs in
      let own = (plays_at code chosen base devices n).events in
      let count = ap length (t.turns_are n turns all) in
      let clocks : 5 + length (clocks_among own) ≡ length (clocks_among (made_events (made_for_turns n))) =
      sym (ap (λ (es : List Event). length (clocks_among es)) events ∙ clocks_after first own) in
      let usec : usec_among own ≡ usec_among (made_events (made_for_turns n)) = sym (ap usec_among events ∙ usec_after first own) in
      let ir = t.scans_are n turns true all in let dr = t.scans_are n turns false all in
      λ j. record { turns = count j; clocks = clocks j; usec = usec j; ir_scans = ir j; dr_scans = dr j }

  -- the text of first turns
  put_same : (n m : ℕ) (turns : List MadeTurn) → AreAllTurns code table chosen base devices n turns →
      turns_put code table chosen base devices turns ≡ events_text false [] (made_for_turns m).first ++ flat_map (turn_lines cut_text base) (made_for_turns n).turns
  put_same n m turns all =
      ap₂ (λ (x y : List ℕ). x ++ y) (first_text program code chosen base devices t.of_program m) (t.texts_are n turns all)

  text_same : (n : ℕ) (turns : List MadeTurn) (ending : Ending) → AreAllTurns code table chosen base devices n turns →
      turns_put code table chosen base devices turns ++ account_line (account_in_turns code table chosen base devices n turns) ++ ending_line ending
      ≡ account_text cut_text (made_for_turns n) ending
  text_same n turns ending all =
      ap₂ (λ (x : List ℕ) (a : Account). x ++ account_line a ++ ending_line ending) (put_same n n turns all) (account_same n turns all)

  module _ (request : PlayRequest) (at : base ≡ base_at devices request.place) where
    said : (text : List ℕ) (ending : Ending) → ending_of (plays_at code chosen base devices request.turns).outcome ≡ Some ending →
        text ≡ account_text cut_text (made_for_turns request.turns) ending → IsAccounted bytes (as_played program) request devices chosen text ending
    said text ending ended says = record {
      pieces = t.pieces;
      cut = t.cut;
      ended = subst (λ (b : BaseLengths). ending_of (play (as_played program) chosen request.turns b (Told (map fresh devices))).outcome ≡ Some ending) at
          (sym (same_ending program code chosen base devices t.of_program request.turns) ∙ ended);
      says = subst (λ (b : BaseLengths). text ≡ account_text cut_text (made_play (as_played program) chosen request.turns b (Told (map fresh devices))) ending) at says;
    }

    pub account_within : IsWithin (IsCodeAccount code table chosen base devices request.turns) (IsAccounted bytes (as_played program) request devices chosen)
    account_within = record {
      to = λ text ending a. said text ending a.ended (a.says ∙ text_same request.turns a.turns ending a.all);
    }

    -- a front of first turns is one of the whole text
    pub turns_front : {K : Type 0} (sink : SinkOf K) (a b : Lines K) → PutsTurnsFront code table chosen base devices sink request.turns a b →
        SaidFront sink (IsAccounted bytes (as_played program) request devices chosen) a b
    turns_front sink a b p =
        let n = length p.turns in let most = request.turns in
        let all : AreAllTurns code table chosen base devices n p.turns = record { first = record { are = p.first.are; few = omega arith }; whole = inl refl } in
        let more = fewer_made (as_played program) chosen n most base (Told (map fresh devices)) p.first.few in
        let lines = flat_map (turn_lines cut_text base) in
        let first = events_text false [] (made_for_turns most).first in
        let ends = t.come_to_ends most in
        let parts : (first ++ lines (made_for_turns n).turns) ++ lines more.0 ≡ first ++ lines (made_for_turns most).turns =
        append_assoc first (lines (made_for_turns n).turns) (lines more.0)
        ∙ ap (λ (x : List ℕ). first ++ x) (sym (flat_map-append (turn_lines cut_text base) (made_for_turns n).turns more.0) ∙ ap lines (sym more.1)) in
        record {
          text = account_text cut_text (made_for_turns most) ends.ending;
          status = ends.ending;
          answer = said _ ends.ending ends.comes refl;
          puts = front_more (ending_line ends.ending) (front_more (account_line (account_of (made_for_turns most)))
              (subst (λ (x : List ℕ). PutsFront sink a x b) parts
              (front_more (lines more.0) (subst (λ (x : List ℕ). PutsFront sink a x b) (put_same n most p.turns all) p.put))));
        }

    pub code_said : {K : Type 0} (sink : SinkOf K) (a b : Lines K) (ending : Ending) → Said sink (IsCodeAccount code table chosen base devices request.turns) a b ending →
        Said sink (IsAccounted bytes (as_played program) request devices chosen) a b ending
    code_said sink a b ending p = said_within account_within p

    pub code_front : {K : Type 0} (sink : SinkOf K) (a b : Lines K) →
        SaidFront sink (IsCodeAccount code table chosen base devices request.turns) a b ⊎ PutsTurnsFront code table chosen base devices sink request.turns a b →
        SaidFront sink (IsAccounted bytes (as_played program) request devices chosen) a b
    code_front sink a b (inl p) = front_within account_within p
    code_front sink a b (inr p) = turns_front sink a b p

-- the same of an equal code and an equal table
pub tells_same : (bytes : List ℕ) (program : List StmtTree) (a b : CodeLists) (s t : List TurnPlace) (chosen : List ℕ) (base : BaseLengths) (devices : List Desc) →
    b ≡ a → t ≡ s → TellsProgram bytes program a s chosen base devices → TellsProgram bytes program b t chosen base devices
tells_same bytes program a b s t chosen base devices e f tells =
    subst (λ (c : CodeLists). TellsProgram bytes program c t chosen base devices) (sym e)
    (subst (λ (x : List TurnPlace). TellsProgram bytes program a x chosen base devices) (sym f) tells)
