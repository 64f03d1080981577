-- Whole runs: the code does what the program does.
use Rattle.std.proofs.Common.{◌≡◌, ◌≢◌, ℕ, zero, suc, ◌+◌, ◌-◌, ◌≤◌, Bool, true, false, cond, List, [], ◌∷◌, length, drop, Some, None, refl, sym, ap, subst, ◌∙◌, add-one, arith, length-append}
use Rattle.std.specs.Prelude.{slice_get}
use Rattle.std.proofs.lemmas.List.{drop_all}
use Rattle.stapl_syntax.specs.Trees.{BodyTree, end_procedure, boolean, boolean_array, integer, integer_array, assign, assign_element, assign_array, assign_range, call, goto, if_then, for_loop, next, push, pop, print, export, exit, scan, stop, pad, state_list, wait_cycles, wait_usec, frequency, StmtTree}
use Rattle.stapl_syntax.specs.Statements.{is_outer}
use Rattle.stapl_meaning.specs.declared.events.Event.{Event}
use Rattle.stapl_meaning.specs.Deeds.{Chain, deeds_events, deeds_chain}
use Rattle.stapl_meaning.specs.States.{State, Turned, Leads, Over, Broken, Scanning, NoTurn, turn_of_piece, Happened, Led, Finished, Broke, Lacks, happens, with_events, scanned_on, happened_in_piece}
use Rattle.stapl_meaning.specs.Scopes.{Played, Scope, scope_at, zeros_of}
use Rattle.stapl_meaning.specs.Turns.{done, turn, turn_of}
use Rattle.stapl_meaning.specs.Plays.{after, goes_on, run, start, beginning}
use Rattle.stapl_code.specs.declared.instr.Instr.{Instr}
use Rattle.stapl_code.specs.declared.instr.Instr.TheVariants.{Turn}
use Rattle.stapl_code.specs.Machine.{Constants, nowhere, stretch, begins, code_turn, code_run}
use Rattle.stapl_code.proofs.Preceded.{scan_alike, scan_through, happens_in_piece}
use Rattle.stapl_codegen.specs.Emit.{body_code, firsts_at, constants_in, texts_of, literals_of, pieces_code, program_code, start_of, program_entries}
use Rattle.stapl_codegen.specs.Correct.{StandsInProcedure, IsClosed, placed_state, placed_run, AllStart, Stands}
use Rattle.stapl_code.proofs.Heads.{head_of, get_head, drop_tail}
use Rattle.stapl_codegen.proofs.Lists.{body_before, code_split}
use Rattle.stapl_codegen.proofs.Texts.{preset_known, constants_at}
use Rattle.stapl_codegen.proofs.Bodies.{IsAtRest, body_follows}
use Rattle.stapl_codegen.proofs.Placed.{placed, piece_placed}
use Rattle.stapl_codegen.proofs.Prologue.{begins_alike}
use Rattle.stapl_codegen.proofs.Pieces.{start_is, start_none, start_head, code_from, entry_is}

closed_drop : (n : ℕ) (sts : List StmtTree) → IsClosed sts → IsClosed (drop n sts)
closed_drop zero sts c = c
closed_drop (suc n) [] c = c
closed_drop (suc n) (st ∷ rest) c = closed_drop n rest c.1

outer_stays : (scope : Scope) (s : State) (b : BodyTree) → is_outer b ≡ true → done scope s b ≡ NoTurn []
outer_stays scope s end_procedure e = absurd cc
outer_stays scope s (boolean name start) e = absurd cc
outer_stays scope s (boolean_array name size bits) e = absurd cc
outer_stays scope s (integer name start) e = absurd cc
outer_stays scope s (integer_array name size zs) e = absurd cc
outer_stays scope s (assign name x) e = absurd cc
outer_stays scope s (assign_element name index x) e = absurd cc
outer_stays scope s (assign_array name a) e = absurd cc
outer_stays scope s (assign_range name high low a) e = absurd cc
outer_stays scope s (call name) e = absurd cc
outer_stays scope s (goto name) e = absurd cc
outer_stays scope s (if_then x b) e = absurd cc
outer_stays scope s (for_loop name from to step) e = absurd cc
outer_stays scope s (next name) e = absurd cc
outer_stays scope s (push x) e = absurd cc
outer_stays scope s (pop cell) e = absurd cc
outer_stays scope s (print list) e = absurd cc
outer_stays scope s (export key x) e = absurd cc
outer_stays scope s (exit x) e = absurd cc
outer_stays scope s (scan register count source target compare) e = absurd cc
outer_stays scope s (stop register state) e = absurd cc
outer_stays scope s (pad which count bits) e = absurd cc
outer_stays scope s (state_list states) e = absurd cc
outer_stays scope s (wait_cycles state cycles usec end) e = absurd cc
outer_stays scope s (wait_usec state usec end) e = absurd cc
outer_stays scope s (frequency hertz) e = absurd cc
outer_stays scope s _ e = refl

-- what happened, with places of the code in it
abbrev placed_happened : (ℕ → ℕ) → Happened → Happened
placed_happened place (Led events i s k) = Led events (place i) (placed_state place s) k
placed_happened place (Finished events ending s k) = Finished events ending (placed_state place s) k
placed_happened place (Broke events f s k) = Broke events f (placed_state place s) k
placed_happened place (Lacks events) = Lacks events

placed_with : (place : ℕ → ℕ) (events : List Event) (h : Happened) → placed_happened place (with_events events h) ≡ with_events events (placed_happened place h)
placed_with place events (Led more i s k) = refl
placed_with place events (Finished more ending s k) = refl
placed_with place events (Broke more f s k) = refl
placed_with place events (Lacks more) = refl

happens_placed : (place : ℕ → ℕ) (k : Chain) (t : Turned) → happens k (placed place t) ≡ placed_happened place (happens k t)
happens_placed place k (Leads deeds i s) = refl
happens_placed place k (Over deeds ending s) = refl
happens_placed place k (Broken deeds f s) = refl
happens_placed place k (Scanning deeds job rest) =
    let l : Chain = deeds_chain k deeds in
    let own : List Bool → Chain → Happened = λ bits m. happens m (rest bits) in
    ap (with_events (deeds_events k deeds))
    (scan_alike l job (λ bits m. happens m (placed place (rest bits))) (λ bits m. placed_happened place (own bits m)) (λ bits m. happens_placed place m (rest bits))
    ∙ sym (scan_through (placed_happened place) (placed_with place) refl l job own))
    ∙ sym (placed_with place (deeds_events k deeds) (scanned_on l job own))
happens_placed place k (NoTurn deeds) = refl

-- the code of pieces begins with the turn of one of them
pub record BeginsWithTurn (program : Played) (code : List Instr) : Type 0 where
  pub first : ℕ
  pub piece : ℕ
  pub rest : List Instr
  pub is : code ≡ Turn piece ∷ rest
  pub starts : start_of program first ≡ length (program_code program) - length code

-- the code of an inner piece, before that of others
abbrev piece_before : Played → ℕ → StmtTree → List Instr → List Instr
piece_before program i st rest = Turn (i + 1) ∷ body_code (scope_at program i) (start_of program) (firsts_at program i) st.body rest

pieces_begin : (program : Played) (i : ℕ) (sts : List StmtTree) → drop i program.pieces ≡ sts → pieces_code program (start_of program) i sts ≢ [] →
    BeginsWithTurn program (pieces_code program (start_of program) i sts)
pieces_begin program i [] e some = absurd (some refl)
pieces_begin program i (st ∷ rest) e some =
    by_outer (is_outer st.body) refl (pieces_begin program (i + 1) rest (rw add-one (drop_tail i program.pieces ∙ ap (drop 1) e))) some
  where
    by_outer : (b : Bool) → is_outer st.body ≡ b →
        (pieces_code program (start_of program) (i + 1) rest ≢ [] → BeginsWithTurn program (pieces_code program (start_of program) (i + 1) rest)) →
        cond b (pieces_code program (start_of program) (i + 1) rest) (piece_before program i st (pieces_code program (start_of program) (i + 1) rest)) ≢ [] →
        BeginsWithTurn program (cond b (pieces_code program (start_of program) (i + 1) rest) (piece_before program i st (pieces_code program (start_of program) (i + 1) rest)))
    by_outer true is beyond some = beyond some
    by_outer false is beyond some = record {
      first = i;
      piece = i + 1;
      rest = body_code (scope_at program i) (start_of program) (firsts_at program i) st.body (pieces_code program (start_of program) (i + 1) rest);
      is = refl;
      starts = start_is program i st (get_head i program.pieces ∙ ap head_of e) is
          ∙ ap (λ l. length (program_code program) - length (pieces_code program (start_of program) i l)) e
          ∙ ap (λ b. length (program_code program) - length (cond b (pieces_code program (start_of program) (i + 1) rest)
          (piece_before program i st (pieces_code program (start_of program) (i + 1) rest)))) is;
    }

module _ (program : Played) where
  abbrev Code : List Instr
  Code = program_code program

  abbrev Entries : List ℕ
  Entries = program_entries program

  abbrev These : Constants
  These = constants_in program

  abbrev All : ℕ
  All = length Code

  abbrev place : ℕ → ℕ
  place = start_of program

  abbrev From : ℕ → List StmtTree → List Instr
  From i sts = pieces_code program place i sts

  after_turn : (scope : Scope) (q : ℕ) (code : List Instr) → suc (length (Turn q ∷ code)) ≤ All → All - length (Turn q ∷ code) ≡ place scope.follow →
      IsAtRest place Entries (texts_of program) (literals_of program) All scope (Turn q ∷ code)
  after_turn scope q code within e =
      let next : suc (All - suc (length (Turn q ∷ code))) ≡ All - length (Turn q ∷ code) = omega (arith, within) in
      record { falls_on = λ t k. ap (λ n. let h : Happened = Led [] n t k in h) e; is_after = next ∙ e }

  -- what follows a piece that is not the last of its procedure
  after_piece : (i : ℕ) (sts : List StmtTree) → drop (i + 1) program.pieces ≡ sts → suc (length (From (i + 1) sts)) ≤ All → StandsInProcedure sts →
      IsAtRest place Entries (texts_of program) (literals_of program) All (scope_at program i) (From (i + 1) sts)
  after_piece i [] e within go = absurd go
  after_piece i (st ∷ rest) e within go =
      let code = body_code (scope_at program (i + 1)) place (firsts_at program (i + 1)) st.body (From (i + 1 + 1) rest) in
      let is : From (i + 1) (st ∷ rest) ≡ Turn (i + 1 + 1) ∷ code = ap (λ b. cond b (From (i + 1 + 1) rest) (Turn (i + 1 + 1) ∷ code)) go in
      let at = start_is program (i + 1) st (get_head (i + 1) program.pieces ∙ ap head_of e) go in
      let at' : All - length (Turn (i + 1 + 1) ∷ code) ≡ place (i + 1) = sym (at ∙ ap (λ l. All - length (From (i + 1) l)) e ∙ ap (λ c. All - length c) is) in
      subst (IsAtRest place Entries (texts_of program) (literals_of program) All (scope_at program i)) (sym is)
      (after_turn (scope_at program i) (i + 1 + 1) code (omega (arith, within, ap length is)) at')

  module _ (closed : IsClosed program.pieces) (short : All ≤ nowhere) where
    none_there : (s : State) (k : Chain) → code_turn Entries These Code nowhere s k ≡ Lacks []
    none_there s k = ap (λ c. begins Entries These All c s k) (drop_all nowhere Code short)

    -- the code after a piece of a procedure is not all
    not_all : (i : ℕ) (st : StmtTree) (rest : List StmtTree) → drop i program.pieces ≡ st ∷ rest → is_outer st.body ≡ false → suc (length (From (i + 1) rest)) ≤ All
    not_all i st rest e inner =
        let scope = scope_at program i in
        let first = firsts_at program i in
        let more : List Instr = From (i + 1) rest in
        let own : List Instr = body_code scope place first st.body [] in
        let split = code_split program place i in
        let here : From i (drop i program.pieces) ≡ Turn (i + 1) ∷ body_code scope place first st.body more =
        ap (From i) e ∙ ap (λ b. cond b more (Turn (i + 1) ∷ body_code scope place first st.body more)) inner in
        omega (
          arith,
          ap length split.1,
          length-append split.0 (From i (drop i program.pieces)),
          ap length here,
          ap length (body_before scope place first st.body more),
          length-append own more,
        )

    -- the turn of the code that begins at the place of a piece is that of the piece
    abbrev IsSame : ℕ → State → Chain → Type 0
    IsSame i s k = code_turn Entries These Code (place i) (placed_state place s) k ≡ happens k (placed place (turn program i s))

    inner_follows : (i : ℕ) (s : State) (k : Chain) (st : StmtTree) (rest : List StmtTree) → drop i program.pieces ≡ st ∷ rest → is_outer st.body ≡ false → IsSame i s k
    inner_follows i s k st rest e inner =
        let at : slice_get program.pieces i ≡ Some st = get_head i program.pieces ∙ ap head_of e in
        let next : drop (i + 1) program.pieces ≡ rest = rw add-one (drop_tail i program.pieces ∙ ap (drop 1) e) in
        let c : IsClosed (st ∷ rest) = subst IsClosed e (closed_drop i program.pieces closed) in
        let scope = scope_at program i in
        let first = firsts_at program i in
        let body = body_code scope place first st.body (From (i + 1) rest) in
        ap (λ d. begins Entries These All d (placed_state place s) k) (code_from program i st at inner ∙ ap (From i) e)
        ∙ ap (λ b. begins Entries These All (cond b (From (i + 1) rest) (Turn (i + 1) ∷ body)) (placed_state place s) k) inner
        ∙ ap (happened_in_piece (i + 1))
        (body_follows place Entries (texts_of program) (literals_of program) All scope s k first st.body (From (i + 1) rest) (entry_is program)
        (λ f. after_piece i rest next (not_all i st rest e inner) (c.0 inner f)) (constants_at i program st rest e))
        ∙ sym (happens_in_piece k (i + 1) (placed place (done scope s st.body)))
        ∙ ap (happens k) (piece_placed place (i + 1) (done scope s st.body) ∙ ap (λ o. placed place (turn_of (scope_at program i) (i + 1) s o)) (sym at))

    by_piece : (i : ℕ) (s : State) (k : Chain) (sts : List StmtTree) → drop i program.pieces ≡ sts → IsSame i s k
    by_piece i s k [] e =
        let at : slice_get program.pieces i ≡ None = get_head i program.pieces ∙ ap head_of e in
        ap (λ n. code_turn Entries These Code n (placed_state place s) k) (start_none program i at)
        ∙ none_there (placed_state place s) k
        ∙ ap (λ o. happens k (placed place (turn_of (scope_at program i) (i + 1) s o))) (sym at)
    by_piece i s k (st ∷ rest) e = by_outer (is_outer st.body) refl
      where
        at : slice_get program.pieces i ≡ Some st
        at = get_head i program.pieces ∙ ap head_of e

        by_outer : (b : Bool) → is_outer st.body ≡ b → IsSame i s k
        by_outer true h =
            ap (λ n. code_turn Entries These Code n (placed_state place s) k) (start_head program i st at h)
            ∙ none_there (placed_state place s) k
            ∙ ap (λ t. happens k (placed place t)) (sym (ap (turn_of (scope_at program i) (i + 1) s) at ∙ ap (turn_of_piece (i + 1)) (outer_stays (scope_at program i) s st.body h)))
        by_outer false h = inner_follows i s k st rest e h

    pub turn_follows : (i : ℕ) (s : State) (k : Chain) → IsSame i s k
    turn_follows i s k = by_piece i s k (drop i program.pieces) refl

    -- so many turns of the code from the place of a piece on are those of the program
    abbrev RunsSame : ℕ → Type 0
    RunsSame n = (i : ℕ) (s : State) (k : Chain) → code_run Entries These Code n (place i) (placed_state place s) k ≡ placed_run place (run program n i s k)

    goes_follows : (n : ℕ) → RunsSame n → (h : Happened) (s : State) (k : Chain) →
        goes_on (placed_happened place h) (placed_state place s) k (code_run Entries These Code n) ≡ placed_run place (goes_on h s k (run program n))
    goes_follows n rest (Led events i t l) s k = ap (after events) (rest i t l)
    goes_follows n rest (Finished events e t l) s k = refl
    goes_follows n rest (Broke events f t l) s k = refl
    goes_follows n rest (Lacks events) s k = refl

    run_follows : (n : ℕ) → RunsSame n
    run_follows zero i s k = refl
    run_follows (suc n) i s k =
        ap (λ h. goes_on h (placed_state place s) k (code_run Entries These Code n)) (turn_follows i s k ∙ happens_placed place k (turn program i s))
        ∙ goes_follows n (run_follows n) (happens k (turn program i s)) s k

    module _ (start_all : AllStart program.presets) (some : From 0 program.pieces ≢ []) where
      first_turn : BeginsWithTurn program (From 0 program.pieces)
      first_turn = pieces_begin program 0 program.pieces refl some

      -- after the prologue stands the turn of a piece
      turn_after : (t : State) (k : Chain) → stretch Entries These All (From 0 program.pieces) [] t k ≡ Led [] (place first_turn.first) t k
      turn_after t k =
          ap (λ c. stretch Entries These All c [] t k) first_turn.is
          ∙ ap (λ n. let h : Happened = Led [] n t k in h) (ap (λ c. All - length c) (sym first_turn.is) ∙ sym first_turn.starts)

      pub stands : Stands program place Entries These Code (zeros_of program)
      stands chosen n k =
          let s : State = start chosen (zeros_of program) in
          ap (λ h. goes_on h s k (code_run Entries These Code n))
          (begins_alike program place Entries (texts_of program) (literals_of program) All (entry_is program) first_turn.first (From 0 program.pieces) s k
          (λ i preset others e. preset_known i program preset others e) start_all turn_after
          ∙ happens_placed place k (beginning program s))
          ∙ goes_follows n (run_follows n) (happens k (beginning program s)) s k
